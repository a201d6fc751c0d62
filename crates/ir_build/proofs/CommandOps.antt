-- The ops of single commands stand for them.
use Rattle.std.proofs.Common.{◌≡◌, ℕ, ◌+◌, Bool, false, List, [], ◌∷◌, ◌++◌, Option, Some, None, map}
use Rattle.std.proofs.Common.{refl, sym, ap, ◌∙◌, arith, subst}
use Rattle.soy_base.specs.declared.fault.Span.{Span}
use Rattle.soy_base.specs.declared.kind.Kind.{Kind}
use Rattle.soy_base.specs.declared.place.Place.{Place}
use Rattle.soy_tree.specs.Expressions.{Expr}
use Rattle.soy_tree.specs.Nodes.{Arguments, Arms, Call, Cases, For, If, Let, LetBlock, MessageBody, Nodes}
use Rattle.soy_tree.specs.Nodes.{PluralCases, Print, SelectCases, Switch, TextNode, argument, no_argument, no_otherwise}
use Rattle.soy_tree.specs.Nodes.{otherwise, Plural, Select, Parts}
use Rattle.soy_tree.specs.Types.{Name}
use Rattle.template_ir.specs.Compiles.{StandsGiven, other_arm, other_word, same_handed}
use Rattle.template_ir.specs.HoleCounts.{argument_holes, arm_holes, body_holes, case_holes, given_holes, node_holes}
use Rattle.template_ir.specs.HoleCounts.{nodes_holes, plural_holes, select_holes}
use Rattle.template_ir.specs.Ops.{Branch, Choice, ForOp, Handed, IfOp, LetBlockOp, LetOp, Op, PluralOp, PrintOp}
use Rattle.template_ir.specs.Ops.{SelectOp, SwitchOp}
use Rattle.template_ir.specs.StandFor.{StandsText, place_of}
use Rattle.template_ir.specs.declared.op.ExactBlock.{ExactBlock}
use Rattle.template_ir.specs.declared.op.WordBlock.{WordBlock}
use Rattle.ir_build.specs.Claims.{arms_stand, block_stands, body_stands, cases_stand, given_stand, node_stands}
use Rattle.ir_build.specs.Claims.{nodes_stand, plural_cases_stand, select_cases_stand}
use Rattle.ir_build.specs.Laid.{Lays, Made, Pushes, laid_block, with_hole, with_ops}
use Rattle.ir_build.specs.TextOps.{text_ops}
use Rattle.ir_build.specs.ViewScene.{call_op, context_of, names_on, translation_in}
use Rattle.ir_build.specs.declared.scene.Scene.{Scene}
use Rattle.ir_build.proofs.Laying.{hole_pushed, lays_both, lays_push, op_pushed, pushes_as, pushes_block}
use Rattle.ir_build.proofs.Laying.{pushes_none}
use Rattle.ir_build.proofs.OpLists.{append_nil}

-- ---- texts and prints

pub text_pushed : (places : List Place) (text : List ℕ) (m : Made) (own own_after : List Op)
    → own_after ≡ own ++ text_ops text
    → Pushes (λ hole all at end. StandsText places all text at end) 0 m m own own_after
text_pushed places [] m own own_after e =
    subst (λ (x : List Op). Pushes (λ hole all at end. StandsText places all [] at end) 0 m m own x)
    (sym (e ∙ append_nil own))
    (pushes_none (λ hole all at end. StandsText places all [] at end) m own (λ all at. refl))
text_pushed places (c ∷ text) m own own_after e =
    op_pushed (λ hole all at end. StandsText places all (c ∷ text) at end) m _ own own_after e
    (λ all at get. (get, refl))

module _ (s : Scene) where
  pub text_node_pushed : (text : List ℕ) (span : Span) (m : Made) (own own_after : List Op)
      → own_after ≡ own ++ text_ops text
      → Pushes (node_stands s (TextNode text span)) (node_holes (translation_in s) (TextNode text span)) m m own
      own_after
  text_node_pushed text span m own own_after e = text_pushed s.places.now text m own own_after e

  pub print_node_pushed : (e : Expr) (phname : Option Name) (span : Span) (a b : Made) (own own_after : List Op)
      → b ≡ with_hole a → own_after ≡ own ++ (PrintOp e (place_of s.places.now a.holes) ∷ [])
      → Pushes (node_stands s (Print e phname span)) (node_holes (translation_in s) (Print e phname span)) a b own
      own_after
  print_node_pushed e phname span a b own own_after is own_is =
      hole_pushed (node_stands s (Print e phname span)) a b (PrintOp e (place_of s.places.now a.holes)) own own_after is
      own_is (λ all at get. (get, refl))

  pub let_pushed : (x : Name) (e : Expr) (span : Span) (m : Made) (own own_after : List Op)
      → own_after ≡ own ++ (LetOp x e ∷ [])
      → Pushes (node_stands s (Let x e span)) (node_holes (translation_in s) (Let x e span)) m m own own_after
  let_pushed x e span m own own_after own_is =
      op_pushed (node_stands s (Let x e span)) m (LetOp x e) own own_after own_is (λ all at get. (get, refl))

  -- ---- blocks

  -- the block of nodes
  pub nodes_block : (ns : Nodes) (a b d : Made) (none inner : List Op) → none ≡ []
      → Pushes (nodes_stand s ns) (nodes_holes (translation_in s) ns) a b none inner → d ≡ with_ops b inner
      → Lays (block_stands (nodes_stand s ns) (laid_block b inner)) (nodes_holes (translation_in s) ns) a d
  nodes_block ns a b d none inner nil p is =
      pushes_block (nodes_stand s ns) (nodes_holes (translation_in s) ns) a b d none inner nil p is

  pub if_pushed : (arms : Arms) (span : Span) (branches : List Branch) (a b : Made) (own own_after : List Op)
      → Lays (arms_stand s arms branches) (arm_holes (translation_in s) arms) a b
      → own_after ≡ own ++ (IfOp branches None ∷ [])
      → Pushes (node_stands s (If arms no_otherwise span)) (node_holes (translation_in s) (If arms no_otherwise span)) a
      b own own_after
  if_pushed arms span branches a b own own_after l e =
      let Y : ℕ → List Op → ℕ → ℕ → Type 0 = node_stands s (If arms no_otherwise span) in
      let n : arm_holes (translation_in s) arms ≡ arm_holes (translation_in s) arms + 0 = omega arith in
      pushes_as Y Y (arm_holes (translation_in s) arms) (arm_holes (translation_in s) arms + 0) a b own own_after n
      (λ hole all at end y. y)
      (lays_push (arms_stand s arms branches) Y (arm_holes (translation_in s) arms) a b (IfOp branches None) own
      own_after l e (λ hole all at x get. (branches, None, x, tt, (get, refl))))

  pub if_else_pushed : (arms : Arms) (body : Nodes) (span : Span) (branches : List Branch) (a b d f : Made)
      (none inner own own_after : List Op)
      → Lays (arms_stand s arms branches) (arm_holes (translation_in s) arms) a b → none ≡ []
      → Pushes (nodes_stand s body) (nodes_holes (translation_in s) body) b d none inner → f ≡ with_ops d inner
      → own_after ≡ own ++ (IfOp branches (Some (laid_block d inner)) ∷ [])
      → Pushes (node_stands s (If arms (otherwise body) span))
      (node_holes (translation_in s) (If arms (otherwise body) span)) a f own own_after
  if_else_pushed arms body span branches a b d f none inner own own_after l nil p is e =
      lays_push _ (node_stands s (If arms (otherwise body) span))
      (arm_holes (translation_in s) arms + nodes_holes (translation_in s) body) a f
      (IfOp branches (Some (laid_block d inner))) own own_after
      (lays_both (arms_stand s arms branches) (block_stands (nodes_stand s body) (laid_block d inner))
      (arm_holes (translation_in s) arms) (nodes_holes (translation_in s) body) a b f l
      (nodes_block body b d f none inner nil p is)) e
      (λ hole all at x get. (branches, Some (laid_block d inner), x.0, x.1, (get, refl)))

  pub switch_pushed : (e : Expr) (cases : Cases) (span : Span) (choices : List Choice) (a b : Made)
      (own own_after : List Op) → Lays (cases_stand s cases choices) (case_holes (translation_in s) cases) a b
      → own_after ≡ own ++ (SwitchOp e choices None ∷ [])
      → Pushes (node_stands s (Switch e cases no_otherwise span))
      (node_holes (translation_in s) (Switch e cases no_otherwise span)) a b own own_after
  switch_pushed e cases span choices a b own own_after l own_is =
      let Y : ℕ → List Op → ℕ → ℕ → Type 0 = node_stands s (Switch e cases no_otherwise span) in
      let n : case_holes (translation_in s) cases ≡ case_holes (translation_in s) cases + 0 = omega arith in
      pushes_as Y Y (case_holes (translation_in s) cases) (case_holes (translation_in s) cases + 0) a b own own_after n
      (λ hole all at end y. y)
      (lays_push (cases_stand s cases choices) Y (case_holes (translation_in s) cases) a b (SwitchOp e choices None) own
      own_after l own_is (λ hole all at x get. (choices, None, x, tt, (get, refl))))

  pub switch_default_pushed : (e : Expr) (cases : Cases) (body : Nodes) (span : Span) (choices : List Choice)
      (a b d f : Made) (none inner own own_after : List Op)
      → Lays (cases_stand s cases choices) (case_holes (translation_in s) cases) a b → none ≡ []
      → Pushes (nodes_stand s body) (nodes_holes (translation_in s) body) b d none inner → f ≡ with_ops d inner
      → own_after ≡ own ++ (SwitchOp e choices (Some (laid_block d inner)) ∷ [])
      → Pushes (node_stands s (Switch e cases (otherwise body) span))
      (node_holes (translation_in s) (Switch e cases (otherwise body) span)) a f own own_after
  switch_default_pushed e cases body span choices a b d f none inner own own_after l nil p is own_is =
      lays_push _ (node_stands s (Switch e cases (otherwise body) span))
      (case_holes (translation_in s) cases + nodes_holes (translation_in s) body) a f
      (SwitchOp e choices (Some (laid_block d inner))) own own_after
      (lays_both (cases_stand s cases choices) (block_stands (nodes_stand s body) (laid_block d inner))
      (case_holes (translation_in s) cases) (nodes_holes (translation_in s) body) a b f l
      (nodes_block body b d f none inner nil p is)) own_is
      (λ hole all at x get. (choices, Some (laid_block d inner), x.0, x.1, (get, refl)))

  pub for_pushed : (x : Name) (index : Option Name) (e : Expr) (body : Nodes) (span : Span) (a b d : Made)
      (none inner own own_after : List Op) → none ≡ []
      → Pushes (nodes_stand s body) (nodes_holes (translation_in s) body) a b none inner → d ≡ with_ops b inner
      → own_after ≡ own ++ (ForOp x index e (laid_block b inner) ∷ [])
      → Pushes (node_stands s (For x index e body span)) (node_holes (translation_in s) (For x index e body span)) a d
      own own_after
  for_pushed x index e body span a b d none inner own own_after nil p is own_is =
      lays_push (block_stands (nodes_stand s body) (laid_block b inner)) (node_stands s (For x index e body span))
      (nodes_holes (translation_in s) body) a d (ForOp x index e (laid_block b inner)) own own_after
      (nodes_block body a b d none inner nil p is) own_is
      (λ hole all at y get. (laid_block b inner, y.0, y.1, (get, refl)))

  pub let_block_pushed : (x : Name) (kind : Kind) (body : Nodes) (span : Span) (a b d : Made)
      (none inner own own_after : List Op) → none ≡ []
      → Pushes (nodes_stand s body) (nodes_holes (translation_in s) body) a b none inner → d ≡ with_ops b inner
      → own_after ≡ own ++ (LetBlockOp x kind (laid_block b inner) ∷ [])
      → Pushes (node_stands s (LetBlock x kind body span)) (node_holes (translation_in s) (LetBlock x kind body span)) a
      d own own_after
  let_block_pushed x kind body span a b d none inner own own_after nil p is own_is =
      lays_push (block_stands (nodes_stand s body) (laid_block b inner)) (node_stands s (LetBlock x kind body span))
      (nodes_holes (translation_in s) body) a d (LetBlockOp x kind (laid_block b inner)) own own_after
      (nodes_block body a b d none inner nil p is) own_is
      (λ hole all at y get. (laid_block b inner, y.0, y.1, (get, refl)))

  -- ---- calls

  given_more : (all : List Op) (given : Arguments) (same : List Name) (handed : List Handed) (hole before : ℕ)
      → StandsGiven (context_of s all) given [] handed hole before
      → StandsGiven (context_of s all) given same (handed ++ map same_handed same) hole before
  given_more all no_argument same handed hole before h = ap (λ (x : List Handed). x ++ map same_handed same) h
  given_more all (argument name given span rest) same [] hole before h = absurd h
  given_more all (argument name given span rest) same (x ∷ handed) hole before h = (
    h.0,
    h.1,
    given_more all rest same handed (hole + given_holes (translation_in s) given) before h.2,
  )

  pub call_pushed : (name : Name) (all_on : Bool) (given : Arguments) (span : Span) (handed : List Handed)
      (point : Place) (a b d : Made) (own own_after : List Op) → b ≡ with_hole a → point ≡ place_of s.places.now a.holes
      → Lays (given_stand s given handed) (argument_holes (translation_in s) given) b d
      → own_after ≡ own ++ (call_op s name all_on given handed point span ∷ [])
      → Pushes (node_stands s (Call name all_on given span)) (node_holes (translation_in s)
      (Call name all_on given span)) a d own own_after
  call_pushed name all_on given span handed point a b d own own_after is point_is l own_is =
      let hole_first : Lays (λ hole all before. Unit {0}) 1 a b = record {
        holes = ap (λ (m : Made). m.holes) is;
        inner = [];
        ops = ap (λ (m : Made). m.ops) is ∙ sym (append_nil a.ops);
        stands = λ all before has le. tt;
      } in
      let both : Lays (λ hole all before. Unit {0} × given_stand s given handed (hole + 1) all before)
      (1 + argument_holes (translation_in s) given) a d =
      lays_both (λ hole all before. Unit {0}) (given_stand s given handed) 1 (argument_holes (translation_in s) given) a
      b d hole_first l in
      record {
        holes = both.holes;
        inner = both.inner;
        ops = both.ops;
        added = call_op s name all_on given handed point span ∷ [];
        own_ops = own_is;
        stands = λ all at has le here. (
          handed ++ map same_handed (names_on s name all_on given),
          given_more all given (names_on s name all_on given) handed (a.holes + 1) at (both.stands all at has le).1,
          (here.0 ∙ ap (λ (x : Place). Some (call_op s name all_on given handed x span)) point_is, refl),
        );
      }

  -- ---- the sources of messages

  pub parts_pushed : (ns : Nodes) (a b : Made) (own own_after : List Op)
      → Pushes (nodes_stand s ns) (nodes_holes (translation_in s) ns) a b own own_after
      → Pushes (body_stands s (Parts ns)) (body_holes (translation_in s) (Parts ns)) a b own own_after
  parts_pushed ns a b own own_after p = p

  pub plural_pushed : (e : Expr) (offset : ℕ) (cases : PluralCases) (other : MessageBody) (exact : List ExactBlock)
      (a b d f : Made) (none inner own own_after : List Op)
      → Lays (plural_cases_stand s cases exact) (plural_holes (translation_in s) cases) a b → none ≡ []
      → Pushes (body_stands s other) (body_holes (translation_in s) other) b d none inner → f ≡ with_ops d inner
      → own_after ≡ own ++ (PluralOp e offset false exact (other_arm (laid_block d inner) ∷ []) ∷ [])
      → Pushes (body_stands s (Plural e offset cases other)) (body_holes (translation_in s)
      (Plural e offset cases other)) a f own own_after
  plural_pushed e offset cases other exact a b d f none inner own own_after l nil p is own_is =
      lays_push _ (body_stands s (Plural e offset cases other))
      (plural_holes (translation_in s) cases + body_holes (translation_in s) other) a f
      (PluralOp e offset false exact (other_arm (laid_block d inner) ∷ [])) own own_after
      (lays_both (plural_cases_stand s cases exact) (block_stands (body_stands s other) (laid_block d inner))
      (plural_holes (translation_in s) cases) (body_holes (translation_in s) other) a b f l
      (pushes_block (body_stands s other) (body_holes (translation_in s) other) b d f none inner nil p is)) own_is
      (λ hole all at x get. (exact, laid_block d inner, x.0, x.1.0, x.1.1, (get, refl)))

  pub select_pushed : (e : Expr) (cases : SelectCases) (other : MessageBody) (words : List WordBlock)
      (a b d f : Made) (none inner own own_after : List Op)
      → Lays (select_cases_stand s cases words) (select_holes (translation_in s) cases) a b → none ≡ []
      → Pushes (body_stands s other) (body_holes (translation_in s) other) b d none inner → f ≡ with_ops d inner
      → own_after ≡ own ++ (SelectOp e (words ++ (other_word (laid_block d inner) ∷ [])) ∷ [])
      → Pushes (body_stands s (Select e cases other)) (body_holes (translation_in s) (Select e cases other)) a f own
      own_after
  select_pushed e cases other words a b d f none inner own own_after l nil p is own_is =
      lays_push _ (body_stands s (Select e cases other))
      (select_holes (translation_in s) cases + body_holes (translation_in s) other) a f
      (SelectOp e (words ++ (other_word (laid_block d inner) ∷ []))) own own_after
      (lays_both (select_cases_stand s cases words) (block_stands (body_stands s other) (laid_block d inner))
      (select_holes (translation_in s) cases) (body_holes (translation_in s) other) a b f l
      (pushes_block (body_stands s other) (body_holes (translation_in s) other) b d f none inner nil p is)) own_is
      (λ hole all at x get. (words, laid_block d inner, x.0, x.1.0, x.1.1, (get, refl)))
