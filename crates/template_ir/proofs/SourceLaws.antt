-- What a program gives for the texts of messages in the source.
use Rattle.std.proofs.Common.{◌≡◌, ◌+◌, ◌≤◌, ℕ, ℤ, pos, Bool, true, false, List, [], ◌∷◌, ◌++◌, Option, Some, None}
use Rattle.std.proofs.Common.{if◌then◌else◌, refl, sym, ap, ◌∙◌, arith, take, bytes_eq}
use Rattle.std.specs.Prelude.{◌-ℤ◌, codes}
use Rattle.std.specs.Option.{option_or}
use Rattle.soy_base.specs.declared.place.Place.{Place}
use Rattle.plural_rules.specs.Category.{is_same}
use Rattle.plural_rules.specs.declared.category.Category.{Category}
use Rattle.plural_rules.specs.declared.category.Category.TheVariants as category
use Rattle.soy_rules.specs.Cost.{cost}
use Rattle.soy_tree.specs.Nodes.{Nodes, MessageBody, PluralCases, SelectCases, TextNode, Print, If, Switch, For, Let}
use Rattle.soy_tree.specs.Nodes.{LetBlock, Call, MessageNode, no_node, node, Parts, Plural, Select, no_plural_case}
use Rattle.soy_tree.specs.Nodes.{plural_case, no_select_case, select_case}
use Rattle.soy_rules.specs.Templates.{Declared}
use Rattle.soy_rules.specs.Val.{is_same_int}
use Rattle.soy_pieces.specs.Branch.{int_of, word_of}
use Rattle.soy_pieces.specs.Giving.{Means, RunEnv, StateSoFar, with_choice}
use Rattle.soy_pieces.specs.Outcome.{ArmTaken, Outcome, continued_by}
use Rattle.soy_pieces.specs.Pieces.{RunContext, nodes_mean, plural_cases_mean, select_cases_mean, source_means}
use Rattle.soy_pieces.specs.Pieces.{unbound}
use Rattle.soy_pieces.specs.Pieces.{valued}
use Rattle.soy_pieces.specs.Site.{Site}
use Rattle.template_ir.specs.Compiles.{StandsNodes, StandsPluralCases, StandsSelectCases, StandsSource, other_arm}
use Rattle.template_ir.specs.Compiles.{other_word}
use Rattle.template_ir.specs.HoleCounts.{body_holes, plural_holes, select_holes}
use Rattle.template_ir.specs.Ops.{PluralOp, Program, SelectOp}
use Rattle.template_ir.specs.Run.{OpMeans, arm_gives, block_gives, category_in, exact_block, plural_gives}
use Rattle.template_ir.specs.Run.{select_block, word_block}
use Rattle.template_ir.specs.declared.op.Block as code_block
use Rattle.template_ir.specs.declared.op.ExactBlock.{ExactBlock}
use Rattle.template_ir.specs.declared.op.WordBlock.{WordBlock}
use Rattle.template_ir.proofs.Core.{all_means, context, costed, from_here, op_first, print_law, text_law}
use Rattle.template_ir.proofs.Forward.{nodes_forward}
use Rattle.template_ir.proofs.Matching.{EnvsMatch, cost_match, operand_match}
use Rattle.template_ir.proofs.PartLaws.{as_block, end_of_block, goes_here, no_later}
use Rattle.template_ir.specs.Placed.{AreTexts, HasNoOther, NodesPlaced, Picks, PluralPlaced, SelectPlaced, SourcePlaced}
use Rattle.template_ir.proofs.Plain.{Same, plain, same_free}

the_last : (t : Bool) (b : code_block.Block) → option_or (if t then Some b else None) (Some b) ≡ Some b
the_last true b = refl
the_last false b = refl

the_second : (t : Bool) → t ≡ false → (a : code_block.Block) (b : Option code_block.Block)
    → (if t then Some a else b) ≡ b
the_second true a b h = let no : ⊥ = cc in absurd no
the_second false a b h = refl

module _ (c : RunContext) (p : Program) (places : List Place) (called : Site → Declared → RunEnv → Outcome)
    (opens : Site → ℕ → RunEnv → Outcome) (Opened : ℕ → RunEnv → Type 0)
    (direction : p.direction ≡ c.direction) (env other : RunEnv) (all : EnvsMatch env other) where
  texts_law : (ns : Nodes) → AreTexts ns → (hole at past : ℕ)
      → StandsNodes (context c p places called opens Opened direction) ns hole at past
      → (end : ℕ) (k : ℤ) (rest : Outcome) → past ≤ end
      → (so_far : StateSoFar) (on : StateSoFar → Outcome) (Next : StateSoFar → Type 0)
      → NodesPlaced c places called Opened ns hole env so_far (λ inner now. Next now)
      → ((now : StateSoFar) → Next now
      → Same (on now) (from_here c p places called opens Opened direction past end k other rest))
      → Same (nodes_mean c called ns env so_far (unbound on))
      (from_here c p places called opens Opened direction at end k other rest)
  texts_law no_node texts hole at past h end k rest l so_far on Next placed next =
      goes_here c p places called opens Opened direction at past end k other rest (on so_far) h (next so_far placed)
  texts_law (node (TextNode text span) ns) texts hole at past h end k rest l so_far on Next placed next =
      text_law c p places called opens Opened direction text at h.0 end k rest h.1
      (no_later (nodes_forward (context c p places called opens Opened direction) ns (hole + 0) h.0 past h.2) l) other
      so_far (λ now. nodes_mean c called ns env now (unbound on))
      (λ now. NodesPlaced c places called Opened ns (hole + 0) env now (λ inner after. Next after)) placed
      (λ now x. texts_law ns texts (hole + 0) h.0 past h.2 end k rest l now on Next x next)
  texts_law (node (Print e phname span) ns) texts hole at past h end k rest l so_far on Next placed next =
      print_law c p places called opens Opened direction e hole at h.0 end k rest h.1
      (no_later (nodes_forward (context c p places called opens Opened direction) ns (hole + 1) h.0 past h.2) l) env
      other
      all so_far (λ now. nodes_mean c called ns env now (unbound on))
      (λ now. NodesPlaced c places called Opened ns (hole + 1) env now (λ inner after. Next after)) placed
      (λ now x. texts_law ns texts (hole + 1) h.0 past h.2 end k rest l now on Next x next)
  texts_law (node (If arms last span) ns) texts hole at past h end k rest l so_far on Next placed next = absurd texts
  texts_law (node (Switch e cases last span) ns) texts hole at past h end k rest l so_far on Next placed next =
      absurd texts
  texts_law (node (For name index e body span) ns) texts hole at past h end k rest l so_far on Next placed next =
      absurd texts
  texts_law (node (Let name e span) ns) texts hole at past h end k rest l so_far on Next placed next = absurd texts
  texts_law (node (LetBlock name kind body span) ns) texts hole at past h end k rest l so_far on Next placed next =
      absurd texts
  texts_law (node (Call name given handed span) ns) texts hole at past h end k rest l so_far on Next placed next =
      absurd texts
  texts_law (node (MessageNode m last span) ns) texts hole at past h end k rest l so_far on Next placed next =
      absurd texts

  -- a case that is chosen, or the search goes on
  case_or : (before : ℕ) (r : ℤ) (z : Outcome) (t u : Bool) → t ≡ u → (X Y : Type 0) → Picks t X Y → (i : ℕ)
      (a d : Outcome) (b0 : code_block.Block) (b b' : Option code_block.Block)
      → (X → Same a (continued_by (block_gives (take before (all_means c p places called opens Opened direction)) b0 r
      other) z))
      → (Y → Same d (continued_by (arm_gives (take before (all_means c p places called opens Opened direction))
      (option_or b b') r other) z))
      → Same (if t then with_choice (ArmTaken (Some i)) a else d)
      (continued_by (arm_gives (take before (all_means c p places called opens Opened direction))
      (option_or (if u then Some b0 else b) b') r other) z)
  case_or before r z true true same X Y h i a d b0 b b' f g =
      same_free (record { cost = 0; work = 1; choices = ArmTaken (Some i) ∷ [] }) a refl ∙ f h
  case_or before r z true false same X Y h i a d b0 b b' f g = let no : ⊥ = cc in absurd no
  case_or before r z false true same X Y h i a d b0 b b' f g = let no : ⊥ = cc in absurd no
  case_or before r z false false same X Y h i a d b0 b b' f g = g h

  -- the word of the default finds the default
  other_found : (cases : SelectCases) (blocks : List WordBlock) (hole before : ℕ) (b : code_block.Block)
      → StandsSelectCases (context c p places called opens Opened direction) cases blocks hole before
      → HasNoOther cases → word_block (codes "other") (blocks ++ (other_word b ∷ [])) ≡ Some b
  other_found no_select_case [] hole before b h none = refl
  other_found no_select_case (x ∷ blocks) hole before b h none = absurd h
  other_found (select_case is body cases) [] hole before b h none = absurd h
  other_found (select_case is body cases) (x ∷ blocks) hole before b h none =
      the_second (bytes_eq x.is (codes "other")) (ap (λ y. bytes_eq y (codes "other")) h.0 ∙ none.0) x.body
      (word_block (codes "other") (blocks ++ (other_word b ∷ [])))
      ∙ other_found cases blocks (hole + body_holes c.translation body) before b h.3 none.1

  mutual
    pub source_law : (body : MessageBody) (hole at past : ℕ)
        → StandsSource (context c p places called opens Opened direction) body hole at past
        → (end : ℕ) (k : ℤ) (rest : Outcome) → past ≤ end
        → (so_far : StateSoFar) (on : StateSoFar → Outcome) (Next : StateSoFar → Type 0)
        → SourcePlaced c places called Opened body hole env so_far Next
        → ((now : StateSoFar) → Next now
        → Same (on now) (from_here c p places called opens Opened direction past end k other rest))
        → Same (source_means c called body env so_far on)
        (from_here c p places called opens Opened direction at end k other rest)
    source_law (Parts ns) hole at past h end k rest l so_far on Next placed next =
        texts_law ns placed.0 hole at past h end k rest l so_far on Next placed.1 next
    source_law (Plural e offset cases last) hole at past h end k rest l so_far on Next placed next =
        let ms : List OpMeans = take at (all_means c p places called opens Opened direction) in
        let z : Outcome = from_here c p places called opens Opened direction past end k other rest in
        let n : ℤ = int_of (valued e env) in
        let r : ℤ = n -ℤ pos offset in
        let q : Category = category_in p false r in
        costed (cost e env) (cost e other) _
        (plural_gives p opens ms (int_of (valued e other)) offset false h.0 (other_arm h.1 ∷ []) other) z
        (cost_match env other all e)
        (plural_law cases h.0 hole at h.2 n r 0 (source_means c called last env) h.1 so_far on Next z _
        (λ x. as_block c p places called opens Opened direction h.1 at h.3 r other
        (source_means c called last env so_far on) z
        (source_law last (hole + plural_holes c.translation cases) h.1.first h.1.end h.4 h.1.end r z (omega arith)
        so_far
        on Next x (λ now y. end_of_block c p places called opens Opened direction h.1.end r other (on now) z (next now
        y))))
        placed next
        ∙ (ap (λ b. plain (continued_by (arm_gives ms (option_or (exact_block n h.0) b) r other) z))
        (sym (the_last (is_same category.Other q) h.1))
        ∙ ap (λ v. plain (continued_by (plural_gives p opens ms (int_of v) offset false h.0 (other_arm h.1 ∷ []) other)
        z)) (operand_match env other all e)))
        ∙ ap plain
        (sym (op_first c p places called opens Opened direction (PluralOp e offset false h.0 (other_arm h.1 ∷ [])) at
        past
        end k other rest h.5 l))
    source_law (Select e cases last) hole at past h end k rest l so_far on Next placed next =
        let ms : List OpMeans = take at (all_means c p places called opens Opened direction) in
        let z : Outcome = from_here c p places called opens Opened direction past end k other rest in
        let words : List WordBlock = h.0 ++ (other_word h.1 ∷ []) in
        costed (cost e env) (cost e other) _ (arm_gives ms (select_block (word_of (valued e other)) words) (pos 0)
        other) z
        (cost_match env other all e)
        (select_law cases h.0 hole at h.2 (word_of (valued e env)) 0 (source_means c called last env) h.1 so_far on
        Next z _
        (λ x. as_block c p places called opens Opened direction h.1 at h.3 (pos 0) other
        (source_means c called last env so_far on) z
        (source_law last (hole + select_holes c.translation cases) h.1.first h.1.end h.4 h.1.end (pos 0) z (omega arith)
        so_far on Next x
        (λ now y. end_of_block c p places called opens Opened direction h.1.end (pos 0) other (on now) z (next now y))))
        placed.1 next
        ∙ (ap (λ b. plain (continued_by (arm_gives ms (option_or (word_block (word_of (valued e env)) words) b) (pos 0)
        other) z)) (sym (other_found cases h.0 hole at h.1 h.2 placed.0))
        ∙ ap (λ v. plain (continued_by (arm_gives ms (select_block (word_of v) words) (pos 0) other) z))
        (operand_match env other all e)))
        ∙ ap plain
        (sym (op_first c p places called opens Opened direction (SelectOp e words) at past end k other rest h.5 l))

    plural_law : (cases : PluralCases) (blocks : List ExactBlock) (hole before : ℕ)
        → StandsPluralCases (context c p places called opens Opened direction) cases blocks hole before
        → (n r : ℤ) (i : ℕ) (last : Means) (b : code_block.Block)
        → (so_far : StateSoFar) (on : StateSoFar → Outcome) (Next : StateSoFar → Type 0) (z : Outcome) (Last : Type 0)
        → (Last → Same (last so_far on)
        (continued_by (block_gives (take before (all_means c p places called opens Opened direction)) b r other) z))
        → PluralPlaced c places called Opened n cases Last hole env so_far Next
        → ((now : StateSoFar) → Next now → Same (on now) z)
        → Same (plural_cases_mean c called n cases last i env so_far on)
        (continued_by (arm_gives (take before (all_means c p places called opens Opened direction))
        (option_or (exact_block n blocks) (Some b)) r other) z)
    plural_law no_plural_case [] hole before h n r i last b so_far on Next z Last lasts placed next =
        same_free (record { cost = 0; work = 1; choices = ArmTaken (Some i) ∷ [] }) (last so_far on) refl ∙ lasts placed
    plural_law no_plural_case (x ∷ blocks) hole before h n r i last b so_far on Next z Last lasts placed next = absurd h
    plural_law (plural_case m body cases) [] hole before h n r i last b so_far on Next z Last lasts placed next =
        absurd h
    plural_law (plural_case m body cases) (x ∷ blocks) hole before h n r i last b so_far on Next z Last lasts placed
        next =
        case_or before r z (is_same_int m n) (is_same_int x.is n) (ap (λ y. is_same_int y n) (sym h.0)) _ _ placed i
        (source_means c called body env so_far on) (plural_cases_mean c called n cases last (i + 1) env so_far on)
        x.body
        (exact_block n blocks) (Some b)
        (λ here. as_block c p places called opens Opened direction x.body before h.1 r other
        (source_means c called body env so_far on) z
        (source_law body hole x.body.first x.body.end h.2 x.body.end r z (omega arith) so_far on Next here
        (λ now y. end_of_block c p places called opens Opened direction x.body.end r other (on now) z (next now y))))
        (λ there. plural_law cases blocks (hole + body_holes c.translation body) before h.3 n r (i + 1) last b so_far on
        Next z Last lasts there next)

    select_law : (cases : SelectCases) (blocks : List WordBlock) (hole before : ℕ)
        → StandsSelectCases (context c p places called opens Opened direction) cases blocks hole before
        → (word : List ℕ) (i : ℕ) (last : Means) (b : code_block.Block)
        → (so_far : StateSoFar) (on : StateSoFar → Outcome) (Next : StateSoFar → Type 0) (z : Outcome) (Last : Type 0)
        → (Last → Same (last so_far on)
        (continued_by (block_gives (take before (all_means c p places called opens Opened direction)) b (pos 0) other)
        z))
        → SelectPlaced c places called Opened word cases Last hole env so_far Next
        → ((now : StateSoFar) → Next now → Same (on now) z)
        → Same (select_cases_mean c called word cases last i env so_far on)
        (continued_by (arm_gives (take before (all_means c p places called opens Opened direction))
        (option_or (word_block word (blocks ++ (other_word b ∷ []))) (Some b)) (pos 0) other) z)
    select_law no_select_case [] hole before h word i last b so_far on Next z Last lasts placed next =
        same_free (record { cost = 0; work = 1; choices = ArmTaken (Some i) ∷ [] }) (last so_far on) refl
        ∙ (lasts placed
        ∙ ap (λ q. plain (continued_by (arm_gives (take before (all_means c p places called opens Opened direction)) q
        (pos 0) other) z)) (sym (the_last (bytes_eq (codes "other") word) b)))
    select_law no_select_case (x ∷ blocks) hole before h word i last b so_far on Next z Last lasts placed next =
        absurd h
    select_law (select_case m body cases) [] hole before h word i last b so_far on Next z Last lasts placed next =
        absurd h
    select_law (select_case m body cases) (x ∷ blocks) hole before h word i last b so_far on Next z Last lasts placed
        next =
        case_or before (pos 0) z (bytes_eq m word) (bytes_eq x.is word) (ap (λ y. bytes_eq y word) (sym h.0)) _ _
        placed i
        (source_means c called body env so_far on) (select_cases_mean c called word cases last (i + 1) env so_far on)
        x.body (word_block word (blocks ++ (other_word b ∷ []))) (Some b)
        (λ here. as_block c p places called opens Opened direction x.body before h.1 (pos 0) other
        (source_means c called body env so_far on) z
        (source_law body hole x.body.first x.body.end h.2 x.body.end (pos 0) z (omega arith) so_far on Next here
        (λ now y. end_of_block c p places called opens Opened direction x.body.end (pos 0) other (on now) z (next now
        y))))
        (λ there. select_law cases blocks (hole + body_holes c.translation body) before h.3 word (i + 1) last b so_far
        on
        Next z Last lasts there next)
