-- A message is added as the text that the bundle chooses.
use Rattle.std.proofs.Common.{◌≡◌, ℕ, zero, suc, ◌+◌, ◌≤◌, List, [], ◌∷◌, ◌++◌, Option, Some, None, length, map, take}
use Rattle.std.proofs.Common.{refl, sym, ap, subst, ◌∙◌, arith}
use Rattle.soy_base.specs.declared.fault.Span.{Span}
use Rattle.soy_base.specs.declared.place.Place.{Place}
use Rattle.soy_pieces.specs.Pieces.{ChosenText, TheFallback, TheOwn, TheSource, chosen_after, chosen_of, chosen_text}
use Rattle.soy_pieces.specs.Pieces.{fallback_text}
use Rattle.soy_rules.specs.Placeholders.{uses_of}
use Rattle.soy_tree.specs.MessageParts.{MsgParts}
use Rattle.soy_tree.specs.Nodes.{Fallback, Message, MessageBody, MessageNode, fallback, message, no_fallback}
use Rattle.soy_rules.specs.Placeholders.{Use}
use Rattle.template_ir.specs.Compiles.{StandsMessage}
use Rattle.template_ir.specs.HoleCounts.{body_holes, fallback_holes, node_holes, parts_holes, source_holes}
use Rattle.template_ir.specs.HoleCounts.{translated_holes, translation_holes}
use Rattle.template_ir.specs.Ops.{Op}
use Rattle.template_ir.specs.StandFor.{StandsParts}
use Rattle.template_ir.specs.ViewOps.{view_op, view_ops}
use Rattle.template_ir.specs.declared.op.Op as code_op
use Rattle.ir_build.specs.Chooses.{Chooses, holes_behind}
use Rattle.ir_build.specs.Claims.{body_stands, node_stands, translation_stands}
use Rattle.ir_build.specs.Laid.{HasAt, Made, Pushes, with_holes}
use Rattle.ir_build.specs.ViewScene.{context_of, translation_in}
use Rattle.ir_build.specs.declared.scene.Scene.{Scene}
use Rattle.ir_build.proofs.Laying.{pushes_as}

-- ---- what is dropped

take_map : {A B : Type 0} (f : A → B) (n : ℕ) (xs : List A) → map f (take n xs) ≡ take n (map f xs)
take_map f zero xs = refl
take_map f (suc n) [] = refl
take_map f (suc n) (x ∷ xs) = ap (λ ys. f x ∷ ys) (take_map f n xs)

take_prefix : {A : Type 0} (xs ys : List A) → take (length xs) (xs ++ ys) ≡ xs
take_prefix [] ys = refl
take_prefix (x ∷ xs) ys = ap (λ zs. x ∷ zs) (take_prefix xs ys)

pub cut_is : (old new : List code_op.Op) (inner : List Op) (n : ℕ) → view_ops new ≡ view_ops old ++ inner
    → n ≡ length (view_ops old) → view_ops (take n new) ≡ view_ops old
cut_is old new inner n e l =
    take_map view_op n new
    ∙ (ap (take n) e ∙ (ap (λ k. take k (view_ops old ++ inner)) l ∙ take_prefix (view_ops old) inner))

pub made_same : (o p : List Op) (h k : ℕ) (a b : Made) → a ≡ record { ops = o; holes = h }
    → b ≡ record { ops = p; holes = k } → o ≡ p → h ≡ k → a ≡ b
made_same o p h k a b a_is b_is e f = a_is ∙ (rw (e, f) refl ∙ sym b_is)

-- a translation that is passed by
pub passed : (Y : ℕ → List Op → ℕ → ℕ → Type 0) (h : ℕ) (old now new : Made) (none own cut : List Op)
    → Pushes Y h old now none own → new ≡ record { ops = cut; holes = now.holes } → cut ≡ old.ops
    → new ≡ with_holes old h
passed Y h old now new none own cut p is e =
    is ∙ rw (e, p.holes) refl

-- ops that are cut off
pub made_cut : (m : Made) (ops cut : List code_op.Op) (h : ℕ) → m ≡ record { ops = view_ops ops; holes = h } → ops ≡ cut
    → m ≡ record { ops = view_ops cut; holes = h }
made_cut m ops cut h is e = is ∙ rw e refl

pub from_cut : (Y : ℕ → List Op → ℕ → ℕ → Type 0) (h : ℕ) (a cut b : Made) (own own_after : List Op) → a ≡ cut
    → Pushes Y h a b own own_after → Pushes Y h cut b own own_after
from_cut Y h a cut b own own_after e p = subst (λ (x : Made). Pushes Y h x b own own_after) e p

pushes_past : (Y : ℕ → List Op → ℕ → ℕ → Type 0) (h k : ℕ) (a b d : Made) (own own_after : List Op)
    → Pushes Y h a b own own_after → d ≡ with_holes b k → Pushes Y (h + k) a d own own_after
pushes_past Y h k a b d own own_after p is =
    subst (λ (m : Made). Pushes Y (h + k) a m own own_after) (sym is)
    (record {
      holes = let e : b.holes ≡ a.holes + h = p.holes in omega (arith, e);
      inner = p.inner;
      ops = p.ops;
      added = p.added;
      own_ops = p.own_ops;
      stands = p.stands;
    })

-- ---- the text that is chosen

module _ (tr : Message → Option MsgParts) (places : List Place) (m : Message) (old without : Made)
    (source own own_after : List Op) where
  chosen_is : (o : Message) (x y : Option MsgParts) → tr m ≡ x → tr o ≡ y
      → chosen_text tr m (fallback o) ≡ chosen_of x (chosen_after o y)
  chosen_is o x y e f =
      ap (λ v. chosen_of v (fallback_text tr (fallback o))) e ∙ ap (λ v. chosen_of x (chosen_after o v)) f

  pub chose_source : (other : Fallback) (new : Made) → TheSource ≡ chosen_text tr m other → new ≡ old
      → own_after ≡ own ++ source
      → Chooses tr places (chosen_text tr m other) m other old without new source own own_after
  chose_source other new e is own_is =
      subst (λ (x : ChosenText). Chooses tr places x m other old without new source own own_after) e (is, own_is)

  pub alone_source : (new : Made) → tr m ≡ None → new ≡ old → own_after ≡ own ++ source
      → Chooses tr places (chosen_text tr m no_fallback) m no_fallback old without new source own own_after
  alone_source new e is own_is =
      chose_source no_fallback new (sym (ap (λ v. chosen_of v (fallback_text tr no_fallback)) e)) is own_is

  pub either_source : (o : Message) (new : Made) → tr m ≡ None → tr o ≡ None → new ≡ old → own_after ≡ own ++ source
      → Chooses tr places (chosen_text tr m (fallback o)) m (fallback o) old without new source own own_after
  either_source o new e f is own_is = chose_source (fallback o) new (sym (chosen_is o None None e f)) is own_is

  pub alone_own : (new : Made) (parts : MsgParts) → tr m ≡ Some parts
      → Pushes (translation_stands places m parts) (parts_holes (uses_of m) parts) without new own own_after
      → Chooses tr places (chosen_text tr m no_fallback) m no_fallback old without new source own own_after
  alone_own new parts e p =
      let count : parts_holes (uses_of m) parts ≡ holes_behind tr m no_fallback =
      let n : translation_holes tr m ≡ parts_holes (uses_of m) parts = ap (translated_holes (uses_of m)) e in
      omega (arith, n) in
      subst (λ (x : ChosenText). Chooses tr places x m no_fallback old without new source own own_after)
      (sym (ap (λ v. chosen_of v (fallback_text tr no_fallback)) e))
      (pushes_as (translation_stands places m parts) (translation_stands places m parts) (parts_holes (uses_of m) parts)
      (holes_behind tr m no_fallback) without new own own_after count (λ hole all at end h. h) p)

  -- the same from ops that are cut off
  pub alone_cut : (a new : Made) (parts : MsgParts) → tr m ≡ Some parts → a ≡ without
      → Pushes (translation_stands places m parts) (parts_holes (uses_of m) parts) a new own own_after
      → Chooses tr places (chosen_text tr m no_fallback) m no_fallback old without new source own own_after
  alone_cut a new parts e cut p =
      alone_own new parts e
      (from_cut (translation_stands places m parts) (parts_holes (uses_of m) parts) a without new own own_after cut p)

  pub either_own : (o : Message) (new : Made) (parts : MsgParts) → tr m ≡ Some parts → tr o ≡ None
      → Pushes (translation_stands places m parts) (parts_holes (uses_of m) parts) without new own own_after
      → Chooses tr places (chosen_text tr m (fallback o)) m (fallback o) old without new source own own_after
  either_own o new parts e f p =
      let count : parts_holes (uses_of m) parts ≡ holes_behind tr m (fallback o) =
      let n : translation_holes tr m ≡ parts_holes (uses_of m) parts = ap (translated_holes (uses_of m)) e in
      let k : translation_holes tr o ≡ 0 = ap (translated_holes (uses_of o)) f in omega (arith, n, k) in
      subst (λ (x : ChosenText). Chooses tr places x m (fallback o) old without new source own own_after)
      (sym (chosen_is o (Some parts) None e f))
      (pushes_as (translation_stands places m parts) (translation_stands places m parts) (parts_holes (uses_of m) parts)
      (holes_behind tr m (fallback o)) without new own own_after count (λ hole all at end h. h) p)

  pub either_both : (o : Message) (now new : Made) (parts others : MsgParts) → tr m ≡ Some parts → tr o ≡ Some others
      → Pushes (translation_stands places m parts) (parts_holes (uses_of m) parts) without now own own_after
      → new ≡ with_holes now (parts_holes (uses_of o) others)
      → Chooses tr places (chosen_text tr m (fallback o)) m (fallback o) old without new source own own_after
  either_both o now new parts others e f p is =
      let count : parts_holes (uses_of m) parts + parts_holes (uses_of o) others ≡ holes_behind tr m (fallback o) =
      let n : translation_holes tr m ≡ parts_holes (uses_of m) parts = ap (translated_holes (uses_of m)) e in
      let k : translation_holes tr o ≡ parts_holes (uses_of o) others = ap (translated_holes (uses_of o)) f in
      omega (arith, n, k) in
      subst (λ (x : ChosenText). Chooses tr places x m (fallback o) old without new source own own_after)
      (sym (chosen_is o (Some parts) (Some others) e f))
      (pushes_as (translation_stands places m parts) (translation_stands places m parts)
      (parts_holes (uses_of m) parts + parts_holes (uses_of o) others) (holes_behind tr m (fallback o)) without new own
      own_after count (λ hole all at end h. h)
      (pushes_past (translation_stands places m parts) (parts_holes (uses_of m) parts)
      (parts_holes (uses_of o) others) without now new own own_after p is))

  pub either_other : (o : Message) (new : Made) (others : MsgParts) → tr m ≡ None → tr o ≡ Some others
      → Pushes (translation_stands places o others) (parts_holes (uses_of o) others) without new own own_after
      → Chooses tr places (chosen_text tr m (fallback o)) m (fallback o) old without new source own own_after
  either_other o new others e f p =
      let n : translation_holes tr m ≡ 0 = ap (translated_holes (uses_of m)) e in
      let k : translation_holes tr o ≡ parts_holes (uses_of o) others = ap (translated_holes (uses_of o)) f in
      let count : parts_holes (uses_of o) others ≡ holes_behind tr m (fallback o) = omega (arith, n, k) in
      subst (λ (x : ChosenText). Chooses tr places x m (fallback o) old without new source own own_after)
      (sym (chosen_is o None (Some others) e f))
      (pushes_as (translation_stands places o others)
      (λ hole all at end. translation_stands places o others (hole + translation_holes tr m) all at end)
      (parts_holes (uses_of o) others) (holes_behind tr m (fallback o)) without new own own_after count
      (λ hole all at end h. let same : hole ≡ hole + translation_holes tr m = omega (arith, n) in
      subst (λ (i : ℕ). StandsParts places all (uses_of o) others i at end) same h) p)

  pub own_cut : (o : Message) (a new : Made) (parts : MsgParts) → tr m ≡ Some parts → tr o ≡ None → a ≡ without
      → Pushes (translation_stands places m parts) (parts_holes (uses_of m) parts) a new own own_after
      → Chooses tr places (chosen_text tr m (fallback o)) m (fallback o) old without new source own own_after
  own_cut o a new parts e f cut p =
      either_own o new parts e f
      (from_cut (translation_stands places m parts) (parts_holes (uses_of m) parts) a without new own own_after cut p)

  pub other_cut : (o : Message) (a new : Made) (others : MsgParts) → tr m ≡ None → tr o ≡ Some others → a ≡ without
      → Pushes (translation_stands places o others) (parts_holes (uses_of o) others) a new own own_after
      → Chooses tr places (chosen_text tr m (fallback o)) m (fallback o) old without new source own own_after
  other_cut o a new others e f cut p =
      either_other o new others e f
      (from_cut (translation_stands places o others) (parts_holes (uses_of o) others) a without new own own_after cut p)

  pub both_cut : (o : Message) (a now new : Made) (parts others : MsgParts) → tr m ≡ Some parts → tr o ≡ Some others
      → a ≡ without → Pushes (translation_stands places m parts) (parts_holes (uses_of m) parts) a now own own_after
      → new ≡ with_holes now (parts_holes (uses_of o) others)
      → Chooses tr places (chosen_text tr m (fallback o)) m (fallback o) old without new source own own_after
  both_cut o a now new parts others e f cut p is =
      either_both o now new parts others e f (from_cut (translation_stands places m parts)
      (parts_holes (uses_of m) parts) a without now own own_after cut p) is

-- ---- holes of texts that there aren't

own_none : (uses : List Use) (x : Option MsgParts) (y : ChosenText) → TheSource ≡ chosen_of x y
    → translated_holes uses x ≡ 0
own_none uses None y e = refl
own_none uses (Some parts) y e = let no : ⊥ = cc in absurd no

own_passed : (x : Option MsgParts) (y : ChosenText) → TheSource ≡ chosen_of x y → TheSource ≡ y
own_passed None y e = e
own_passed (Some parts) y e = let no : ⊥ = cc in absurd no

after_none : (o : Message) (y : Option MsgParts) → TheSource ≡ chosen_after o y → translated_holes (uses_of o) y ≡ 0
after_none o None e = refl
after_none o (Some parts) e = let no : ⊥ = cc in absurd no

other_none : (tr : Message → Option MsgParts) (other : Fallback) → TheSource ≡ fallback_text tr other
    → fallback_holes tr other ≡ 0
other_none tr no_fallback e = refl
other_none tr (fallback o) e = after_none o (tr o) e

source_alone : (tr : Message → Option MsgParts) (m : Message) (other : Fallback) → TheSource ≡ chosen_text tr m other
    → holes_behind tr m other ≡ 0
source_alone tr m other e =
    let n : translation_holes tr m ≡ 0 = own_none (uses_of m) (tr m) (fallback_text tr other) e in
    let k : fallback_holes tr other ≡ 0 = other_none tr other (own_passed (tr m) (fallback_text tr other) e) in
    omega (arith, n, k)

-- ---- the whole message

module _ (s : Scene) (body : MessageBody) (m : Message) (a b cut d : Made) (none source own own_after : List Op) where
  chosen_pushed : (chosen : ChosenText) (other : Fallback) (desc meaning : List ℕ) (span : Span)
      → m ≡ message desc meaning body span → chosen ≡ chosen_text (translation_in s) m other
      → none ≡ [] → Pushes (body_stands s body) (body_holes (translation_in s) body) a b none source
      → cut.ops ≡ a.ops → cut.holes ≡ b.holes
      → Chooses (translation_in s) s.places.now chosen m other b cut d source own own_after
      → Pushes (λ hole all at end. StandsMessage (context_of s all) chosen m hole at end)
      (source_holes (translation_in s) m + (translation_holes (translation_in s) m
      + fallback_holes (translation_in s) other)) a d own own_after
  chosen_pushed TheSource other desc meaning span m_is e nil p cut_ops cut_holes q =
      let none_behind : holes_behind (translation_in s) m other ≡ 0 = source_alone (translation_in s) m other e in
      let count : source_holes (translation_in s) m ≡ body_holes (translation_in s) body =
      ap (source_holes (translation_in s)) m_is in
      let same : source ≡ p.added = p.own_ops ∙ ap (λ (x : List Op). x ++ p.added) nil in
      let h : b.holes ≡ a.holes + body_holes (translation_in s) body = p.holes in
      let g : d.holes ≡ b.holes = ap (λ (x : Made). x.holes) q.0 in
      record {
        holes = omega (arith, none_behind, count, h, g);
        inner = p.inner;
        ops = ap (λ (x : Made). x.ops) q.0 ∙ p.ops;
        added = p.added;
        own_ops = q.1 ∙ ap (λ (x : List Op). own ++ x) same;
        stands = λ all at has le here.
            subst (λ (x : Message). StandsMessage (context_of s all) TheSource x a.holes at (at + length p.added))
            (sym m_is)
            (p.stands all at (subst (λ (x : Made). HasAt x.ops 0 all) q.0 has)
            (subst (λ (x : Made). length x.ops ≤ at) q.0 le) here);
      }
  chosen_pushed (TheOwn parts) other desc meaning span m_is e nil p cut_ops cut_holes q =
      let count : source_holes (translation_in s) m ≡ body_holes (translation_in s) body =
      ap (source_holes (translation_in s)) m_is in
      let h : b.holes ≡ a.holes + body_holes (translation_in s) body = p.holes in
      let first : cut.holes ≡ a.holes + source_holes (translation_in s) m = omega (arith, count, h, cut_holes) in
      let g : d.holes ≡ cut.holes + holes_behind (translation_in s) m other = q.holes in
      record {
        holes = omega (arith, first, g);
        inner = q.inner;
        ops = q.ops ∙ ap (λ (x : List Op). x ++ q.inner) cut_ops;
        added = q.added;
        own_ops = q.own_ops;
        stands = λ all at has le here.
            subst (λ (n : ℕ). StandsParts s.places.now all (uses_of m) parts n at (at + length q.added)) first
            (q.stands all at has le here);
      }
  chosen_pushed (TheFallback o parts) other desc meaning span m_is e nil p cut_ops cut_holes q =
      let count : source_holes (translation_in s) m ≡ body_holes (translation_in s) body =
      ap (source_holes (translation_in s)) m_is in
      let h : b.holes ≡ a.holes + body_holes (translation_in s) body = p.holes in
      let first : cut.holes ≡ a.holes + source_holes (translation_in s) m = omega (arith, count, h, cut_holes) in
      let there : cut.holes + translation_holes (translation_in s) m
      ≡ a.holes + (source_holes (translation_in s) m + translation_holes (translation_in s) m) = omega (arith, first) in
      let g : d.holes ≡ cut.holes + holes_behind (translation_in s) m other = q.holes in
      record {
        holes = omega (arith, first, g);
        inner = q.inner;
        ops = q.ops ∙ ap (λ (x : List Op). x ++ q.inner) cut_ops;
        added = q.added;
        own_ops = q.own_ops;
        stands = λ all at has le here.
            subst (λ (n : ℕ). StandsParts s.places.now all (uses_of o) parts n at (at + length q.added)) there
            (q.stands all at has le here);
      }

  pub message_pushed : (other : Fallback) (desc meaning : List ℕ) (span node_span : Span)
      → m ≡ message desc meaning body span → none ≡ []
      → Pushes (body_stands s body) (body_holes (translation_in s) body) a b none source
      → cut.ops ≡ a.ops → cut.holes ≡ b.holes
      → Chooses (translation_in s) s.places.now (chosen_text (translation_in s) m other) m other b cut d source own
      own_after
      → Pushes (node_stands s (MessageNode m other node_span))
      (node_holes (translation_in s) (MessageNode m other node_span)) a d own own_after
  message_pushed other desc meaning span node_span m_is nil p cut_ops cut_holes q =
      chosen_pushed (chosen_text (translation_in s) m other) other desc meaning span m_is refl nil p cut_ops cut_holes q
