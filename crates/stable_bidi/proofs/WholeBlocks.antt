-- No surrounding character stands between two characters of one block: a line compared with itself, where each
-- character of a block stands for any other, has these alike to any surrounding one.
use Rattle.std.proofs.Common.{◌≡◌, ◌<◌, ℕ, suc, true, not, inl, inr, List, [], ◌∷◌, ◌++◌, map, length, refl, sym, ap}
use Rattle.std.proofs.Common.{subst, ◌∙◌, arith}
use Rattle.std.proofs.lemmas.Bool.{both_ways, cases_order}
use Rattle.bidi_order.specs.Levels.{line_levels}
use Rattle.bidi_order.specs.TwoLines.{Both, HoldsCleaned, one_labelled, other_labelled}
use Rattle.bidi_order.specs.TwoLines.Both.{Shared, Values}
use Rattle.bidi_order.specs.VisualOrder.{is_left_of}
use Rattle.bidi_order.specs.WithinLimit.{LabelledCharacter, is_within_limit, line_characters, static_character}
use Rattle.bidi_order.specs.WithinLimit.{value_characters}
use Rattle.bidi_order.proofs.SameLine.{within_both}
use Rattle.stable_bidi.specs.BothLines.{BothLine, BothNumbered, one_of, other_of}
use Rattle.stable_bidi.specs.SameVisualOrder.{AreCompared, BesideBlock, BlocksAreWhole, CharacterIn, stands_left}
use Rattle.stable_bidi.proofs.ChosenCharacters.{never_labelled, swapped, swapped_held, swapped_labelled}
use Rattle.stable_bidi.proofs.ComparedCharacters.{one_left, order_alike, order_back_alike}
use Rattle.stable_bidi.proofs.SameCharacters.{same_head, same_tail}

-- ---- a line in which both contents are the same

-- a character of a line is one of an equal line
abbrev moved : {line also : List LabelledCharacter} → line ≡ also → CharacterIn also → CharacterIn line
moved e p = record { before = p.before; character = p.character; after = p.after; is = e ∙ p.is }

-- what stands in a list with as many items before it is one item
same_at : {X : Type 0} (one other : List X) (x y : X) (s t : List X) → one ++ x ∷ s ≡ other ++ y ∷ t
    → length one ≡ length other → x ≡ y
same_at [] [] x y s t e long = same_head x y s t e
same_at [] (z ∷ other) x y s t e long = absurd (omega (arith, long))
same_at (z ∷ one) [] x y s t e long = absurd (omega (arith, long))
same_at (z ∷ one) (w ∷ other) x y s t e long =
    same_at one other x y s t (same_tail z w (one ++ x ∷ s) (other ++ y ∷ t) e) (omega (arith, long))

module _ (l : BothLine) (held : HoldsCleaned l.parts) (numbered : BothNumbered 0 l.parts)
    (within : is_within_limit l.base (one_labelled l.parts) ≡ true)
    (same : one_labelled l.parts ≡ other_labelled l.parts) where
  -- so order is the same in both lines
  same_left : (i j : ℕ) → stands_left (one_of l) i j ≡ stands_left (other_of l) i j
  same_left i j =
      ap (λ (ms : List LabelledCharacter). is_left_of (line_levels l.base (line_characters ms)) i j) same

  -- the surrounding character comes first in the line
  surrounding_first : (b : BesideBlock (other_of l)) → length b.surrounding.before < length b.one.before
      → stands_left (other_of l) (length b.one.before) (length b.surrounding.before) ≡ true
      → stands_left (other_of l) (length b.surrounding.before) (length b.other.before) ≡ true → ⊥
  surrounding_first b earlier left right =
      let c : AreCompared (one_of l) (other_of l) = record {
        first = moved same b.surrounding;
        second = moved same b.one;
        also_first = b.surrounding;
        also_second = b.other;
        same_first = inl (b.static, b.static, refl);
        same_second = inr b.one_block;
        seen = (b.seen.0, b.seen.1, b.seen.0, b.seen.2);
        apart = (earlier, λ of. never_labelled of.0 (sym b.static ∙ of.1));
      } in
      let other_left : stands_left (other_of l) (length b.other.before) (length b.surrounding.before) ≡ true =
      sym (order_back_alike l held numbered within c)
      ∙ same_left (length b.one.before) (length b.surrounding.before) ∙ left in
      both_ways _ (one_left l held numbered c ∙ ap not right) other_left

  -- the block does
  block_first : (b : BesideBlock (other_of l)) → length b.one.before < length b.surrounding.before
      → stands_left (other_of l) (length b.one.before) (length b.surrounding.before) ≡ true
      → stands_left (other_of l) (length b.surrounding.before) (length b.other.before) ≡ true → ⊥
  block_first b earlier left right =
      let c : AreCompared (one_of l) (other_of l) = record {
        first = moved same b.one;
        second = moved same b.surrounding;
        also_first = b.other;
        also_second = b.surrounding;
        same_first = inr b.one_block;
        same_second = inl (b.static, b.static, refl);
        seen = (b.seen.1, b.seen.0, b.seen.2, b.seen.0);
        apart = (earlier, λ of. never_labelled of.0 (sym b.static ∙ of.2));
      } in
      let other_left : stands_left (other_of l) (length b.other.before) (length b.surrounding.before) ≡ true =
      sym (order_alike l held numbered within c)
      ∙ same_left (length b.one.before) (length b.surrounding.before) ∙ left in
      both_ways _ (one_left l held numbered c ∙ ap not other_left) right

  -- wherever the surrounding character stands
  whole_blocks : BlocksAreWhole (other_of l)
  whole_blocks b left right =
      elim (cases_order (length b.surrounding.before) (length b.one.before)) [
        | inl at ↦
            let one : b.surrounding.character ≡ b.one.character =
            same_at b.surrounding.before b.one.before b.surrounding.character b.one.character b.surrounding.after
            b.one.after (sym b.surrounding.is ∙ b.one.is) at in
            never_labelled b.one_block.0
            (sym b.static ∙ ap (λ (m : LabelledCharacter). m.label) one ∙ b.one_block.1)
        | inr (inl earlier) ↦ surrounding_first b earlier left right
        | inr (inr earlier) ↦ block_first b earlier left right
      ]

-- ---- the one line of two, as both

-- a part with the one content in both lines
abbrev doubled_part : Both → Both
doubled_part (Shared c) = Shared c
doubled_part (Values k i j v w) = Values k i i v v

-- so for all parts
abbrev doubled : List Both → List Both
doubled line = map doubled_part line

-- its one line is the one line
doubled_one : (line : List Both) → one_labelled (doubled line) ≡ one_labelled line
doubled_one [] = refl
doubled_one (Shared c ∷ line) = ap (λ l. static_character c ∷ l) (doubled_one line)
doubled_one (Values k i j v w ∷ line) = ap (λ l. value_characters k i v ++ l) (doubled_one line)

-- and so is its other line
doubled_other : (line : List Both) → other_labelled (doubled line) ≡ one_labelled line
doubled_other [] = refl
doubled_other (Shared c ∷ line) = ap (λ l. static_character c ∷ l) (doubled_other line)
doubled_other (Values k i j v w ∷ line) = ap (λ l. value_characters k i v ++ l) (doubled_other line)

-- it holds cleaned texts
doubled_held : (line : List Both) → HoldsCleaned line → HoldsCleaned (doubled line)
doubled_held [] held = tt
doubled_held (Shared c ∷ line) held = doubled_held line held
doubled_held (Values k i j v w ∷ line) held =
    ((held.0.0, held.0.0, held.0.2, held.0.2), doubled_held line held.1)

-- its numbers ascend
doubled_numbered : (n : ℕ) (line : List Both) → BothNumbered n line → BothNumbered n (doubled line)
doubled_numbered n [] are = tt
doubled_numbered n (Shared c ∷ line) are = doubled_numbered n line are
doubled_numbered n (Values k i j v w ∷ line) are = (are.0, doubled_numbered (suc k) line are.1)

-- so do those of the line turned round
swapped_numbered : (n : ℕ) (line : List Both) → BothNumbered n line → BothNumbered n (swapped line)
swapped_numbered n [] are = tt
swapped_numbered n (Shared c ∷ line) are = swapped_numbered n line are
swapped_numbered n (Values k i j v w ∷ line) are = (are.0, swapped_numbered (suc k) line are.1)

-- blocks of the one line
pub one_blocks : (base : ℕ) (parts : List Both) → HoldsCleaned parts → BothNumbered 0 parts
    → is_within_limit base (one_labelled parts) ≡ true
    → BlocksAreWhole (record { base = base; characters = one_labelled parts })
one_blocks base parts held numbered within =
    subst (λ (ms : List LabelledCharacter). BlocksAreWhole (record { base = base; characters = ms }))
    (doubled_other parts)
    (whole_blocks (record { base = base; parts = doubled parts }) (doubled_held parts held)
    (doubled_numbered 0 parts numbered)
    (ap (λ (ms : List LabelledCharacter). is_within_limit base ms) (doubled_one parts) ∙ within)
    (doubled_one parts ∙ sym (doubled_other parts)))

-- blocks of the other
pub other_blocks : (base : ℕ) (parts : List Both) → HoldsCleaned parts → BothNumbered 0 parts
    → is_within_limit base (one_labelled parts) ≡ true
    → BlocksAreWhole (record { base = base; characters = other_labelled parts })
other_blocks base parts held numbered within =
    subst (λ (ms : List LabelledCharacter). BlocksAreWhole (record { base = base; characters = ms }))
    (swapped_labelled parts)
    (one_blocks base (swapped parts) (swapped_held parts held) (swapped_numbered 0 parts numbered)
    (ap (λ (ms : List LabelledCharacter). is_within_limit base ms) (swapped_labelled parts)
    ∙ sym (within_both base parts held) ∙ within))
