-- The levels of a flat line: it is one sequence, at the level of its base.
use Rattle.std.proofs.Common.{◌≡◌, ℕ, zero, suc, ◌+◌, ◌≤◌, max, Bool, true, false, List, [], ◌∷◌, ◌++◌, map, drop}
use Rattle.std.proofs.Common.{reverse, length, get_or, refl, sym, ap, subst, ◌∙◌, append_assoc, arith, Option, Some}
use Rattle.std.specs.List.{list_all}
use Rattle.std.proofs.lemmas.Bool.{and_parts, both_ways}
use Rattle.std.proofs.lemmas.List.{length-map, reverse-append}
use Rattle.std.proofs.Math.ListN.{drop_of_length-le}
use Rattle.std.proofs.Math.Seq.{drop-cons}
use Rattle.bidi_class.specs.declared.class.Class.{Class}
use Rattle.bidi_class.specs.declared.class.Class.TheVariants.{LRE, LRO, RLE, RLO, PDF, LRI, RLI, FSI, PDI, BN}
use Rattle.bidi_class.specs.Brackets.{bracket}
use Rattle.bidi_class.specs.Class.{bidi_class}
use Rattle.bidi_order.specs.DirectionalStatus.{act_of_class, initial_status, status_after}
use Rattle.bidi_order.specs.DirectionalStatus.ExplicitAct.{Stays}
use Rattle.bidi_order.specs.Explicit.{KeptCharacter, SequenceCharacter, explicit_character, explicit_from}
use Rattle.bidi_order.specs.Levels.{line_levels}
use Rattle.bidi_order.specs.Lines.{side_level}
use Rattle.bidi_order.specs.Reset.{reset_kind, reset_levels}
use Rattle.bidi_order.specs.Resolve.{resolve}
use Rattle.bidi_order.specs.Sequences.{Scan, resolved_level, resolved_levels_from, sequence_along, side_class}
use Rattle.bidi_order.specs.Sequences.Scan.{Forward, Backward}
use Rattle.bidi_order.specs.Sequences.Following.{Taking}
use Rattle.bidi_preview.specs.FlatSteps.{is_flat}
use Rattle.bidi_preview.specs.NeutralSteps.{characters_of}
use Rattle.bidi_preview.proofs.PlainKept.{at_base}

-- ---- the characters

abbrev flat_character : ℕ → SequenceCharacter
flat_character c = record { class = bidi_class c; bracket = bracket c }

abbrev kept : Bool → List SequenceCharacter → List (Option KeptCharacter)
kept d given = map (λ (s : SequenceCharacter). Some (at_base d s)) given

act-flat : (x : Class) (xs : List Class) → is_flat x ≡ true → act_of_class x xs ≡ Stays
act-flat BN xs h = absurd (both_ways _ refl h)
act-flat LRE xs h = absurd (both_ways _ refl h)
act-flat LRO xs h = absurd (both_ways _ refl h)
act-flat RLE xs h = absurd (both_ways _ refl h)
act-flat RLO xs h = absurd (both_ways _ refl h)
act-flat PDF xs h = absurd (both_ways _ refl h)
act-flat LRI xs h = absurd (both_ways _ refl h)
act-flat RLI xs h = absurd (both_ways _ refl h)
act-flat FSI xs h = absurd (both_ways _ refl h)
act-flat PDI xs h = absurd (both_ways _ refl h)
act-flat _ xs h = refl

explicit-flat : (d : Bool) (line : List ℕ) → list_all is_flat (map bidi_class line) ≡ true
    → explicit_from (initial_status (side_level d)) line ≡ kept d (map flat_character line)
explicit-flat d [] h = refl
explicit-flat d (c ∷ cs) h =
    let parts = and_parts (is_flat (bidi_class c)) (list_all is_flat (map bidi_class cs)) h in
    ap (λ a. explicit_character c a (initial_status (side_level d))
    ∷ explicit_from (status_after a (initial_status (side_level d))) cs)
    (act-flat (bidi_class c) (map bidi_class cs) parts.0)
    ∙ ap (λ K. Some (at_base d (flat_character c)) ∷ K) (explicit-flat d cs parts.1)

characters-flat : (line : List ℕ) → characters_of (map bidi_class line) (map bracket line) ≡ map flat_character line
characters-flat [] = refl
characters-flat (c ∷ line) = ap (λ l. flat_character c ∷ l) (characters-flat line)

-- ---- the sequence

along-flat : (scan : Scan) (d : Bool) (given : List SequenceCharacter)
    → sequence_along scan (side_level d) (side_level d) (Taking false) (kept d given) ≡ (given, side_level d)
along-flat scan d [] = refl
along-flat Forward false (s ∷ given) =
    ap (λ (m : List SequenceCharacter × ℕ). (s ∷ m.0, m.1)) (along-flat Forward false given)
along-flat Forward true (s ∷ given) =
    ap (λ (m : List SequenceCharacter × ℕ). (s ∷ m.0, m.1)) (along-flat Forward true given)
along-flat Backward false (s ∷ given) =
    ap (λ (m : List SequenceCharacter × ℕ). (s ∷ m.0, m.1)) (along-flat Backward false given)
along-flat Backward true (s ∷ given) =
    ap (λ (m : List SequenceCharacter × ℕ). (s ∷ m.0, m.1)) (along-flat Backward true given)

-- the levels of a flat sequence
abbrev flat_levels : Bool → List SequenceCharacter → List ℕ
flat_levels d given = resolve (side_level d) (side_class (side_level d)) (side_class (side_level d)) given

side-same : (d : Bool) → max (side_level d) (side_level d) ≡ side_level d
side-same false = refl
side-same true = refl

-- the level of a character between two parts of the sequence
abbrev level_between : Bool → SequenceCharacter → List SequenceCharacter × ℕ → List SequenceCharacter × ℕ → ℕ
level_between d s before after = get_or
    (resolve (side_level d) (side_class (max (side_level d) before.1)) (side_class (max (side_level d) after.1))
    (reverse before.0 ++ s ∷ after.0))
    (length before.0) 0

level-flat : (d : Bool) (back : List SequenceCharacter) (s : SequenceCharacter) (rest : List SequenceCharacter)
    → resolved_level (side_level d) (kept d back) (at_base d s) (kept d rest)
    ≡ get_or (flat_levels d (reverse back ++ s ∷ rest)) (length back) 0
level-flat d back s rest =
    ap (λ b. level_between d s b
    (sequence_along Forward (side_level d) (side_level d) (Taking false) (kept d rest)))
    (along-flat Backward d back)
    ∙ ap (λ a. level_between d s (back, side_level d) a) (along-flat Forward d rest)
    ∙ ap (λ n. get_or
    (resolve (side_level d) (side_class n) (side_class n) (reverse back ++ s ∷ rest)) (length back) 0) (side-same d)

levels-flat : (d : Bool) (back rest : List SequenceCharacter) (values : List ℕ)
    → values ≡ flat_levels d (reverse back ++ rest) → length values ≡ length back + length rest
    → resolved_levels_from (side_level d) (kept d back) (kept d rest)
    ≡ map (λ (n : ℕ). Some n) (drop (length back) values)
levels-flat d back [] values is long =
    ap (map (λ (n : ℕ). Some n)) (sym (drop_of_length-le values (omega (arith, long))))
levels-flat d back (s ∷ rest) values is long =
    let here : resolved_level (side_level d) (kept d back) (at_base d s) (kept d rest) ≡ get_or values (length back) 0 =
    level-flat d back s rest ∙ ap (λ (l : List ℕ). get_or l (length back) 0) (sym is) in
    let turned : reverse back ++ s ∷ rest ≡ reverse (s ∷ back) ++ rest =
    sym (append_assoc (reverse back) (s ∷ []) rest)
    ∙ ap (λ l. l ++ rest) (sym (reverse-append (s ∷ []) back)) in
    ap (λ (n : ℕ). Some n ∷ resolved_levels_from (side_level d) (kept d (s ∷ back)) (kept d rest)) here
    ∙ ap (λ l. Some (get_or values (length back) 0) ∷ l)
    (levels-flat d (s ∷ back) rest values (is ∙ ap (flat_levels d) turned) (omega (arith, long)))
    ∙ ap (map (λ (n : ℕ). Some n)) (sym (drop-cons values (length back) 0 (omega (arith, long))))

-- ---- the line

flat-side : (d : Bool) (line : List ℕ) (values : List ℕ) → list_all is_flat (map bidi_class line) ≡ true
    → length values ≡ length line
    → values ≡ flat_levels d (characters_of (map bidi_class line) (map bracket line))
    → map (λ (n : ℕ). Some n) values
    ≡ resolved_levels_from (side_level d) [] (explicit_from (initial_status (side_level d)) line)
flat-side d line values h long is =
    sym (ap (resolved_levels_from (side_level d) []) (explicit-flat d line h)
    ∙ levels-flat d [] (map flat_character line) values (is ∙ ap (flat_levels d) (characters-flat line))
    (omega (arith, long, mapped line)))
  where
    mapped : (line : List ℕ) → length (map flat_character line) ≡ length line
    mapped [] = refl
    mapped (c ∷ line) = ap suc (mapped line)

kinds-flat : (line : List ℕ) → map reset_kind (map bidi_class line) ≡ map (λ (c : ℕ). reset_kind (bidi_class c)) line
kinds-flat [] = refl
kinds-flat (c ∷ line) = ap (λ l. reset_kind (bidi_class c) ∷ l) (kinds-flat line)

side-is : (d : Bool) (line : List ℕ) (values : List ℕ) → list_all is_flat (map bidi_class line) ≡ true
    → length values ≡ length line
    → values ≡ flat_levels d (characters_of (map bidi_class line) (map bracket line))
    → reset_levels (side_level d) (map reset_kind (map bidi_class line)) (map (λ (n : ℕ). Some n) values)
    ≡ line_levels (side_level d) line
unfolding line_levels
side-is d line values h long is =
    ap (λ k. reset_levels (side_level d) k (map (λ (n : ℕ). Some n) values)) (kinds-flat line)
    ∙ ap (reset_levels (side_level d) (map (λ (c : ℕ). reset_kind (bidi_class c)) line))
    (flat-side d line values h long is)

base-is : (base : ℕ) (line : List ℕ) (values : List ℕ) → base ≤ 1
    → list_all is_flat (map bidi_class line) ≡ true → length values ≡ length line
    → values ≡ resolve base (side_class base) (side_class base) (characters_of (map bidi_class line) (map bracket line))
    → reset_levels base (map reset_kind (map bidi_class line)) (map Some values) ≡ line_levels base line
base-is zero line values small h long is = side-is false line values h long is
base-is (suc zero) line values small h long is = side-is true line values h long is
base-is (suc (suc n)) line values small h long is = absurd (omega arith)

pub flat_is : (base : ℕ) (line : List ℕ) (classes : List Class) (levels : List (Option ℕ)) → base ≤ 1
    → classes ≡ map bidi_class line → list_all is_flat classes ≡ true → length levels ≡ length line
    → levels ≡ map Some (resolve base (side_class base) (side_class base)
    (characters_of (map bidi_class line) (map bracket line)))
    → reset_levels base (map reset_kind classes) levels ≡ line_levels base line
flat_is base line classes levels small given flat long is =
    let values : List ℕ = resolve base (side_class base) (side_class base)
    (characters_of (map bidi_class line) (map bracket line)) in
    let one : map Some values ≡ levels = sym is in
    ap (λ (cs : List Class). reset_levels base (map reset_kind cs) levels) given
    ∙ ap (reset_levels base (map reset_kind (map bidi_class line))) is
    ∙ base-is base line values small (subst (λ (cs : List Class). list_all is_flat cs ≡ true) given flat)
    (sym (length-map values Some) ∙ ap length one ∙ long) refl
