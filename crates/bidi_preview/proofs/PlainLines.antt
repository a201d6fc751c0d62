-- The levels of a plain line.
use Rattle.std.proofs.Common.{◌≡◌, ℕ, zero, suc, ◌≤◌, ◌==◌, max, Bool, true, false, if◌then◌else◌, List, [], ◌∷◌}
use Rattle.std.proofs.Common.{◌++◌, map, reverse, length, get_or, refl, sym, ap, subst, ◌∙◌, arith, Option, Some, None}
use Rattle.std.specs.List.{list_all}
use Rattle.std.proofs.lemmas.Bool.{and_parts}
use Rattle.bidi_class.specs.declared.class.Class.{Class}
use Rattle.bidi_class.specs.declared.class.Class.TheVariants.{BN}
use Rattle.bidi_class.specs.Class.{bidi_class}
use Rattle.bidi_order.specs.DirectionalStatus.{initial_status, strong_class}
use Rattle.bidi_order.specs.Explicit.{KeptCharacter, SequenceCharacter, explicit_from}
use Rattle.bidi_order.specs.Levels.{line_levels}
use Rattle.bidi_order.specs.Lines.{side_level}
use Rattle.bidi_order.specs.Reset.{ResetKind, is_reset, reset_kind, reset_levels}
use Rattle.bidi_order.specs.Resolve.{resolve}
use Rattle.bidi_order.specs.Sequences.{resolved_level, resolved_levels_from, sequence_along, side_class}
use Rattle.bidi_order.specs.Sequences.Scan.{Forward, Backward}
use Rattle.bidi_order.specs.Sequences.Following.{Taking}
use Rattle.bidi_order.proofs.SimilarLevels.{resolved_level-ge}
use Rattle.bidi_preview.specs.PlainSteps.{is_plain, plain_level}
use Rattle.bidi_preview.proofs.PlainWeak.{AllPass}
use Rattle.bidi_preview.proofs.PlainWeak.AllPass.{pass_end, pass_more}
use Rattle.bidi_preview.proofs.PlainNeutral.{resolved_le}
use Rattle.bidi_preview.proofs.PlainKept.{PlainKept, PlainRun, Pass-around, along-plain, at_base, base_levels}
use Rattle.bidi_preview.proofs.PlainKept.{explicit-plain, kept_levels}
use Rattle.bidi_preview.proofs.PlainKept.PlainKept.{kept_end, kept_none, kept_some}

-- sos and eos of a sequence
side-own : (d : Bool) → side_class (max (side_level d) (side_level d)) ≡ strong_class d
side-own false = refl
side-own true = refl

run_le : (d : Bool) (s : SequenceCharacter) (before after : List SequenceCharacter × ℕ) → PlainRun d before
    → is_plain d s.class ≡ true → PlainRun d after
    → get_or
    (resolve (side_level d) (side_class (max (side_level d) before.1)) (side_class (max (side_level d) after.1))
    (reverse before.0 ++ s ∷ after.0))
    (length before.0) 0 ≤ side_level d
run_le d s before after b p a =
    subst (λ sos. get_or
    (resolve (side_level d) sos (side_class (max (side_level d) after.1)) (reverse before.0 ++ s ∷ after.0))
    (length before.0) 0 ≤ side_level d)
    (sym (ap (λ n. side_class (max (side_level d) n)) b.beside ∙ side-own d))
    (subst (λ eos. get_or
    (resolve (side_level d) (strong_class d) eos (reverse before.0 ++ s ∷ after.0)) (length before.0) 0
    ≤ side_level d)
    (sym (ap (λ n. side_class (max (side_level d) n)) a.beside ∙ side-own d))
    (resolved_le d (reverse before.0 ++ s ∷ after.0) (length before.0)
    (Pass-around d before.0 s after.0 b.classes p a.classes)))

level_le : (d : Bool) (back rest : List (Option KeptCharacter)) (s : SequenceCharacter) → PlainKept d back
    → is_plain d s.class ≡ true → PlainKept d rest
    → resolved_level (side_level d) back (at_base d s) rest ≤ side_level d
level_le d back rest s b p r = run_le d s
    (sequence_along Backward (side_level d) (side_level d) (Taking false) back)
    (sequence_along Forward (side_level d) (side_level d) (Taking false) rest)
    (along-plain Backward d back b) p (along-plain Forward d rest r)

level_is : (d : Bool) (back rest : List (Option KeptCharacter)) (s : SequenceCharacter) → PlainKept d back
    → is_plain d s.class ≡ true → PlainKept d rest
    → resolved_level (side_level d) back (at_base d s) rest ≡ side_level d
level_is d back rest s b p r =
    omega (arith, level_le d back rest s b p r, resolved_level-ge (side_level d) back (at_base d s) rest)

levels_are : (d : Bool) (back rest : List (Option KeptCharacter)) → PlainKept d back → PlainKept d rest
    → resolved_levels_from (side_level d) back rest ≡ base_levels d rest
levels_are d back rest b kept_end = refl
levels_are d back rest b (kept_none {K = K} h) =
    ap (λ (l : List (Option ℕ)). None ∷ l) (levels_are d (None ∷ back) K (kept_none b) h)
levels_are d back rest b (kept_some {s = s} {K = K} p h) =
    ap (λ (n : ℕ). Some n ∷ resolved_levels_from (side_level d) (Some (at_base d s) ∷ back) K)
    (level_is d back K s b p h)
    ∙ ap (λ l. Some (side_level d) ∷ l) (levels_are d (Some (at_base d s) ∷ back) K (kept_some p b) h)

-- L1 changes nothing
same_if : (b : Bool) (n : ℕ) → (if b then n else n) ≡ n
same_if true n = refl
same_if false n = refl

reset_same : (n : ℕ) (kinds : List ResetKind) (cs : List Class)
    → reset_levels n kinds (map (plain_level n) cs) ≡ map (plain_level n) cs
reset_same n [] cs = refl
reset_same n (kind ∷ kinds) [] = refl
reset_same n (kind ∷ kinds) (BN ∷ cs) = ap (λ (l : List (Option ℕ)). None ∷ l) (reset_same n kinds cs)
reset_same n (kind ∷ kinds) (c ∷ cs) =
    ap (λ (m : ℕ). Some m ∷ reset_levels n kinds (map (plain_level n) cs)) (same_if (is_reset kind kinds) n)
    ∙ ap (λ l. Some n ∷ l) (reset_same n kinds cs)

passed : (d : Bool) (cs : List Class) → list_all (is_plain d) cs ≡ true → AllPass (is_plain d) cs
passed d [] h = pass_end
passed d (c ∷ cs) h =
    let parts = and_parts (is_plain d c) (list_all (is_plain d) cs) h in pass_more parts.0 (passed d cs parts.1)

side_is : (d : Bool) (line : List ℕ) → list_all (is_plain d) (map bidi_class line) ≡ true
    → map (plain_level (side_level d)) (map bidi_class line) ≡ line_levels (side_level d) line
unfolding line_levels
side_is d line h =
    let plain : AllPass (is_plain d) (map bidi_class line) = passed d (map bidi_class line) h in
    sym (ap (λ l. reset_levels (side_level d) (map (λ (c : ℕ). reset_kind (bidi_class c)) line) l)
    (levels_are d [] (explicit_from (initial_status (side_level d)) line) kept_end (explicit-plain d line plain)
    ∙ kept_levels d line plain)
    ∙ reset_same (side_level d) (map (λ (c : ℕ). reset_kind (bidi_class c)) line) (map bidi_class line))

pub plain_is : (base : ℕ) (line : List ℕ) → base ≤ 1
    → list_all (is_plain (base == 1)) (map bidi_class line) ≡ true
    → map (plain_level base) (map bidi_class line) ≡ line_levels base line
plain_is zero line small h = side_is false line h
plain_is (suc zero) line small h = side_is true line h
plain_is (suc (suc n)) line small h = absurd (omega arith)
