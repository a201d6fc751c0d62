-- The explicit characters of a plain line, and the sequence through each of them.
use Rattle.std.proofs.Common.{◌≡◌, ℕ, Bool, true, false, inl, inr, ◌⊎◌, List, [], ◌∷◌, ◌++◌, map, reverse, refl, sym}
use Rattle.std.proofs.Common.{ap, subst, ◌∙◌, Option, Some, None, option_map}
use Rattle.std.proofs.lemmas.Bool.{both_ways}
use Rattle.std.proofs.lemmas.List.{reverse-append}
use Rattle.bidi_class.specs.declared.class.Class.{Class}
use Rattle.bidi_class.specs.declared.class.Class.TheVariants.{LRE, LRO, RLE, RLO, PDF, LRI, RLI, FSI, PDI, BN}
use Rattle.bidi_class.specs.Class.{bidi_class}
use Rattle.bidi_order.specs.DirectionalStatus.{act_of_class, initial_status, status_after}
use Rattle.bidi_order.specs.DirectionalStatus.ExplicitAct.{IsRemoved, Stays}
use Rattle.bidi_order.specs.Explicit.{KeptCharacter, SequenceCharacter, explicit_character}
use Rattle.bidi_order.specs.Explicit.{explicit_from}
use Rattle.bidi_order.specs.Explicit.IsolateRole.{Neither}
use Rattle.bidi_order.specs.Lines.{side_level}
use Rattle.bidi_order.specs.Sequences.{Scan, sequence_along}
use Rattle.bidi_order.specs.Sequences.Scan.{Forward, Backward}
use Rattle.bidi_order.specs.Sequences.Following.{Taking}
use Rattle.bidi_preview.specs.PlainSteps.{is_plain, plain_level}
use Rattle.bidi_preview.proofs.PlainWeak.{AllPass}
use Rattle.bidi_preview.proofs.PlainWeak.AllPass.{pass_end, pass_more}

-- a character that is kept at the level of the base
abbrev pub at_base : Bool → SequenceCharacter → KeptCharacter
at_base d s = record { level = side_level d; role = Neither; resolved = s }

-- each kept character is of a plain class and at the level of the base
pub data PlainKept (d : Bool) : List (Option KeptCharacter) → Type 0 where
  kept_end : PlainKept d []
  kept_none : {K : List (Option KeptCharacter)} → PlainKept d K → PlainKept d (None ∷ K)
  kept_some : {s : SequenceCharacter} {K : List (Option KeptCharacter)} → is_plain d s.class ≡ true → PlainKept d K
      → PlainKept d (Some (at_base d s) ∷ K)

-- the level of the base for each that is kept
abbrev pub base_levels : Bool → List (Option KeptCharacter) → List (Option ℕ)
base_levels d K = map (option_map (λ (_ : KeptCharacter). side_level d)) K

-- what a character of a plain class does
record Removes (d : Bool) (x : Class) (xs : List Class) : Type 0 where
  act : act_of_class x xs ≡ IsRemoved
  level : plain_level (side_level d) x ≡ None

record Keeps (d : Bool) (x : Class) (xs : List Class) : Type 0 where
  act : act_of_class x xs ≡ Stays
  level : plain_level (side_level d) x ≡ Some (side_level d)

act-plain : (d : Bool) (x : Class) (xs : List Class) → is_plain d x ≡ true → Removes d x xs ⊎ Keeps d x xs
act-plain d BN xs h = inl (record { act = refl; level = refl })
act-plain d LRE xs h = absurd (both_ways _ refl h)
act-plain d LRO xs h = absurd (both_ways _ refl h)
act-plain d RLE xs h = absurd (both_ways _ refl h)
act-plain d RLO xs h = absurd (both_ways _ refl h)
act-plain d PDF xs h = absurd (both_ways _ refl h)
act-plain d LRI xs h = absurd (both_ways _ refl h)
act-plain d RLI xs h = absurd (both_ways _ refl h)
act-plain d FSI xs h = absurd (both_ways _ refl h)
act-plain d PDI xs h = absurd (both_ways _ refl h)
act-plain d _ xs h = inr (record { act = refl; level = refl })

pub explicit-plain : (d : Bool) (line : List ℕ) → AllPass (is_plain d) (map bidi_class line)
    → PlainKept d (explicit_from (initial_status (side_level d)) line)
explicit-plain d [] h = kept_end
explicit-plain d (c ∷ cs) (pass_more p h) =
    elim (act-plain d (bidi_class c) (map bidi_class cs) p) [
      | inl r ↦ subst
          (λ a. PlainKept d (explicit_character c a (initial_status (side_level d))
          ∷ explicit_from (status_after a (initial_status (side_level d))) cs))
          (sym r.act) (kept_none (explicit-plain d cs h))
      | inr r ↦ subst
          (λ a. PlainKept d (explicit_character c a (initial_status (side_level d))
          ∷ explicit_from (status_after a (initial_status (side_level d))) cs))
          (sym r.act) (kept_some p (explicit-plain d cs h))
    ]

pub kept_levels : (d : Bool) (line : List ℕ) → AllPass (is_plain d) (map bidi_class line)
    → base_levels d (explicit_from (initial_status (side_level d)) line)
    ≡ map (plain_level (side_level d)) (map bidi_class line)
kept_levels d [] h = refl
kept_levels d (c ∷ cs) (pass_more p h) =
    elim (act-plain d (bidi_class c) (map bidi_class cs) p) [
      | inl r ↦ ap (λ a. base_levels d (explicit_character c a (initial_status (side_level d))
          ∷ explicit_from (status_after a (initial_status (side_level d))) cs)) r.act
          ∙ ap (λ l. None ∷ l) (kept_levels d cs h)
          ∙ ap (λ o. o ∷ map (plain_level (side_level d)) (map bidi_class cs)) (sym r.level)
      | inr r ↦ ap (λ a. base_levels d (explicit_character c a (initial_status (side_level d))
          ∷ explicit_from (status_after a (initial_status (side_level d))) cs)) r.act
          ∙ ap (λ l. Some (side_level d) ∷ l) (kept_levels d cs h)
          ∙ ap (λ o. o ∷ map (plain_level (side_level d)) (map bidi_class cs)) (sym r.level)
    ]

-- the sequence from a character on is plain, up to the line's end
pub record PlainRun (d : Bool) (run : List SequenceCharacter × ℕ) : Type 0 where
  pub classes : AllPass (is_plain d) (map (λ (s : SequenceCharacter). s.class) run.0)
  pub beside : run.1 ≡ side_level d

pub along-plain : (scan : Scan) (d : Bool) (K : List (Option KeptCharacter)) → PlainKept d K
    → PlainRun d (sequence_along scan (side_level d) (side_level d) (Taking false) K)
along-plain scan d K kept_end = record { classes = pass_end; beside = refl }
along-plain scan d K (kept_none {K = K'} h) = along-plain scan d K' h
along-plain Forward false K (kept_some {K = K'} p h) =
    let more = along-plain Forward false K' h in record { classes = pass_more p more.classes; beside = more.beside }
along-plain Forward true K (kept_some {K = K'} p h) =
    let more = along-plain Forward true K' h in record { classes = pass_more p more.classes; beside = more.beside }
along-plain Backward false K (kept_some {K = K'} p h) =
    let more = along-plain Backward false K' h in record { classes = pass_more p more.classes; beside = more.beside }
along-plain Backward true K (kept_some {K = K'} p h) =
    let more = along-plain Backward true K' h in record { classes = pass_more p more.classes; beside = more.beside }

-- a sequence of what stands before a character, the character, and what stands after it
Pass-append : (d : Bool) (a b : List SequenceCharacter)
    → AllPass (is_plain d) (map (λ (s : SequenceCharacter). s.class) a)
    → AllPass (is_plain d) (map (λ (s : SequenceCharacter). s.class) b)
    → AllPass (is_plain d) (map (λ (s : SequenceCharacter). s.class) (a ++ b))
Pass-append d [] b h k = k
Pass-append d (s ∷ a) b (pass_more p h) k = pass_more p (Pass-append d a b h k)

Pass-reverse : (d : Bool) (a : List SequenceCharacter)
    → AllPass (is_plain d) (map (λ (s : SequenceCharacter). s.class) a)
    → AllPass (is_plain d) (map (λ (s : SequenceCharacter). s.class) (reverse a))
Pass-reverse d [] h = pass_end
Pass-reverse d (s ∷ a) (pass_more p h) =
    subst (λ l. AllPass (is_plain d) (map (λ (s : SequenceCharacter). s.class) l)) (sym (reverse-append (s ∷ []) a))
    (Pass-append d (reverse a) (s ∷ []) (Pass-reverse d a h) (pass_more p pass_end))

pub Pass-around : (d : Bool) (before : List SequenceCharacter) (s : SequenceCharacter) (after : List SequenceCharacter)
    → AllPass (is_plain d) (map (λ (s : SequenceCharacter). s.class) before) → is_plain d s.class ≡ true
    → AllPass (is_plain d) (map (λ (s : SequenceCharacter). s.class) after)
    → AllPass (is_plain d) (map (λ (s : SequenceCharacter). s.class) (reverse before ++ s ∷ after))
Pass-around d before s after b p a = Pass-append d (reverse before) (s ∷ after) (Pass-reverse d before b) (pass_more p a)
