-- The levels of a line, from its directed classes and its explicit characters.
use Rattle.std.proofs.Common.{◌≡◌, ℕ, suc, Bool, true, false, List, [], ◌∷◌, map, length, refl, ap, ◌∙◌}
use Rattle.bidi_class.specs.declared.class.Class.{Class}
use Rattle.bidi_class.specs.declared.class.Class.TheVariants.{FSI}
use Rattle.bidi_class.specs.Class.{bidi_class}
use Rattle.bidi_order.specs.DirectionalStatus.{DirectionalStatus, begins_right_to_left, initial_status, status_after}
use Rattle.bidi_order.specs.Explicit.{act_of_character, explicit_characters, explicit_from}
use Rattle.bidi_order.specs.Levels.{line_levels}
use Rattle.bidi_order.specs.Reset.{reset_kind, reset_levels}
use Rattle.bidi_order.specs.Sequences.{resolved_levels_from}
use Rattle.bidi_preview.specs.ExplicitSteps.{directed_by, directed_classes}
use Rattle.bidi_preview.specs.SequenceSteps.{IsExplicit}
use Rattle.bidi_preview.proofs.SequenceLevels.{levels-long}

explicit-long : (s : DirectionalStatus) (line : List ℕ) → length (explicit_from s line) ≡ length line
explicit-long s [] = refl
explicit-long s (c ∷ line) = ap suc (explicit-long (status_after (act_of_character c line) s) line)

pub line_long : (base : ℕ) (line : List ℕ)
    → length (resolved_levels_from base [] (explicit_characters base line)) ≡ length line
line_long base line = levels-long base [] (explicit_characters base line) ∙ explicit-long (initial_status base) line

pub explicit_is : (base : ℕ) (line : List ℕ) → IsExplicit base (explicit_characters base line)
explicit_is base line = record { text = line; is = refl }

kind-directed : (c : Class) (b : Bool) → reset_kind (directed_by c b) ≡ reset_kind c
kind-directed FSI true = refl
kind-directed FSI false = refl
kind-directed _ b = refl

kinds : (line : List ℕ) → map reset_kind (directed_classes (map bidi_class line))
    ≡ map (λ (c : ℕ). reset_kind (bidi_class c)) line
kinds [] = refl
kinds (c ∷ line) =
    ap (λ k. k ∷ map reset_kind (directed_classes (map bidi_class line)))
    (kind-directed (bidi_class c) (begins_right_to_left 0 (map bidi_class line)))
    ∙ ap (λ l. reset_kind (bidi_class c) ∷ l) (kinds line)

pub levels_by : (base : ℕ) (line : List ℕ)
    → reset_levels base (map reset_kind (directed_classes (map bidi_class line)))
    (resolved_levels_from base [] (explicit_characters base line)) ≡ line_levels base line
unfolding line_levels
levels_by base line = ap (λ k. reset_levels base k (resolved_levels_from base [] (explicit_characters base line)))
    (kinds line)

pub classes_long : (line : List ℕ) → length (directed_classes (map bidi_class line)) ≡ length line
classes_long line = long (map bidi_class line) ∙ mapped line
  where
    long : (cs : List Class) → length (directed_classes cs) ≡ length cs
    long [] = refl
    long (c ∷ cs) = ap suc (long cs)

    mapped : (line : List ℕ) → length (map bidi_class line) ≡ length line
    mapped [] = refl
    mapped (c ∷ line) = ap suc (mapped line)
