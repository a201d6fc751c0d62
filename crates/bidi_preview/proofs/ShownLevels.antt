-- A line has as many levels as characters.
use Rattle.std.proofs.Common.{◌≡◌, ℕ, suc, List, [], ◌∷◌, map, length, refl, sym, ap, ◌∙◌, arith, Option, Some, None}
use Rattle.bidi_class.specs.Class.{bidi_class}
use Rattle.bidi_order.specs.Levels.{line_levels}
use Rattle.bidi_order.specs.Reset.{ResetKind, reset_kind, reset_levels}
use Rattle.bidi_order.specs.Sequences.{levels_before_reset}
use Rattle.bidi_preview.proofs.LineLevels.{line_long}

reset-long : (base : ℕ) (kinds : List ResetKind) (levels : List (Option ℕ))
    → length kinds ≡ length levels → length (reset_levels base kinds levels) ≡ length levels
reset-long base [] levels long = refl
reset-long base (kind ∷ kinds) [] long = absurd (omega (arith, long))
reset-long base (kind ∷ kinds) (None ∷ levels) long = ap suc (reset-long base kinds levels (omega (arith, long)))
reset-long base (kind ∷ kinds) (Some level ∷ levels) long = ap suc (reset-long base kinds levels (omega (arith, long)))

mapped-long : (line : List ℕ) → length (map (λ (c : ℕ). reset_kind (bidi_class c)) line) ≡ length line
mapped-long [] = refl
mapped-long (c ∷ line) = ap suc (mapped-long line)

pub levels_long : (base : ℕ) (line : List ℕ) → length (line_levels base line) ≡ length line
unfolding line_levels
levels_long base line = reset-long base (map (λ (c : ℕ). reset_kind (bidi_class c)) line)
    (levels_before_reset base line) (mapped-long line ∙ sym (line_long base line)) ∙ line_long base line
