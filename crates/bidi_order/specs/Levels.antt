-- The levels of a line (UAX #9, X1 to L1), None for a character that X9 removes. A base from left to right is the level
-- 0, and one from right to left the level 1.
--
-- Of `a`, RLI, U+05D0, PDI, `b` at the base 0 they are 0, 0, 1, 0, 0. Of U+05D0 and `1` they are 1 and 2.
use Rattle.std.specs.Prelude.{ℕ, List, map, Option}
use Rattle.bidi_class.specs.Class.{bidi_class}
use Rattle.bidi_order.specs.Sequences.{levels_before_reset}
use Rattle.bidi_order.specs.Reset.{reset_kind, reset_levels}

unfoldable pub line_levels : ℕ → List ℕ → List (Option ℕ)
line_levels base line =
    reset_levels base (map (λ (c : ℕ). reset_kind (bidi_class c)) line) (levels_before_reset base line)
