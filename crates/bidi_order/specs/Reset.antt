-- The reset of white space (UAX #9, L1): a separator of segments, and white space and isolate controls directly
-- before one or at the line's end, have the level of the base.
--
-- Of `a`, space, LRI, `b`, PDI at the base 1 the levels are 2, 1, 1, 2, 1: the PDI at the end is reset; the LRI isn't
-- at the end, and has the level that N2 and I2 give it.
use Rattle.std.specs.Prelude.{ℕ, Bool, true, false, List, [], ◌∷◌, if◌then◌else◌, Option, Some, None}
use Rattle.bidi_class.specs.declared.class.Class.{Class}
use Rattle.bidi_class.specs.declared.class.Class.TheVariants.{S, WS, LRI, RLI, FSI, PDI, LRE, RLE, LRO, RLO, PDF, BN}

-- what L1 makes of a class
pub data ResetKind : Type 0 where
  -- S
  Separator : ResetKind
  -- WS and isolate controls
  Whitespace : ResetKind
  -- what X9 removes
  Removed : ResetKind
  Text : ResetKind

abbrev pub reset_kind : Class → ResetKind
reset_kind S = Separator
reset_kind WS = Whitespace
reset_kind LRI = Whitespace
reset_kind RLI = Whitespace
reset_kind FSI = Whitespace
reset_kind PDI = Whitespace
reset_kind LRE = Removed
reset_kind RLE = Removed
reset_kind LRO = Removed
reset_kind RLO = Removed
reset_kind PDF = Removed
reset_kind BN = Removed
reset_kind _ = Text

-- no text stands before the next separator, or the line's end
abbrev pub is_trailing : List ResetKind → Bool
is_trailing [] = true
is_trailing (Separator ∷ kinds) = true
is_trailing (Text ∷ kinds) = false
is_trailing (_ ∷ kinds) = is_trailing kinds

-- a character of the kind, with such others after it, gets the level of the base
abbrev pub is_reset : ResetKind → List ResetKind → Bool
is_reset Separator after = true
is_reset Whitespace after = is_trailing after
is_reset _ after = false

-- the levels after L1
abbrev pub reset_levels : ℕ → List ResetKind → List (Option ℕ) → List (Option ℕ)
reset_levels base [] levels = levels
reset_levels base (kind ∷ kinds) [] = []
reset_levels base (kind ∷ kinds) (None ∷ levels) = None ∷ reset_levels base kinds levels
reset_levels base (kind ∷ kinds) (Some level ∷ levels) =
    Some (if is_reset kind kinds then base else level) ∷ reset_levels base kinds levels

-- L1 speaks of the character: it is a separator, white space or an isolate control
abbrev pub can_reset : ResetKind → Bool
can_reset Separator = true
can_reset Whitespace = true
can_reset _ = false

-- the classes of which L1 speaks: separators of segments, white space and isolate controls
abbrev pub is_reset_class : Class → Bool
is_reset_class S = true
is_reset_class WS = true
is_reset_class LRI = true
is_reset_class RLI = true
is_reset_class FSI = true
is_reset_class PDI = true
is_reset_class _ = false
