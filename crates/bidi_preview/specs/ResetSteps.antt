-- L1 from the end of a line on (UAX #9, L1): whether a character is reset, and whether those before it are trailing, by
-- whether those after it are.
--
-- White space before the line's end is reset, and what stands before it is trailing too.
use Rattle.std.specs.Prelude.{Bool, true, false}
use Rattle.bidi_order.specs.Reset.{ResetKind}
use Rattle.bidi_order.specs.Reset.ResetKind.{Separator, Whitespace, Removed, Text}

abbrev pub reset_state : ResetKind → Bool → Bool × Bool
reset_state Separator trailing = (true, true)
reset_state Whitespace trailing = (trailing, trailing)
reset_state Removed trailing = (false, trailing)
reset_state Text trailing = (false, false)
