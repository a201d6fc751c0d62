-- A page, taken as one static text, has no fault: it is read from its start to its end, and the end decides each `&`.
--
-- `<b>a</b>` is one, and `<b>a&` isn't: its `&` isn't decided at the end.
use Rattle.std.specs.Prelude.{◌≡◌, ℕ, List, Ok}
use Rattle.soy_base.specs.declared.kind.Kind.TheVariants as kind
use Rattle.html_state.specs.declared.row.State.{State}
use Rattle.html_state.specs.AfterPieces.{after_piece}
use Rattle.soy_base.specs.Piece.Piece.{Static}
use Rattle.html_state.specs.Start.{start}

abbrev pub IsOneText : List ℕ → Type 0
IsOneText page = (last : State) × (after_piece (start kind.Html) (Static page) ≡ Ok last)
