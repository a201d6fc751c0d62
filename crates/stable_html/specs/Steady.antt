-- Steady pieces: the hole law, carried over a whole page.
--
-- The static texts are read without a fault. Each value stands where it is taken, and leads the state before it to the
-- one that a value leaves behind, whatever it is.
-- Example: `<p title="`, the value `&quot;`, `">`, and the value `<span dir="ltr">7</span>` are steady from the start
-- of kind html, and without the span's `</span>` they aren't.
use Rattle.std.specs.Prelude.{◌≡◌, List, [], ◌∷◌, Ok}
use Rattle.soy_base.specs.declared.direction.Dir.{Dir}
use Rattle.html_state.specs.AfterPieces.{after_piece}
use Rattle.soy_base.specs.Piece.{Piece, Static, Value}
use Rattle.html_state.specs.AfterValue.{after_value}
use Rattle.html_state.specs.Leads.{Leads}
use Rattle.html_state.specs.declared.row.State.{State}
use Rattle.stable_html.specs.PlacedValue.{IsPlacedValue}

abbrev pub Steady : Dir → State → List Piece → Type 0
Steady context now [] = Unit {0}
Steady context now (Static text ∷ rest) =
    (past : State) × (after_piece now (Static text) ≡ Ok past) × Steady context past rest
Steady context now (Value out ∷ rest) =
    IsPlacedValue context now out × Leads now out × Steady context (after_value now) rest
