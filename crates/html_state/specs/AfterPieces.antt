-- The state after pieces of a page, and the placing there: `State` with `Mark`, and `Place`.
--
-- A piece is a static text, or the characters that stand for a printed value. The characters of static text are static,
-- and its end must decide each `&`. A value's characters are read as such, and then its mark is set, by the state that
-- was before them.
-- Example: after the static text `<a href="` and the value `x` the part is AfterStart, and a second value is refused.
use Rattle.std.specs.Prelude.{List, Result, Ok}
use Rattle.soy_base.specs.declared.code.Code.{Code}
use Rattle.soy_base.specs.declared.kind.Kind.{Kind}
use Rattle.soy_base.specs.declared.place.Placing.{Placing}
use Rattle.html_state.specs.declared.row.State.{State}
use Rattle.html_state.specs.AfterAll.{after_all}
use Rattle.html_state.specs.Leads.{marked}
use Rattle.html_state.specs.Next.{next, text_end, value_character_next}
use Rattle.html_state.specs.Start.{start}
use Rattle.html_state.specs.StatePlacing.{placing}
use Rattle.html_state.specs.Texts.{and_then}
use Rattle.soy_base.specs.Piece.{Piece, Static, Value}

abbrev pub after_piece : State → Piece → Result State Code
after_piece before (Static text) = and_then text_end (after_all next before text)
after_piece before (Value out) = and_then (λ now. Ok (marked before now))
    (after_all value_character_next before out)

abbrev pub after_pieces : State → List Piece → Result State Code
after_pieces = after_all after_piece

-- the placing after pieces from the start of a kind
abbrev pub placing_after : Kind → List Piece → Result Placing Code
placing_after kind pieces = and_then (λ state. Ok (placing state)) (after_pieces (start kind) pieces)
