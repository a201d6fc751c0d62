-- What a run gives: its pieces, each with what was spent before it, and its end.
--
-- The cost is the number of nodes of expressions that were valued since the piece before, and the choices are those
-- made since then: which arm, how many turns, which text of a message. The work is a number of steps, on which a proof
-- that a run ends may lean. A run ends whole, or stops at a call that would nest too deep, after which nothing is
-- valued. Example: `{if $x}a{/if}b` with `$x` true gives `a` with the cost 1 and the choice of the first arm, and then
-- `b` with the cost 0.
use Rattle.std.specs.Prelude.{ℕ, ◌+◌, List, [], ◌∷◌, ◌++◌, Option}
use Rattle.soy_base.specs.Piece.{Piece, Static, Value}
use Rattle.soy_pieces.specs.Site.{Site}

pub data RunEnd : Type 0 where
  WholeRun : RunEnd
  StopsAt : Site → RunEnd

pub data MessageText : Type 0 where
  SourceText : MessageText
  OwnTranslation : MessageText
  FallbackTranslation : MessageText

pub data ChoiceMade : Type 0 where
  -- an arm by its number, or none
  ArmTaken : Option ℕ → ChoiceMade
  Turns : ℕ → ChoiceMade
  TextTaken : MessageText → ChoiceMade

pub record Spent : Type 0 where
  pub cost : ℕ
  pub work : ℕ
  pub choices : List ChoiceMade

pub data Outcome : Type 0 where
  RunEnds : Spent → RunEnd → Outcome
  GivesPiece : Spent → Piece → Outcome → Outcome

abbrev pub none_spent : Spent
none_spent = record { cost = 0; work = 0; choices = [] }

-- the one, and then the other
abbrev pub and_spent : Spent → Spent → Spent
and_spent a b = record { cost = a.cost + b.cost; work = a.work + b.work; choices = a.choices ++ b.choices }

abbrev pub gives_nothing : Outcome
gives_nothing = RunEnds none_spent WholeRun

-- with more spent at first
abbrev pub spent_first : Spent → Outcome → Outcome
spent_first a (RunEnds b end) = RunEnds (and_spent a b) end
spent_first a (GivesPiece b piece rest) = GivesPiece (and_spent a b) piece rest

-- the one, and where it ends whole the other
abbrev pub continued_by : Outcome → Outcome → Outcome
continued_by (RunEnds a WholeRun) rest = spent_first a rest
continued_by (RunEnds a (StopsAt call)) rest = RunEnds a (StopsAt call)
continued_by (GivesPiece a piece o) rest = GivesPiece a piece (continued_by o rest)

-- the bytes of the pieces of an outcome, gathered into a text behind this one, and what is given that text; a stop is
-- its end too
abbrev pub gathered : List ℕ → Outcome → (List ℕ → Outcome) → Outcome
gathered text (RunEnds a WholeRun) next = spent_first a (next text)
gathered text (RunEnds a (StopsAt call)) next = RunEnds a (StopsAt call)
gathered text (GivesPiece a (Static more) o) next = spent_first a (gathered (text ++ more) o next)
gathered text (GivesPiece a (Value more) o) next = spent_first a (gathered (text ++ more) o next)

-- ---- what an outcome is made of

abbrev pub pieces_of_outcome : Outcome → List Piece
pieces_of_outcome (RunEnds a end) = []
pieces_of_outcome (GivesPiece a piece o) = piece ∷ pieces_of_outcome o

abbrev pub end_of_outcome : Outcome → RunEnd
end_of_outcome (RunEnds a end) = end
end_of_outcome (GivesPiece a piece o) = end_of_outcome o

abbrev pub choices_of_outcome : Outcome → List ChoiceMade
choices_of_outcome (RunEnds a end) = a.choices
choices_of_outcome (GivesPiece a piece o) = a.choices ++ choices_of_outcome o

-- the cost up to and with each piece, from the one before it, and the cost of what is valued after the last
abbrev pub costs_of_outcome : Outcome → List ℕ
costs_of_outcome (RunEnds a end) = a.cost ∷ []
costs_of_outcome (GivesPiece a piece o) = a.cost ∷ costs_of_outcome o

-- what counts of a run
abbrev pub pieces_end_costs : Outcome → List Piece × RunEnd × List ℕ
pieces_end_costs o = (pieces_of_outcome o, end_of_outcome o, costs_of_outcome o)
