-- What values, blocks and texts give in a frame.
--
-- In a frame each piece is read by the tokenizer, whose state so far decides the place of a value. What stands at a
-- point has a meaning: from the state so far, and what comes next from the state after it, the outcome from here on. A
-- block of kind html or attributes is bound as its outcome, made from the start of its kind; its print gives its
-- pieces, which the outer frame reads too. One of kind text is gathered into a string where it stands. Example: the
-- string `<` at a place of text gives one piece, the value `<span dir="ltr">&lt;</span>`.
use Rattle.std.specs.Prelude.{ℕ, List, [], ◌∷◌, Result, Ok}
use Rattle.soy_base.specs.declared.code.Code.{Code}
use Rattle.soy_base.specs.declared.direction.Dir.{Dir}
use Rattle.soy_base.specs.declared.kind.Kind.{Kind}
use Rattle.soy_base.specs.declared.kind.Kind.TheVariants as kind
use Rattle.soy_base.specs.declared.place.Placing.{Placing}
use Rattle.soy_base.specs.declared.place.ValueClass.{ValueClass}
use Rattle.soy_base.specs.declared.place.ValueClass.TheVariants as class
use Rattle.html_state.specs.AfterPieces.{after_piece}
use Rattle.soy_base.specs.Piece.{Piece, Static, Value}
use Rattle.html_state.specs.StatePlacing.{placing}
use Rattle.html_state.specs.declared.row.State.{State}
use Rattle.soy_rules.specs.Faults.{followed_by}
use Rattle.soy_tree.specs.Values.{NullValue, BoolValue, IntValue, StringValue}
use Rattle.soy_tree.specs.Values as values
use Rattle.soy_rules.specs.Val.{Binding, Env, Known, BlockOf, value_text}
use Rattle.soy_pieces.specs.EscapedAt.{value_form}
use Rattle.soy_pieces.specs.Outcome.{ChoiceMade, Outcome, RunEnds, GivesPiece, continued_by, gathered}
use Rattle.soy_pieces.specs.Outcome.{spent_first}

-- the state after the pieces of a frame so far
abbrev pub StateSoFar : Type 0
StateSoFar = Result State Code

-- what stands at a point means, before what comes next
abbrev pub Means : Type 0
Means = StateSoFar → (StateSoFar → Outcome) → Outcome

-- a block that is bound: its outcome, made from the start of its kind
pub record BoundBlock : Type 0 where
  pub kind : Kind
  pub outcome : Outcome

abbrev pub RunEnv : Type 0
RunEnv = Env BoundBlock

abbrev pub with_cost : ℕ → Outcome → Outcome
with_cost cost o = spent_first (record { cost = cost; work = 0; choices = [] }) o

abbrev pub with_choice : ChoiceMade → Outcome → Outcome
with_choice choice o = spent_first (record { cost = 0; work = 1; choices = choice ∷ [] }) o

abbrev pub read_piece : StateSoFar → Piece → StateSoFar
read_piece so_far piece = followed_by so_far (λ state. after_piece state piece)

abbrev pub read_outcome : StateSoFar → Outcome → StateSoFar
read_outcome so_far (RunEnds spent end) = so_far
read_outcome so_far (GivesPiece spent piece o) = read_outcome (read_piece so_far piece) o

abbrev pub piece_means : Piece → Means
piece_means piece so_far next =
    GivesPiece (record { cost = 0; work = 1; choices = [] }) piece (next (read_piece so_far piece))

-- an empty text gives no piece
abbrev pub text_means : List ℕ → Means
text_means [] so_far next = next so_far
text_means (c ∷ text) so_far next = piece_means (Static (c ∷ text)) so_far next

abbrev pub value_class : values.Value → ValueClass
value_class NullValue = class.Null
value_class (BoolValue b) = class.Bool
value_class (IntValue n) = class.Int
value_class _ = class.Text

abbrev pub placing_so_far : StateSoFar → Result Placing Code
placing_so_far so_far = followed_by so_far (λ state. Ok (placing state))

abbrev pub value_means : Dir → values.Value → Means
value_means context v so_far next =
    piece_means (Value (value_form (placing_so_far so_far) (value_class v) (value_text v) context)) so_far next

-- a frame of kind html or attributes, whose outcome this is
abbrev pub frame_means : Outcome → Means
frame_means o so_far next = continued_by o (next (read_outcome so_far o))

abbrev pub printed_means : Dir → Binding BoundBlock → Means
printed_means context (Known v) = value_means context v
printed_means context (BlockOf block) = frame_means block.outcome

-- a block of this kind, with its outcome, as what is bound to a name
abbrev pub block_bound : Kind → Outcome → (Binding BoundBlock → Outcome) → Outcome
block_bound kind.Text o next = gathered [] o (λ text. next (Known (StringValue text)))
block_bound kind o next = next (BlockOf (record { kind = kind; outcome = o }))

-- a call of a template of this kind, with its outcome
abbrev pub called_means : Dir → Kind → Outcome → Means
called_means context kind.Text o so_far next =
    gathered [] o (λ text. value_means context (StringValue text) so_far next)
called_means context kind o so_far next = frame_means o so_far next
