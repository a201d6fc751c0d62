-- What values, blocks and texts give is the same without positions, where what comes next is.
use Rattle.std.proofs.Common.{◌≡◌, ℕ, List, [], ◌∷◌, ◌++◌, refl, ap, ◌∙◌}
use Rattle.soy_base.specs.declared.direction.Dir.{Dir}
use Rattle.soy_base.specs.declared.kind.Kind.{Kind}
use Rattle.soy_base.specs.declared.kind.Kind.TheVariants as kind
use Rattle.soy_base.specs.Piece.{Piece, Static, Value}
use Rattle.soy_tree.specs.Values.{StringValue}
use Rattle.soy_tree.specs.Values as values
use Rattle.soy_rules.specs.Val.{Binding, BlockOf, Known, value_text}
use Rattle.soy_pieces.specs.EscapedAt.{value_form}
use Rattle.soy_pieces.specs.Giving.{BoundBlock, Means, RunEnv, StateSoFar, block_bound, called_means, frame_means}
use Rattle.soy_pieces.specs.Giving.{piece_means, placing_so_far, printed_means, read_outcome, read_piece, text_means}
use Rattle.soy_pieces.specs.Giving.{value_class, value_means, with_choice, with_cost}
use Rattle.soy_pieces.specs.Outcome.{ChoiceMade, GivesPiece, Outcome, RunEnds, Spent, StopsAt, WholeRun, continued_by}
use Rattle.soy_pieces.specs.Outcome.{gathered, pieces_of_outcome, spent_first}
use Rattle.alike_files.specs.RunWithoutPositions.{outcome_without_positions}
use Rattle.alike_files.proofs.ExpressionValues.{binding_by, env_by}

abbrev pub block_placeless : BoundBlock → BoundBlock
block_placeless b = record { kind = b.kind; outcome = outcome_without_positions b.outcome }

abbrev pub binding_placeless : Binding BoundBlock → Binding BoundBlock
binding_placeless = binding_by block_placeless

abbrev pub env_placeless : RunEnv → RunEnv
env_placeless = env_by block_placeless

-- what comes next gives the same without positions
abbrev pub NextSame : (StateSoFar → Outcome) → (StateSoFar → Outcome) → Type 0
NextSame next other = (now : StateSoFar) → other now ≡ outcome_without_positions (next now)

-- two meanings are the same without positions
abbrev pub MeansSame : Means → Means → Type 0
MeansSame m n =
    (so_far : StateSoFar) (next other : StateSoFar → Outcome) → NextSame next other
    → n so_far other ≡ outcome_without_positions (m so_far next)

-- ---- outcomes

pub pieces_same : (o : Outcome) → pieces_of_outcome (outcome_without_positions o) ≡ pieces_of_outcome o
pieces_same (RunEnds a end) = refl
pieces_same (GivesPiece a piece o) = ap (λ ps. piece ∷ ps) (pieces_same o)

spent_same : (a : Spent) (o : Outcome)
    → spent_first a (outcome_without_positions o) ≡ outcome_without_positions (spent_first a o)
spent_same a (RunEnds b end) = refl
spent_same a (GivesPiece b piece o) = refl

spent_next : (a : Spent) (o other : Outcome) → other ≡ outcome_without_positions o
    → spent_first a other ≡ outcome_without_positions (spent_first a o)
spent_next a o other e = ap (spent_first a) e ∙ spent_same a o

continued_same : (o rest : Outcome)
    → continued_by (outcome_without_positions o) (outcome_without_positions rest)
    ≡ outcome_without_positions (continued_by o rest)
continued_same (RunEnds a WholeRun) rest = spent_same a rest
continued_same (RunEnds a (StopsAt call)) rest = refl
continued_same (GivesPiece a piece o) rest = ap (GivesPiece a piece) (continued_same o rest)

gathered_same : (text : List ℕ) (o : Outcome) (next other : List ℕ → Outcome)
    → ((t : List ℕ) → other t ≡ outcome_without_positions (next t))
    → gathered text (outcome_without_positions o) other ≡ outcome_without_positions (gathered text o next)
gathered_same text (RunEnds a WholeRun) next other h = spent_next a (next text) (other text) (h text)
gathered_same text (RunEnds a (StopsAt call)) next other h = refl
gathered_same text (GivesPiece a (Static more) o) next other h =
    spent_next a (gathered (text ++ more) o next) _ (gathered_same (text ++ more) o next other h)
gathered_same text (GivesPiece a (Value more) o) next other h =
    spent_next a (gathered (text ++ more) o next) _ (gathered_same (text ++ more) o next other h)

pub cost_next : (n : ℕ) (o other : Outcome) → other ≡ outcome_without_positions o
    → with_cost n other ≡ outcome_without_positions (with_cost n o)
cost_next n o other e = spent_next (record { cost = n; work = 0; choices = [] }) o other e

pub choice_next : (choice : ChoiceMade) (o other : Outcome) → other ≡ outcome_without_positions o
    → with_choice choice other ≡ outcome_without_positions (with_choice choice o)
choice_next choice o other e = spent_next (record { cost = 0; work = 1; choices = choice ∷ [] }) o other e

read_same : (so_far : StateSoFar) (o : Outcome)
    → read_outcome so_far (outcome_without_positions o) ≡ read_outcome so_far o
read_same so_far (RunEnds a end) = refl
read_same so_far (GivesPiece a piece o) = read_same (read_piece so_far piece) o

-- ---- texts, values and blocks

piece_given : (piece : Piece) → MeansSame (piece_means piece) (piece_means piece)
piece_given piece so_far next other h =
    ap (GivesPiece (record { cost = 0; work = 1; choices = [] }) piece) (h (read_piece so_far piece))

pub text_given : (text : List ℕ) → MeansSame (text_means text) (text_means text)
text_given [] so_far next other h = h so_far
text_given (c ∷ text) so_far next other h = piece_given (Static (c ∷ text)) so_far next other h

pub value_given : (context : Dir) (v : values.Value) → MeansSame (value_means context v) (value_means context v)
value_given context v so_far next other h =
    piece_given (Value (value_form (placing_so_far so_far) (value_class v) (value_text v) context)) so_far next other h

frame_given : (o : Outcome) → MeansSame (frame_means o) (frame_means (outcome_without_positions o))
frame_given o so_far next other h =
    ap (λ now. continued_by (outcome_without_positions o) (other now)) (read_same so_far o)
    ∙ (ap (continued_by (outcome_without_positions o)) (h (read_outcome so_far o))
    ∙ continued_same o (next (read_outcome so_far o)))

pub print_given : (context : Dir) (b : Binding BoundBlock)
    → MeansSame (printed_means context b) (printed_means context (binding_placeless b))
print_given context (Known v) so_far next other h = value_given context v so_far next other h
print_given context (BlockOf block) so_far next other h = frame_given block.outcome so_far next other h

pub bound_given : (k : Kind) (o : Outcome) (next other : Binding BoundBlock → Outcome)
    → ((b : Binding BoundBlock) → other (binding_placeless b) ≡ outcome_without_positions (next b))
    → block_bound k (outcome_without_positions o) other ≡ outcome_without_positions (block_bound k o next)
bound_given kind.Text o next other h =
    gathered_same [] o (λ text. next (Known (StringValue text))) (λ text. other (Known (StringValue text)))
    (λ text. h (Known (StringValue text)))
bound_given kind.Html o next other h = h (BlockOf (record { kind = kind.Html; outcome = o }))
bound_given kind.Attributes o next other h = h (BlockOf (record { kind = kind.Attributes; outcome = o }))

pub call_given : (context : Dir) (k : Kind) (o : Outcome)
    → MeansSame (called_means context k o) (called_means context k (outcome_without_positions o))
call_given context kind.Text o so_far next other h =
    gathered_same [] o (λ text. value_means context (StringValue text) so_far next)
    (λ text. value_means context (StringValue text) so_far other)
    (λ text. value_given context (StringValue text) so_far next other h)
call_given context kind.Html o so_far next other h = frame_given o so_far next other h
call_given context kind.Attributes o so_far next other h = frame_given o so_far next other h
