-- The machine of expressions: what a token does to what was read. It has no step at a token with which no expression
-- goes on.
-- Example: after `(1` a `)` gives an operand, a `+` opens a frame in which an operand is expected, and a `]` has no
-- step.
use Rattle.std.specs.Prelude.{ℕ, Bool, true, false, List, [], ◌∷◌, Option, Some, None}
use Rattle.soy_lexer.specs.declared.token.Token.{Token}
use Rattle.soy_lexer.specs.declared.token.TokenKind.{TokenKind}
use Rattle.soy_lexer.specs.declared.token.TokenKind.TheVariants as kind
use Rattle.soy_tree.specs.declared.expr.BinaryOp.{BinaryOp}
use Rattle.soy_tree.specs.declared.expr.BinaryOp.TheVariants as binary
use Rattle.soy_tree.specs.declared.expr.ExprNode.TheVariants as node
use Rattle.expr_parser.specs.declared.terminal.Terminal.{Terminal}
use Rattle.expr_parser.specs.declared.terminal.Terminal.TheVariants as terminal
use Rattle.expr_parser.specs.declared.frame.Pending.TheVariants as pending
use Rattle.expr_parser.specs.declared.frame.Bracket.TheVariants as bracket
use Rattle.expr_parser.specs.declared.frame.Frame.{Frame}
use Rattle.expr_parser.specs.declared.frame.Frame.TheVariants as frame
use Rattle.expr_parser.specs.declared.operand.Operand.{Operand}
use Rattle.expr_parser.specs.declared.state.Expected.{Expected}
use Rattle.expr_parser.specs.declared.state.Expected.TheVariants as expected
use Rattle.expr_parser.specs.declared.state.ExprState.{ExprState}
use Rattle.expr_parser.specs.Depths.{deeper}
use Rattle.expr_parser.specs.Operands.{atom, member, indexed, in_parens, level_of}
use Rattle.expr_parser.specs.Terminals.{terminal_of}
use Rattle.expr_parser.specs.Frames.{Nested, reduced, raised}

abbrev pub at : List Frame → Expected → ExprState
at frames expected = record { frames = frames; expected = expected }

-- an operand has come
abbrev pub has : List Frame → Operand → Option ExprState
has frames x = Some (at frames (expected.Operator x))

-- one has to come inside a further frame
abbrev pub opens : List Frame → Frame → Option ExprState
opens frames f = Some (at (f ∷ frames) expected.Operand)

-- where an operand has to come
abbrev pub operand_next : List Frame → Token → Terminal → Option ExprState
operand_next frames token terminal.Null = has frames (atom node.Null token)
operand_next frames token (terminal.Bool b) = has frames (atom (node.Bool b) token)
operand_next frames token (terminal.Int n) = has frames (atom (node.Int n) token)
operand_next frames token terminal.Str = has frames (atom (node.Str token.text) token)
operand_next frames token terminal.Variable = has frames (atom (node.Var token.text) token)
operand_next frames token terminal.Not = opens frames (frame.Pending (pending.Not token.span))
operand_next frames token terminal.Minus = opens frames (frame.Pending (pending.Neg token.span))
operand_next frames token terminal.OpenParen = opens frames (frame.Bracket (bracket.Paren token.span))
operand_next frames token _ = None

-- after a `.`
abbrev pub name_next : List Frame → Operand → Bool → Token → TokenKind → Option ExprState
name_next frames x takes_null token kind.Word = has frames (member x takes_null token)
name_next frames x takes_null token _ = None

-- an infix operator
abbrev pub infix_next : Nested → BinaryOp → Option ExprState
infix_next r op = opens r.frames (frame.Pending (pending.Binary op r.operand))

abbrev pub coalesce_next : Nested → Option ExprState
coalesce_next r = opens r.frames (frame.Pending (pending.Coalesce r.operand))

abbrev pub question_next : Nested → Option ExprState
question_next r = opens r.frames (frame.Bracket (bracket.Then r.operand))

-- a token that closes a bracket
abbrev pub colon_next : List Frame → Operand → Option ExprState
colon_next (frame.Bracket (bracket.Then c) ∷ frames) x = opens frames (frame.Pending (pending.Else c x))
colon_next _ x = None

abbrev pub paren_next : List Frame → Operand → Token → Option ExprState
paren_next (frame.Bracket (bracket.Paren opening) ∷ frames) x token = has frames (in_parens opening x token.span)
paren_next _ x token = None

abbrev pub bracket_next : List Frame → Operand → Token → Option ExprState
bracket_next (frame.Bracket (bracket.Index a takes_null) ∷ frames) x token = has frames
    (indexed a takes_null x token.span)
bracket_next _ x token = None

-- after an operand
abbrev pub operator_next : List Frame → Operand → Token → Terminal → Option ExprState
operator_next frames x token (terminal.Dot takes_null) = Some (at frames (expected.Name x takes_null))
operator_next frames x token (terminal.OpenBracket takes_null) = opens frames
    (frame.Bracket (bracket.Index x takes_null))
operator_next frames x token (terminal.Infix op) = infix_next (reduced (level_of op) frames x) op
operator_next frames x token terminal.Minus = infix_next (reduced (level_of binary.Sub) frames x) binary.Sub
operator_next frames x token terminal.Coalesce = coalesce_next (reduced 8 frames x)
operator_next frames x token terminal.Question = question_next (reduced 8 frames x)
operator_next frames x token terminal.Colon = let r = reduced 9 frames x in colon_next r.frames r.operand
operator_next frames x token terminal.CloseParen = let r = reduced 9 frames x in paren_next r.frames r.operand token
operator_next frames x token terminal.CloseBracket = let r = reduced 9 frames x in bracket_next r.frames r.operand token
operator_next frames x token _ = None

abbrev pub next_at : Expected → List Frame → Token → Option ExprState
next_at expected.Operand frames token = operand_next frames token (terminal_of token)
next_at (expected.Name x takes_null) frames token = name_next frames x takes_null token token.kind
next_at (expected.Operator x) frames token = operator_next frames x token (terminal_of token)

abbrev pub expr_next : ExprState → Token → Option ExprState
expr_next s token = next_at s.expected s.frames token

-- the height of what was read inside the innermost frame
abbrev pub height_at : Expected → ℕ
height_at expected.Operand = 0
height_at (expected.Name x takes_null) = deeper x.height 0
height_at (expected.Operator x) = x.height

-- the nodes on the longest branch of what was read
abbrev pub expr_depth : ExprState → ℕ
expr_depth s = raised s.frames (height_at s.expected)

-- what was read is a whole expression, if nothing is opening
abbrev pub alone : List Frame → Operand → Option Operand
alone [] x = Some x
alone (f ∷ fs) x = None

abbrev pub whole : Nested → Option Operand
whole r = alone r.frames r.operand

abbrev pub whole_at : Expected → List Frame → Option Operand
whole_at (expected.Operator x) frames = whole (reduced 9 frames x)
whole_at _ frames = None

abbrev pub whole_expr : ExprState → Option Operand
whole_expr s = whole_at s.expected s.frames

-- what a token does: some expression goes on with it, and this is the state after it; or none does, and then what was
-- read before it is a whole expression or isn't
pub data ExprStep : Type 0 where
  Next : ExprState → ExprStep
  End : Option Operand → ExprStep

-- what was read, where no expression goes on with the token
abbrev pub given : Expected → Option Operand
given (expected.Operator x) = Some x
given _ = None

-- what a step in place did that leaves this state, by whether some expression goes on with the token
abbrev pub stepped : Bool → ExprState → ExprStep
stepped true to = Next to
stepped false left = End (given left.expected)

abbrev pub step_of : Option ExprState → Option Operand → ExprStep
step_of (Some to) before = Next to
step_of None before = End before

abbrev pub operand_step : List Frame → Token → Terminal → ExprStep
operand_step frames token m = step_of (operand_next frames token m) None

abbrev pub name_step : List Frame → Operand → Bool → Token → TokenKind → ExprStep
name_step frames x takes_null token k = step_of (name_next frames x takes_null token k) None

abbrev pub operator_step : List Frame → Operand → Token → Terminal → ExprStep
operator_step frames x token m = step_of (operator_next frames x token m) (whole (reduced 9 frames x))

-- the `}` of a command after one operand in no frame
abbrev pub has_none : List Frame → Bool
has_none [] = true
has_none (f ∷ fs) = false

abbrev pub alone_at : Expected → List Frame → Bool
alone_at (expected.Operator x) frames = has_none frames
alone_at _ frames = false

abbrev pub is_alone : ExprState → Bool
is_alone s = alone_at s.expected s.frames

abbrev pub ended_at : TokenKind → ExprState → Bool
ended_at kind.End s = is_alone s
ended_at _ s = false

abbrev pub is_ended : ExprState → Token → Bool
is_ended s t = ended_at t.kind s

abbrev pub step_at : Expected → List Frame → Token → ExprStep
step_at expected.Operand frames token = operand_step frames token (terminal_of token)
step_at (expected.Name x takes_null) frames token = name_step frames x takes_null token token.kind
step_at (expected.Operator x) frames token = operator_step frames x token (terminal_of token)

abbrev pub expr_step : ExprState → Token → ExprStep
expr_step s token = step_at s.expected s.frames token
