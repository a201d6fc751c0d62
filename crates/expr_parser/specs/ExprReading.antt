-- How `parse_expr` reads: token by token, until one has no step or lies too deep, or the tokens run out.
-- Example: `1 + )` ends at its third token, before which no whole expression was read, so it is refused there.
use Rattle.std.specs.Prelude.{ℕ, ◌+◌, List, [], ◌∷◌, Option, Some, None, if◌then◌else◌}
use Rattle.soy_base.specs.declared.code.Code.TheVariants as code
use Rattle.soy_lexer.specs.declared.token.Token.{Token}
use Rattle.expr_parser.specs.declared.operand.Operand.{Operand}
use Rattle.expr_parser.specs.declared.parse.Outcome.{Outcome}
use Rattle.expr_parser.specs.declared.parse.Outcome.TheVariants.{Done, Refused}
use Rattle.expr_parser.specs.declared.state.ExprState.{ExprState}
use Rattle.expr_parser.specs.ExprSteps.{ExprStep}
use Rattle.expr_parser.specs.ExprSteps.ExprStep.{Next, End}
use Rattle.expr_parser.specs.Depths.{is_within}
use Rattle.expr_parser.specs.ExprSteps.{expr_step, whole_expr, expr_depth}

-- what was read before the offset, if it is a whole expression
abbrev pub answer : ℕ → ℕ → Option Operand → Outcome
answer count offset (Some x) = Done x count
answer count offset None = Refused code.Syntax offset

-- after a token
abbrev pub read_on : ℕ → ℕ → Token → (ExprState → Outcome) → ExprStep → Outcome
read_on blocks count token go_on (End before) = answer count token.span.start before
read_on blocks count token go_on (Next s) =
    if is_within blocks (expr_depth s) then go_on s else Refused code.Nesting token.span.start

-- the rest of the tokens, after so many that end at an offset and have led to a state
abbrev pub reading : ℕ → ℕ → ℕ → List Token → ExprState → Outcome
reading blocks count end [] s = answer count end (whole_expr s)
reading blocks count end (t ∷ ts) s = read_on blocks count t (reading blocks (count + 1) t.span.end ts) (expr_step s t)
