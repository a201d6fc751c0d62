-- How `parse_type` reads: token by token, until one has no step, lies too deep or shows that the word before it names
-- no type, or the tokens run out.
use Rattle.std.specs.Prelude.{ℕ, ◌+◌, false, List, [], ◌∷◌, Option, Some, None, if◌then◌else◌}
use Rattle.soy_base.specs.declared.code.Code.TheVariants as code
use Rattle.soy_lexer.specs.declared.token.Token.{Token}
use Rattle.expr_parser.specs.declared.parse.TypeOutcome.{TypeOutcome}
use Rattle.expr_parser.specs.declared.parse.TypeOutcome.TheVariants.{Done, Refused}
use Rattle.expr_parser.specs.declared.type_frame.TypeOperand.{TypeOperand}
use Rattle.expr_parser.specs.declared.type_state.TypeState.{TypeState}
use Rattle.expr_parser.specs.declared.type_state.TypeStep.{TypeStep}
use Rattle.expr_parser.specs.declared.type_state.TypeStep.TheVariants.{Next, End}
use Rattle.expr_parser.specs.Depths.{is_within}
use Rattle.expr_parser.specs.TypeSteps.{type_step, whole_type, type_depth, unknown_type}
use Rattle.expr_parser.specs.TypeTerminals.{type_terminal_of, is_less}

-- what was read before the offset, if it is a whole type
abbrev pub type_answer : ℕ → ℕ → Option TypeOperand → TypeOutcome
type_answer count offset (Some x) = Done x count
type_answer count offset None = Refused code.Syntax offset

-- where the word that was read last names no type, that; otherwise the rest
abbrev pub unless_unknown : Option ℕ → TypeOutcome → TypeOutcome
unless_unknown (Some offset) otherwise = Refused code.Mistyped offset
unless_unknown None otherwise = otherwise

-- after a token
abbrev pub read_type_on : ℕ → ℕ → Token → (TypeState → TypeOutcome) → TypeStep → TypeOutcome
read_type_on blocks count token go_on (End before) = type_answer count token.span.start before
read_type_on blocks count token go_on (Next s) =
    if is_within blocks (type_depth s) then go_on s else Refused code.Nesting token.span.start

-- the rest of the tokens, after so many that end at an offset and have led to a state
abbrev pub reading_type : ℕ → ℕ → ℕ → List Token → TypeState → TypeOutcome
reading_type blocks count end [] s = unless_unknown (unknown_type s false) (type_answer count end (whole_type s))
reading_type blocks count end (t ∷ ts) s =
    unless_unknown (unknown_type s (is_less (type_terminal_of t)))
    (read_type_on blocks count t (reading_type blocks (count + 1) t.span.end ts) (type_step s t))
