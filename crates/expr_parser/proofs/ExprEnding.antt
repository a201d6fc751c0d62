-- At the `}` of a command after one operand in no frame no expression goes on, and the state stays as it is.
use Rattle.std.proofs.Common.{◌≡◌, List, [], ◌∷◌, true, false, refl, sym, ap}
use Rattle.std.specs.Prelude.{encode_utf8_all}
use Rattle.soy_lexer.specs.declared.token.Token.{Token}
use Rattle.soy_lexer.specs.declared.token.TokenKind.{TokenKind}
use Rattle.soy_lexer.specs.declared.token.TokenKind.TheVariants as kind
use Rattle.expr_parser.specs.ExprSteps.{alone_at, ended_at, expr_step, given, is_ended, operator_step, step_at, stepped}
use Rattle.expr_parser.specs.ExprSteps.ExprStep.{End}
use Rattle.expr_parser.specs.Terminals.{kind_terminal, terminal_of}
use Rattle.expr_parser.specs.declared.frame.Frame.{Frame}
use Rattle.expr_parser.specs.declared.state.Expected.{Expected}
use Rattle.expr_parser.specs.declared.state.Expected.TheVariants as expected
use Rattle.expr_parser.specs.declared.state.ExprState.{ExprState}
use Rattle.expr_parser.specs.declared.terminal.Terminal.TheVariants as terminal

is_not : false ≡ true → ⊥
is_not h = cc

by_parts : (t : Token) → terminal_of t ≡ terminal.Other → (e : Expected) (frames : List Frame)
    → alone_at e frames ≡ true → End (given e) ≡ step_at e frames t
by_parts t other (expected.Operator x) [] a = sym (ap (operator_step [] x t) other)
by_parts t other (expected.Operator x) (f ∷ fs) a = absurd (is_not a)
by_parts t other expected.Operand frames a = absurd (is_not a)
by_parts t other (expected.Name x takes_null) frames a = absurd (is_not a)

by_kind : (s : ExprState) (t : Token) (k : TokenKind) → t.kind ≡ k → ended_at k s ≡ true
    → stepped false s ≡ expr_step s t
by_kind s t kind.End at a =
    by_parts t (ap (λ k. kind_terminal k (encode_utf8_all t.text)) at) s.expected s.frames a
by_kind s t kind.Text at a = absurd (is_not a)
by_kind s t kind.Begin at a = absurd (is_not a)
by_kind s t kind.BeginClose at a = absurd (is_not a)
by_kind s t kind.Word at a = absurd (is_not a)
by_kind s t kind.Variable at a = absurd (is_not a)
by_kind s t kind.Int at a = absurd (is_not a)
by_kind s t kind.Str at a = absurd (is_not a)
by_kind s t kind.Attribute at a = absurd (is_not a)
by_kind s t kind.Symbol at a = absurd (is_not a)
by_kind s t kind.SlashEnd at a = absurd (is_not a)

pub ended : (s : ExprState) (t : Token) → is_ended s t ≡ true → stepped false s ≡ expr_step s t
ended s t a = by_kind s t t.kind refl a
