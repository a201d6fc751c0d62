-- No expression goes on with a comma, which parts the values of a case.
use Rattle.std.proofs.Common.{◌≡◌, ℕ, Bool, true, false, List, Some, refl, sym, ◌∙◌, ap, subst}
use Rattle.std.specs.Prelude.{if◌then◌else◌, codes, encode_utf8_all}
use Rattle.std.specs.Str.{bytes_eq}
use Rattle.std.proofs.lemmas.Slice.Eq.{bytes_eq-Decides}
use Rattle.soy_lexer.specs.declared.token.Token.{Token}
use Rattle.soy_lexer.specs.declared.token.TokenKind.{TokenKind}
use Rattle.soy_lexer.specs.declared.token.TokenKind.TheVariants as token_kind
use Rattle.expr_parser.specs.declared.operand.Operand.{Operand}
use Rattle.expr_parser.specs.declared.state.ExprState.{ExprState}
use Rattle.expr_parser.specs.ExprSteps.{ExprStep as expr_does}
use Rattle.expr_parser.specs.declared.terminal.Terminal.TheVariants as expr_terminal
use Rattle.expr_parser.specs.ExprSteps.{expr_step, step_of, whole_expr}
use Rattle.expr_parser.specs.Terminals.{kind_terminal, symbol_terminal}
use Rattle.expr_parser.proofs.ExprMachine.{next_is}
use Rattle.soy_parser.specs.declared.terminal.CommandTerminal.{CommandTerminal}
use Rattle.soy_parser.specs.declared.terminal.CommandTerminal.TheVariants as terminal
use Rattle.soy_parser.specs.CommandTerminals.{command_terminal, command_terminal_of, command_symbol}
use Rattle.soy_parser.proofs.OfHeads.Seam.{whole_ends_at}

-- it is no comma
record NoComma (m : CommandTerminal) : Type 0 where
  pub no : m ≡ terminal.Comma → ⊥

picked : (b : Bool) (x y : CommandTerminal) → NoComma x → NoComma y → NoComma (if b then x else y)
picked true x y p q = p
picked false x y p q = q

passed : (b : Bool) (x y : CommandTerminal) → b ≡ false → NoComma y → NoComma (if b then x else y)
passed b x y e q = subst (λ c. NoComma (if c then x else y)) (sym e) q

-- a symbol that is none has another text
other_symbol : (text : List ℕ) → bytes_eq text (codes ",") ≡ false → NoComma (command_symbol text)
other_symbol text e =
    picked (bytes_eq text (codes ".")) terminal.Dot _ (record { no = λ h. cc h })
    (passed (bytes_eq text (codes ",")) terminal.Comma _ e
    (picked (bytes_eq text (codes ":")) terminal.Colon _ (record { no = λ h. cc h })
    (picked (bytes_eq text (codes "?")) terminal.Question _ (record { no = λ h. cc h })
    (picked (bytes_eq text (codes "=")) terminal.Equals _ (record { no = λ h. cc h })
    (picked (bytes_eq text (codes "@")) terminal.At _ (record { no = λ h. cc h })
    (picked (bytes_eq text (codes "\\n")) terminal.LineFeed _ (record { no = λ h. cc h })
    (picked (bytes_eq text (codes "\\r")) terminal.CarriageReturn _ (record { no = λ h. cc h })
    (picked (bytes_eq text (codes "\\t")) terminal.Tab _ (record { no = λ h. cc h })
    (record { no = λ h. cc h })))))))))

symbol_is : (text : List ℕ) → command_symbol text ≡ terminal.Comma → symbol_terminal text ≡ expr_terminal.Other
symbol_is text h = over (bytes_eq text (codes ",")) refl
  where
    over : (b : Bool) → bytes_eq text (codes ",") ≡ b → symbol_terminal text ≡ expr_terminal.Other
    over true e = ap symbol_terminal ((bytes_eq-Decides text (codes ",")).0 e)
    over false e = absurd ((other_symbol text e).no h)

kind_is : (k : TokenKind) (text : List ℕ) → command_terminal k text ≡ terminal.Comma
    → kind_terminal k text ≡ expr_terminal.Other
kind_is token_kind.Symbol text h = symbol_is text h
kind_is _ text h = absurd (cc h)

-- so an expression that was read ends there
pub ends_at_comma : (r : ExprState) (t : Token) (x : Operand) → whole_expr r ≡ Some x →
    command_terminal_of t ≡ terminal.Comma → expr_step r t ≡ expr_does.End (Some x)
ends_at_comma r t x w h =
    next_is r.expected r.frames t
    ∙ (ap (λ o. step_of o (whole_expr r))
    (whole_ends_at r.expected r.frames t x w (kind_is t.kind (encode_utf8_all t.text) h))
    ∙ ap expr_does.End w)
