-- The first token of an expression is no head of a command: after a `{` it begins a print.
use Rattle.std.proofs.Common.{◌≡◌, ℕ, Bool, true, false, List, [], Some, None, refl, sym}
use Rattle.std.proofs.Common.{subst}
use Rattle.std.specs.Prelude.{if◌then◌else◌, codes, encode_utf8_all}
use Rattle.std.specs.Str.{bytes_eq}
use Rattle.std.proofs.lemmas.Slice.Eq.{bytes_eq-Decides}
use Rattle.soy_base.specs.declared.fault.Span.{Span}
use Rattle.soy_lexer.specs.declared.token.Token.{Token}
use Rattle.soy_lexer.specs.declared.token.TokenKind.{TokenKind}
use Rattle.soy_lexer.specs.declared.token.TokenKind.TheVariants as token_kind
use Rattle.expr_parser.specs.declared.frame.Frame.{Frame}
use Rattle.expr_parser.specs.declared.state.ExprState.{ExprState}
use Rattle.expr_parser.specs.declared.terminal.Terminal.{Terminal}
use Rattle.expr_parser.specs.ExprRuns.{expr_start}
use Rattle.expr_parser.specs.ExprSteps.{expr_next, expr_step, operand_next}
use Rattle.expr_parser.specs.Terminals.{kind_terminal, word_terminal, symbol_terminal}
use Rattle.soy_parser.specs.declared.block.CommandState.{CommandState}
use Rattle.soy_parser.specs.declared.terminal.CommandTerminal.{CommandTerminal}
use Rattle.soy_parser.specs.declared.terminal.CommandTerminal.TheVariants as terminal
use Rattle.soy_parser.specs.CommandTerminals.{command_terminal, command_terminal_of, command_word, command_symbol}
use Rattle.soy_parser.specs.FileSteps.{opened_step, bare_expr, print_use}

-- after a `{` such a token is read as the first of an expression
pub record Plain (m : CommandTerminal) : Type 0 where
  pub is : (s : CommandState) (from : Span) (t : Token) →
      opened_step s from t m ≡ bare_expr s from (print_use s) (expr_step expr_start t)

module _ (fs : List Frame) (t : Token) (r : ExprState) where
  -- an expression begins with it
  abbrev Begins : Terminal → Type 0
  Begins m = operand_next fs t m ≡ Some r

  -- not with a word that is none of these
  if_word : (text known : List ℕ) (m rest : Terminal) → Begins (if bytes_eq text known then m else rest) →
      Plain (terminal.Word (command_word known)) → (Begins rest → Plain (terminal.Word (command_word text))) →
      Plain (terminal.Word (command_word text))
  if_word text known m rest e plain otherwise = over (bytes_eq text known) refl e
    where
      over : (b : Bool) → bytes_eq text known ≡ b → Begins (if b then m else rest)
          → Plain (terminal.Word (command_word text))
      over true q e = subst (λ l. Plain (terminal.Word (command_word l))) (sym ((bytes_eq-Decides text known).0 q))
          plain
      over false q e = otherwise e

  none_begins : None ≡ Some r → ⊥
  none_begins h = cc h

  plain_word : (text : List ℕ) → Begins (word_terminal text) → Plain (terminal.Word (command_word text))
  plain_word text e =
      if_word text (codes "null") _ _ e (record { is = λ s from t. refl }) (λ e.
      if_word text (codes "true") _ _ e (record { is = λ s from t. refl }) (λ e.
      if_word text (codes "false") _ _ e (record { is = λ s from t. refl }) (λ e.
      if_word text (codes "not") _ _ e (record { is = λ s from t. refl }) (λ e.
      if_word text (codes "and") _ _ e (record { is = λ s from t. refl }) (λ e.
      if_word text (codes "or") _ _ e (record { is = λ s from t. refl }) (λ e. absurd (none_begins e)))))))

  -- not with these symbols
  if_symbol : (text known : List ℕ) (m rest : CommandTerminal) → (Begins (symbol_terminal known) → ⊥) →
      Begins (symbol_terminal text) → Plain rest → Plain (if bytes_eq text known then m else rest)
  if_symbol text known m rest never e plain = over (bytes_eq text known) refl
    where
      over : (b : Bool) → bytes_eq text known ≡ b → Plain (if b then m else rest)
      over true q = absurd (never (subst (λ l. Begins (symbol_terminal l)) ((bytes_eq-Decides text known).0 q) e))
      over false q = plain

  plain_symbol : (text : List ℕ) → Begins (symbol_terminal text) → Plain (command_symbol text)
  plain_symbol text e =
      if_symbol text (codes ".") _ _ (λ h. none_begins h) e
      (if_symbol text (codes ",") _ _ (λ h. none_begins h) e
      (if_symbol text (codes ":") _ _ (λ h. none_begins h) e
      (if_symbol text (codes "?") _ _ (λ h. none_begins h) e
      (if_symbol text (codes "=") _ _ (λ h. none_begins h) e
      (if_symbol text (codes "@") _ _ (λ h. none_begins h) e
      (if_symbol text (codes "\\n") _ _ (λ h. none_begins h) e
      (if_symbol text (codes "\\r") _ _ (λ h. none_begins h) e
      (if_symbol text (codes "\\t") _ _ (λ h. none_begins h) e
      (record { is = λ s from t. refl })))))))))

  plain_kind : (k : TokenKind) (text : List ℕ) → Begins (kind_terminal k text) → Plain (command_terminal k text)
  plain_kind token_kind.Word text e = plain_word text e
  plain_kind token_kind.Symbol text e = plain_symbol text e
  plain_kind token_kind.Variable text e = record { is = λ s from t. refl }
  plain_kind token_kind.Int text e = record { is = λ s from t. refl }
  plain_kind token_kind.Str text e = record { is = λ s from t. refl }
  plain_kind _ text e = absurd (cc e)

-- **The first token of an expression begins a print.**
pub plain_start : (t : Token) (r : ExprState) → expr_next expr_start t ≡ Some r → Plain (command_terminal_of t)
plain_start t r e = plain_kind [] t r t.kind (encode_utf8_all t.text) e
