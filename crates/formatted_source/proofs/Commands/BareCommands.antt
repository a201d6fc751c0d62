-- Commands of one word or symbol, closes of blocks, and texts: their lexemes spell what they are written for.
use Rattle.std.proofs.Common.{◌≡◌, ℕ, ◌≤◌, false, List, [], ◌∷◌, Some, refl, sym, ap, subst, ◌∙◌, arith}
use Rattle.std.specs.Prelude.{codes}
use Rattle.soy_lexer.specs.declared.token.Token.{Token}
use Rattle.soy_lexer.specs.declared.token.TokenKind.TheVariants as kind
use Rattle.soy_parser.specs.declared.command.CommandForm.{CommandForm}
use Rattle.soy_parser.specs.declared.command.CommandForm.TheVariants as says
use Rattle.soy_parser.specs.declared.command.Middle.TheVariants as middle
use Rattle.soy_parser.specs.declared.head.Head.TheVariants as head
use Rattle.soy_parser.specs.declared.terminal.BlockName.TheVariants as block
use Rattle.soy_parser.specs.declared.terminal.CommandTerminal.TheVariants as terminal
use Rattle.soy_parser.specs.CommandTerminals.{command_terminal_of}
use Rattle.soy_parser.specs.SpellsCommand.{SpellsCommand}
use Rattle.soy_parser.specs.SpellsHead.{SpellsHead, bare_head}
use Rattle.formatted_source.specs.CommandPieces.{braced, end_lexeme}
use Rattle.formatted_source.specs.Lexemes.{Lexeme, lexemes}
use Rattle.formatted_source.proofs.Commands.CommandTerms.{CommandSpelled, HeadSpelled, IsWhole, bare_spelled}
use Rattle.formatted_source.proofs.Commands.CommandTerms.{command-lexeme}
use Rattle.formatted_source.proofs.Commands.CommandTerms.{lexeme_command}
use Rattle.formatted_source.proofs.Commands.CommandTerms.{plain_starts}
use Rattle.formatted_source.proofs.LexemeLists.{alone}

-- a command of one lexeme that says this
abbrev pub Says : Lexeme → CommandForm → Type 0
Says l of = bare_head (lexeme_command l) ≡ Some (head.Whole of)

pub bare_command : (blocks : ℕ) (ts : List Token) (l : Lexeme) (of : CommandForm) → blocks ≤ 64 → Says l of
    → lexemes ts ≡ braced (l ∷ []) → CommandSpelled blocks ts (λ f. f ≡ of)
bare_command blocks ts l of le is same =
    bare_spelled blocks ts (l ∷ []) end_lexeme (λ f. f ≡ of) le refl (λ us own.
    let t = alone us l own in
    let h : bare_head (command_terminal_of t.token) ≡ Some (head.Whole of) =
    ap bare_head (command-lexeme t.token l t.kind_is t.text_is) ∙ is in
    subst (λ x. HeadSpelled blocks x (λ h. IsWhole h terminal.End (λ f. f ≡ of))) (sym t.are) (record {
      head = head.Whole of;
      depths = 0 ∷ [];
      words = false ∷ [];
      spells = SpellsHead.bare_ t.token (head.Whole of) h;
      said = record { form = of; is = refl; said = refl };
      within = (omega (arith, le), tt);
      names = λ rest none. (tt, tt);
      each = tt;
    })) same

pub lb_says : Says (kind.Word, codes "lb") (says.Character (codes "{"))
unfolding lib.Utf8.encode
lb_says = refl

pub rb_says : Says (kind.Word, codes "rb") (says.Character (codes "}"))
unfolding lib.Utf8.encode
rb_says = refl

pub sp_says : Says (kind.Word, codes "sp") (says.Character (codes " "))
unfolding lib.Utf8.encode
sp_says = refl

pub nil_says : Says (kind.Word, codes "nil") (says.Character [])
unfolding lib.Utf8.encode
nil_says = refl

pub feed_says : Says (kind.Symbol, codes "\\n") (says.Character (10 ∷ []))
unfolding lib.Utf8.encode
feed_says = refl

pub return_says : Says (kind.Symbol, codes "\\r") (says.Character (13 ∷ []))
unfolding lib.Utf8.encode
return_says = refl

pub tab_says : Says (kind.Symbol, codes "\\t") (says.Character (9 ∷ []))
unfolding lib.Utf8.encode
tab_says = refl

pub else_says : Says (kind.Word, codes "else") (says.GoesOn middle.Else)
unfolding lib.Utf8.encode
else_says = refl

pub default_says : Says (kind.Word, codes "default") (says.GoesOn middle.Default)
unfolding lib.Utf8.encode
default_says = refl

pub if_closes : Says (kind.BeginClose, codes "if") (says.Closes block.If)
unfolding lib.Utf8.encode
if_closes = refl

pub switch_closes : Says (kind.BeginClose, codes "switch") (says.Closes block.Switch)
unfolding lib.Utf8.encode
switch_closes = refl

pub for_closes : Says (kind.BeginClose, codes "for") (says.Closes block.For)
unfolding lib.Utf8.encode
for_closes = refl

pub let_closes : Says (kind.BeginClose, codes "let") (says.Closes block.Let)
unfolding lib.Utf8.encode
let_closes = refl

pub call_closes : Says (kind.BeginClose, codes "call") (says.Closes block.Call)
unfolding lib.Utf8.encode
call_closes = refl

pub param_closes : Says (kind.BeginClose, codes "param") (says.Closes block.Param)
unfolding lib.Utf8.encode
param_closes = refl

pub msg_closes : Says (kind.BeginClose, codes "msg") (says.Closes block.Msg)
unfolding lib.Utf8.encode
msg_closes = refl

pub plural_closes : Says (kind.BeginClose, codes "plural") (says.Closes block.Plural)
unfolding lib.Utf8.encode
plural_closes = refl

pub select_closes : Says (kind.BeginClose, codes "select") (says.Closes block.Select)
unfolding lib.Utf8.encode
select_closes = refl

pub template_closes : Says (kind.BeginClose, codes "template") (says.Closes block.Template)
unfolding lib.Utf8.encode
template_closes = refl

-- a text
pub text_command : (blocks : ℕ) (ts : List Token) (text : List ℕ) → blocks ≤ 64 → lexemes ts ≡ (kind.Text, text) ∷ []
    → CommandSpelled blocks ts (λ f. f ≡ says.Text text)
text_command blocks ts text le same =
    let t = alone ts (kind.Text, text) same in
    subst (λ x. CommandSpelled blocks x (λ f. f ≡ says.Text text)) (sym t.are) (record {
      command = record { form = says.Text t.token.text; span = t.token.span };
      depths = 0 ∷ [];
      words = false ∷ [];
      spells = SpellsCommand.text_ t.token (command-lexeme t.token (kind.Text, text) t.kind_is t.text_is);
      said = ap says.Text t.text_is;
      within = (omega (arith, le), tt);
      names = λ rest none. (tt, tt);
      each = tt;
      starts = λ rest. plain_starts t.token (kind.Text, text) rest t.kind_is refl;
    })
