-- Commands of one word or symbol and closes of blocks, as they are written.
use Rattle.std.proofs.Common.{◌≡◌, ℕ, true, List, [], ◌∷◌, ◌++◌, refl}
use Rattle.std.specs.Prelude.{codes}
use Rattle.soy_base.specs.Names.{is_name}
use Rattle.soy_lexer.specs.CommandSegment.{command_segment, opened_segment}
use Rattle.soy_lexer.specs.Found.Found.{Begins}
use Rattle.soy_lexer.specs.Segment.Segment.{CommandToken}
use Rattle.soy_lexer.specs.declared.token.TokenKind.TheVariants as kind
use Rattle.formatted_source.specs.CommandLexemes.{ends_name}
use Rattle.formatted_source.specs.CommandPieces.{braced}
use Rattle.formatted_source.proofs.Commands.CommandReads.{MayBegin, Opens, begins_both, close_lexemes, close_read}
use Rattle.formatted_source.proofs.Written.CommandsWritten.{braced_command}
use Rattle.formatted_source.proofs.Written.ExprsWritten.{symbol_written}
use Rattle.formatted_source.proofs.Written.Names.{word_written}
use Rattle.formatted_source.proofs.PieceReads.{IsCommand}
use Rattle.formatted_source.proofs.Written.Reading.{weaker}

-- a command of one word
word_is : (word : List ℕ) → Opens word → is_name word ≡ true
    → IsCommand (123 ∷ (word ++ (125 ∷ []))) (braced ((kind.Word, word) ∷ []))
word_is word opens is =
    braced_command (123 ∷ (word ++ (125 ∷ []))) word (kind.Word, word) [] refl opens (word_written word is)

-- and of one symbol
symbol_is : (symbol : List ℕ) → Opens symbol
    → ((rest : List ℕ) → command_segment (symbol ++ rest) ≡ Begins (CommandToken kind.Symbol symbol symbol) rest)
    → IsCommand (123 ∷ (symbol ++ (125 ∷ []))) (braced ((kind.Symbol, symbol) ∷ []))
symbol_is symbol opens found =
    braced_command (123 ∷ (symbol ++ (125 ∷ []))) symbol (kind.Symbol, symbol) [] refl opens
    (weaker ends_name symbol ((kind.Symbol, symbol) ∷ []) (symbol_written symbol found))

pub lb_is : IsCommand (codes "{lb}") (braced ((kind.Word, codes "lb") ∷ []))
lb_is = word_is (codes "lb") (λ rest. (begins_both _ refl refl, refl)) refl

pub rb_is : IsCommand (codes "{rb}") (braced ((kind.Word, codes "rb") ∷ []))
rb_is = word_is (codes "rb") (λ rest. (begins_both _ refl refl, refl)) refl

pub sp_is : IsCommand (codes "{sp}") (braced ((kind.Word, codes "sp") ∷ []))
sp_is = word_is (codes "sp") (λ rest. (begins_both _ refl refl, refl)) refl

pub nil_is : IsCommand (codes "{nil}") (braced ((kind.Word, codes "nil") ∷ []))
nil_is = word_is (codes "nil") (λ rest. (begins_both _ refl refl, refl)) refl

pub else_is : IsCommand (codes "{else}") (braced ((kind.Word, codes "else") ∷ []))
else_is = word_is (codes "else") (λ rest. (begins_both _ refl refl, refl)) refl

pub default_is : IsCommand (codes "{default}") (braced ((kind.Word, codes "default") ∷ []))
default_is = word_is (codes "default") (λ rest. (begins_both _ refl refl, refl)) refl

pub feed_is : IsCommand (codes "{\\n}") (braced ((kind.Symbol, codes "\\n") ∷ []))
feed_is = symbol_is (codes "\\n") (λ rest. (begins_both _ refl refl, refl)) (λ rest. refl)

pub return_is : IsCommand (codes "{\\r}") (braced ((kind.Symbol, codes "\\r") ∷ []))
return_is = symbol_is (codes "\\r") (λ rest. (begins_both _ refl refl, refl)) (λ rest. refl)

pub tab_is : IsCommand (codes "{\\t}") (braced ((kind.Symbol, codes "\\t") ∷ []))
tab_is = symbol_is (codes "\\t") (λ rest. (begins_both _ refl refl, refl)) (λ rest. refl)

-- the close of a block
close_of : (name : List ℕ) → ((rest : List ℕ) → MayBegin (47 ∷ (name ++ (125 ∷ rest))))
    → ((rest : List ℕ) → opened_segment (47 ∷ (name ++ (125 ∷ rest)))
    ≡ Begins (CommandToken kind.BeginClose (47 ∷ name) name) (125 ∷ rest))
    → IsCommand (123 ∷ 47 ∷ (name ++ (125 ∷ []))) (close_lexemes name)
close_of name may found = record { inner = 47 ∷ name; is = refl; reads = close_read name may found }

pub if_close : IsCommand (codes "{/if}") (close_lexemes (codes "if"))
if_close = close_of (codes "if") (λ rest. begins_both _ refl refl) (λ rest. refl)

pub switch_close : IsCommand (codes "{/switch}") (close_lexemes (codes "switch"))
switch_close = close_of (codes "switch") (λ rest. begins_both _ refl refl) (λ rest. refl)

pub for_close : IsCommand (codes "{/for}") (close_lexemes (codes "for"))
for_close = close_of (codes "for") (λ rest. begins_both _ refl refl) (λ rest. refl)

pub let_close : IsCommand (codes "{/let}") (close_lexemes (codes "let"))
let_close = close_of (codes "let") (λ rest. begins_both _ refl refl) (λ rest. refl)

pub call_close_is : IsCommand (codes "{/call}") (close_lexemes (codes "call"))
call_close_is = close_of (codes "call") (λ rest. begins_both _ refl refl) (λ rest. refl)

pub param_close : IsCommand (codes "{/param}") (close_lexemes (codes "param"))
param_close = close_of (codes "param") (λ rest. begins_both _ refl refl) (λ rest. refl)

pub msg_close : IsCommand (codes "{/msg}") (close_lexemes (codes "msg"))
msg_close = close_of (codes "msg") (λ rest. begins_both _ refl refl) (λ rest. refl)

pub plural_close : IsCommand (codes "{/plural}") (close_lexemes (codes "plural"))
plural_close = close_of (codes "plural") (λ rest. begins_both _ refl refl) (λ rest. refl)

pub select_close : IsCommand (codes "{/select}") (close_lexemes (codes "select"))
select_close = close_of (codes "select") (λ rest. begins_both _ refl refl) (λ rest. refl)

pub template_close : IsCommand (codes "{/template}") (close_lexemes (codes "template"))
template_close = close_of (codes "template") (λ rest. begins_both _ refl refl) (λ rest. refl)
