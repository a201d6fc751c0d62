-- The commands of canonical source as pieces of a line: each as it is written, with its lexemes.
-- Example: the piece of the print of 1 is `{print 1}` with the lexemes `{`, `print`, `1` and `}`.
use Rattle.std.specs.Prelude.{ℕ, ℤ, Bool, ◌==◌, if◌then◌else◌, List, [], ◌∷◌, ◌++◌, Option, Some, None}
use Rattle.std.specs.Prelude.{codes}
use Rattle.std.specs.Fmt.{decimal, signed_decimal}
use Rattle.std.specs.List.{slice_split}
use Rattle.soy_base.specs.Characters.{full_stop}
use Rattle.soy_base.specs.declared.kind.Kind.{Kind}
use Rattle.soy_lexer.specs.declared.token.TokenKind.TheVariants as kind
use Rattle.soy_tree.specs.Types.{Name}
use Rattle.soy_tree.specs.Expressions.{Expr}
use Rattle.soy_tree.specs.Nodes.{Arguments, no_argument, argument}
use Rattle.soy_format.specs.FormattedBody.{call_end, call_text, case_text, expr_command, for_text, kind_name}
use Rattle.soy_format.specs.FormattedBody.{let_block_text, let_text, message_text, param_block_text, param_text}
use Rattle.soy_format.specs.FormattedBody.{plural_text, print_text}
use Rattle.soy_format.specs.FormattedExpression.{begins_with_variable, formatted_values}
use Rattle.soy_format.specs.FormattedString.{formatted_string}
use Rattle.formatted_source.specs.ExprLexemes.{expr_lexemes}
use Rattle.formatted_source.specs.Lexemes.{Lexeme}
use Rattle.formatted_source.specs.Pieces.{Piece, Written}

abbrev pub begin_lexeme : Lexeme
begin_lexeme = (kind.Begin, codes "{")

abbrev pub end_lexeme : Lexeme
end_lexeme = (kind.End, codes "}")

abbrev pub slash_end_lexeme : Lexeme
slash_end_lexeme = (kind.SlashEnd, codes "/}")

-- the lexemes of a command that ends with `}`, and of one that ends with `/}`
abbrev pub braced : List Lexeme → List Lexeme
braced ls = begin_lexeme ∷ (ls ++ (end_lexeme ∷ []))

abbrev pub slashed : List Lexeme → List Lexeme
slashed ls = begin_lexeme ∷ (ls ++ (slash_end_lexeme ∷ []))

abbrev pub attribute_lexemes : List ℕ → List ℕ → List Lexeme
attribute_lexemes name value = (kind.Word, name) ∷ ((kind.Symbol, codes "=") ∷ ((kind.Attribute, value) ∷ []))

abbrev pub kind_lexemes : Kind → List Lexeme
kind_lexemes k = attribute_lexemes (codes "kind") (kind_name k)

-- names joined by `.`
abbrev pub names_lexemes : List Name → List Lexeme
names_lexemes [] = []
names_lexemes (name ∷ []) = (kind.Word, name) ∷ []
names_lexemes (name ∷ next ∷ names) = (kind.Word, name) ∷ ((kind.Symbol, codes ".") ∷ names_lexemes (next ∷ names))

abbrev pub dotted_lexemes : Name → List Lexeme
dotted_lexemes name = names_lexemes (slice_split (λ c. c == full_stop) name)

-- a command of one word
abbrev pub word_piece : List ℕ → List ℕ → Piece
word_piece text word = Written text (braced ((kind.Word, word) ∷ []))

-- the close of a block
abbrev pub close_piece : List ℕ → List ℕ → Piece
close_piece text name = Written text (begin_lexeme ∷ ((kind.BeginClose, name) ∷ (end_lexeme ∷ [])))

abbrev pub print_word : Bool → List Lexeme
print_word begins_with_dollar = if begins_with_dollar then [] else (kind.Word, codes "print") ∷ []

abbrev pub phname_lexemes : Option Name → List Lexeme
phname_lexemes None = []
phname_lexemes (Some name) = attribute_lexemes (codes "phname") name

abbrev pub print_piece : Expr → Option Name → Piece
print_piece e phname =
    Written (print_text e phname) (braced (print_word (begins_with_variable e) ++
    (expr_lexemes e ++ phname_lexemes phname)))

-- a command of a word and an expression
abbrev pub expr_piece : List ℕ → List ℕ → Expr → Piece
expr_piece start word e = Written (expr_command start e) (braced ((kind.Word, word) ∷ expr_lexemes e))

abbrev pub arm_piece : Bool → Expr → Piece
arm_piece first e =
    if first then expr_piece (codes "{if ") (codes "if") e else expr_piece (codes "{elseif ") (codes "elseif") e

abbrev pub more_values_lexemes : List Expr → List Lexeme
more_values_lexemes [] = []
more_values_lexemes (e ∷ es) = (kind.Symbol, codes ",") ∷ (expr_lexemes e ++ more_values_lexemes es)

abbrev pub values_lexemes : List Expr → List Lexeme
values_lexemes [] = []
values_lexemes (e ∷ es) = expr_lexemes e ++ more_values_lexemes es

abbrev pub case_piece : List Expr → Piece
case_piece values = Written (case_text (formatted_values values)) (braced
    ((kind.Word, codes "case") ∷ values_lexemes values))

abbrev pub plural_case_piece : ℤ → Piece
plural_case_piece n =
    Written (case_text (signed_decimal n)) (braced ((kind.Word, codes "case") ∷ ((kind.Int, signed_decimal n) ∷ [])))

abbrev pub select_case_piece : List ℕ → Piece
select_case_piece word =
    Written (case_text (formatted_string word)) (braced ((kind.Word, codes "case") ∷ ((kind.Str, word) ∷ [])))

abbrev pub index_lexemes : Option Name → List Lexeme
index_lexemes None = []
index_lexemes (Some name) = (kind.Symbol, codes ",") ∷ ((kind.Variable, name) ∷ [])

abbrev pub for_piece : Name → Option Name → Expr → Piece
for_piece name index e =
    Written (for_text name index e) (braced ((kind.Word, codes "for") ∷ ((kind.Variable, name)
    ∷ (index_lexemes index ++ ((kind.Word, codes "in") ∷ expr_lexemes e)))))

abbrev pub let_piece : Name → Expr → Piece
let_piece name e =
    Written (let_text name e) (slashed ((kind.Word, codes "let") ∷ ((kind.Variable, name) ∷ ((kind.Symbol, codes ":")
    ∷ expr_lexemes e))))

abbrev pub let_block_piece : Name → Kind → Piece
let_block_piece name k =
    Written (let_block_text name k) (braced ((kind.Word, codes "let") ∷ ((kind.Variable, name) ∷ kind_lexemes k)))

abbrev pub data_lexemes : Bool → List Lexeme
data_lexemes all = if all then attribute_lexemes (codes "data") (codes "all") else []

abbrev pub call_lexemes : Name → Bool → List Lexeme
call_lexemes name all = (kind.Word, codes "call") ∷ (dotted_lexemes name ++ data_lexemes all)

abbrev pub call_ends : Arguments → List Lexeme → List Lexeme
call_ends no_argument ls = slashed ls
call_ends (argument name given span rest) ls = braced ls

abbrev pub call_piece : Name → Bool → Arguments → Piece
call_piece name all given = Written (call_text name all ++ call_end given) (call_ends given (call_lexemes name all))

abbrev pub call_close_pieces : Arguments → List Piece
call_close_pieces no_argument = []
call_close_pieces (argument name given span rest) = close_piece (codes "{/call}") (codes "call") ∷ []

abbrev pub param_piece : Name → Expr → Piece
param_piece name e =
    Written (param_text name e) (slashed ((kind.Word, codes "param") ∷ ((kind.Word, name) ∷ ((kind.Symbol, codes ":")
    ∷ expr_lexemes e))))

abbrev pub param_block_piece : Name → Kind → Piece
param_block_piece name k =
    Written (param_block_text name k) (braced ((kind.Word, codes "param") ∷ ((kind.Word, name) ∷ kind_lexemes k)))

abbrev pub meaning_lexemes : List ℕ → List Lexeme
meaning_lexemes [] = []
meaning_lexemes (c ∷ cs) = attribute_lexemes (codes "meaning") (c ∷ cs)

abbrev pub message_piece : List ℕ → List ℕ → List ℕ → List ℕ → Piece
message_piece start word desc meaning =
    Written (message_text start desc meaning) (braced ((kind.Word, word) ∷ (attribute_lexemes (codes "desc") desc
    ++ meaning_lexemes meaning)))

abbrev pub offset_lexemes : ℕ → List Lexeme
offset_lexemes offset = if offset == 0 then [] else attribute_lexemes (codes "offset") (decimal offset)

abbrev pub plural_piece : Expr → ℕ → Piece
plural_piece e offset =
    Written (plural_text e offset) (braced ((kind.Word, codes "plural") ∷ (expr_lexemes e ++ offset_lexemes offset)))
