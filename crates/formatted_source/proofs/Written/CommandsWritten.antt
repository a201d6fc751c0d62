-- Commands, as they are written.
use Rattle.std.proofs.Common.{◌≡◌, ℕ, ℤ, pos, negsuc, ◌≤◌, Bool, true, List, [], ◌∷◌, ◌++◌, Option, Some, None, refl}
use Rattle.std.proofs.Common.{sym, ap, subst, ◌∙◌, append_assoc, arith}
use Rattle.std.specs.Prelude.{codes}
use Rattle.std.specs.Fmt.{decimal, signed_decimal}
use Rattle.std.specs.List.{list_all}
use Rattle.std.proofs.lemmas.Bool.Decides.{nat_tests}
use Rattle.soy_base.specs.Names.{is_name}
use Rattle.soy_base.specs.declared.kind.Kind.{Kind}
use Rattle.soy_lexer.specs.CommandSegment.{command_segment, opened_segment}
use Rattle.soy_base.specs.Limits.{largest}
use Rattle.soy_lexer.specs.Found.Found.{Begins}
use Rattle.soy_lexer.specs.Segment.Segment.{CommandToken}
use Rattle.soy_lexer.specs.declared.token.TokenKind.TheVariants as kind
use Rattle.soy_tree.specs.Expressions.{Expr}
use Rattle.soy_tree.specs.Formed.{if_there, is_formed_expr, is_formed_int}
use Rattle.soy_tree.specs.Types.{Name}
use Rattle.soy_format.specs.FormattedBody.{case_text, for_text, index_text, kind_text, let_block_text, let_text}
use Rattle.soy_format.specs.FormattedBody.{param_block_text, param_text, value_end}
use Rattle.soy_format.specs.FormattedExpression.{formatted_expr, formatted_values, more_values}
use Rattle.soy_format.specs.FormattedString.{formatted_string}
use Rattle.formatted_source.specs.CommandLexemes.{HasLexemes, before_any, ends_name}
use Rattle.formatted_source.specs.CommandPieces.{braced, slashed, index_lexemes, kind_lexemes, more_values_lexemes}
use Rattle.formatted_source.specs.CommandPieces.{values_lexemes}
use Rattle.formatted_source.specs.ExprLexemes.{expr_lexemes}
use Rattle.formatted_source.specs.Lexemes.{Lexeme}
use Rattle.formatted_source.proofs.Commands.CommandReads.{IsRead, MayBegin, Opens, alone_read, begins_both}
use Rattle.formatted_source.proofs.Commands.CommandReads.{command_read}
use Rattle.formatted_source.proofs.Written.ExprsWritten.{expr_written, spaced_written}
use Rattle.formatted_source.proofs.Written.Ints.{int_written}
use Rattle.formatted_source.proofs.Written.Names.{both, variable_written, word_written}
use Rattle.formatted_source.proofs.Written.PartsWritten.{kind_written, spaced_then, space_written}
use Rattle.formatted_source.proofs.PieceReads.{IsCommand}
use Rattle.formatted_source.proofs.Written.Reading.{after, join, nothing, weaker}
use Rattle.formatted_source.proofs.Written.Strings.{string_written}

-- a command of a part that begins so, up to `}`
pub braced_before : (test : List ℕ → Bool) (text inner : List ℕ) (l : Lexeme) (ls : List Lexeme)
    → text ≡ 123 ∷ (inner ++ (125 ∷ [])) → Opens inner → HasLexemes test inner (l ∷ ls)
    → ((rest : List ℕ) → test (125 ∷ rest) ≡ true) → IsCommand text (braced (l ∷ ls))
braced_before test text inner l ls is opens part ends = record {
  inner = inner;
  is = is;
  reads = subst (λ t. IsRead t (braced (l ∷ ls))) (sym is) (command_read test inner l ls opens part ends);
}

pub braced_command : (text inner : List ℕ) (l : Lexeme) (ls : List Lexeme) → text ≡ 123 ∷ (inner ++ (125 ∷ []))
    → Opens inner → HasLexemes ends_name inner (l ∷ ls) → IsCommand text (braced (l ∷ ls))
braced_command text inner l ls is opens part =
    braced_before ends_name text inner l ls is opens part (λ rest. refl)

-- and up to ` /}`
pub slashed_command : (text inner : List ℕ) (l : Lexeme) (ls : List Lexeme)
    → text ≡ 123 ∷ (inner ++ (32 ∷ 47 ∷ 125 ∷ [])) → Opens inner → HasLexemes ends_name inner (l ∷ ls)
    → IsCommand text (slashed (l ∷ ls))
slashed_command text inner l ls is opens part = record {
  inner = inner ++ (32 ∷ 47 ∷ []);
  is = is ∙ ap (λ t. 123 ∷ t) (sym (append_assoc inner (32 ∷ 47 ∷ []) (125 ∷ [])));
  reads = subst (λ t. IsRead t (slashed (l ∷ ls))) (sym is) (alone_read inner l ls opens part);
}

-- what a word that begins a command has to be, before a space
pub record IsCommandWord (word : List ℕ) : Type 0 where
  pub opens : (more : List ℕ) → Opens (word ++ (32 ∷ more))
  pub found : (rest : List ℕ)
      → command_segment (word ++ (32 ∷ rest)) ≡ Begins (CommandToken kind.Word word word) (32 ∷ rest)

-- a command of a word and more
pub word_command : (word more : List ℕ) (ls : List Lexeme) → IsCommandWord word → HasLexemes ends_name more ls
    → IsCommand (123 ∷ (word ++ (32 ∷ (more ++ (125 ∷ []))))) (braced ((kind.Word, word) ∷ ls))
word_command word more ls w part =
    braced_command (123 ∷ (word ++ (32 ∷ (more ++ (125 ∷ []))))) (word ++ (32 ∷ more)) (kind.Word, word) ls
    (ap (λ t. 123 ∷ t) (sym (append_assoc word (32 ∷ more) (125 ∷ [])))) (w.opens more)
    (spaced_then ends_name kind.Word word more ls refl w.found part)

pub word_alone : (word more : List ℕ) (ls : List Lexeme) → IsCommandWord word → HasLexemes ends_name more ls
    → IsCommand (123 ∷ (word ++ (32 ∷ (more ++ (32 ∷ 47 ∷ 125 ∷ []))))) (slashed ((kind.Word, word) ∷ ls))
word_alone word more ls w part =
    slashed_command (123 ∷ (word ++ (32 ∷ (more ++ (32 ∷ 47 ∷ 125 ∷ []))))) (word ++ (32 ∷ more)) (kind.Word, word) ls
    (ap (λ t. 123 ∷ t) (sym (append_assoc word (32 ∷ more) (32 ∷ 47 ∷ 125 ∷ [])))) (w.opens more)
    (spaced_then ends_name kind.Word word more ls refl w.found part)

both_begin : (text : List ℕ) → MayBegin text → opened_segment text ≡ command_segment text
    → MayBegin text × (opened_segment text ≡ command_segment text)
both_begin text a b = (a, b)

pub if_word : IsCommandWord (codes "if")
if_word = record { opens = λ more rest. (begins_both _ refl refl, refl); found = λ rest. refl }

pub elseif_word : IsCommandWord (codes "elseif")
elseif_word = record { opens = λ more rest. (begins_both _ refl refl, refl); found = λ rest. refl }

pub print_is_word : IsCommandWord (codes "print")
print_is_word = record { opens = λ more rest. (begins_both _ refl refl, refl); found = λ rest. refl }

pub switch_word : IsCommandWord (codes "switch")
switch_word = record { opens = λ more rest. (begins_both _ refl refl, refl); found = λ rest. refl }

pub case_word : IsCommandWord (codes "case")
case_word = record { opens = λ more rest. (begins_both _ refl refl, refl); found = λ rest. refl }

pub for_word : IsCommandWord (codes "for")
for_word = record { opens = λ more rest. (begins_both _ refl refl, refl); found = λ rest. refl }

pub let_word : IsCommandWord (codes "let")
let_word = record { opens = λ more rest. (begins_both _ refl refl, refl); found = λ rest. refl }

pub call_word : IsCommandWord (codes "call")
call_word = record { opens = λ more rest. (begins_both _ refl refl, refl); found = λ rest. refl }

pub param_word : IsCommandWord (codes "param")
param_word = record { opens = λ more rest. (begins_both _ refl refl, refl); found = λ rest. refl }

pub msg_word : IsCommandWord (codes "msg")
msg_word = record { opens = λ more rest. (begins_both _ refl refl, refl); found = λ rest. refl }

pub fallbackmsg_word : IsCommandWord (codes "fallbackmsg")
fallbackmsg_word = record { opens = λ more rest. (begins_both _ refl refl, refl); found = λ rest. refl }

pub plural_word : IsCommandWord (codes "plural")
plural_word = record { opens = λ more rest. (begins_both _ refl refl, refl); found = λ rest. refl }

pub select_word : IsCommandWord (codes "select")
select_word = record { opens = λ more rest. (begins_both _ refl refl, refl); found = λ rest. refl }

pub namespace_word : IsCommandWord (codes "namespace")
namespace_word = record { opens = λ more rest. (begins_both _ refl refl, refl); found = λ rest. refl }

pub template_word : IsCommandWord (codes "template")
template_word = record { opens = λ more rest. (begins_both _ refl refl, refl); found = λ rest. refl }

-- a command of a word and an expression
pub expr_command_written : (word : List ℕ) (e : Expr) → IsCommandWord word → is_formed_expr e ≡ true
    → IsCommand (123 ∷ (word ++ (32 ∷ (formatted_expr e ++ (125 ∷ []))))) (braced ((kind.Word, word) ∷ expr_lexemes e))
expr_command_written word e w f = word_command word (formatted_expr e) (expr_lexemes e) w (expr_written e f)

-- the values of a case
more_values_end : (es : List Expr) (rest : List ℕ) → ends_name rest ≡ true → ends_name (more_values es ++ rest) ≡ true
more_values_end [] rest h = h
more_values_end (e ∷ es) rest h = refl

comma_written : HasLexemes before_any (codes ", ") ((kind.Symbol, codes ",") ∷ [])
comma_written rest h = spaced_written kind.Symbol (codes ",") refl (λ more. refl) rest

colon_written : HasLexemes before_any (codes ": ") ((kind.Symbol, codes ":") ∷ [])
colon_written rest h = spaced_written kind.Symbol (codes ":") refl (λ more. refl) rest

more_values_written : (es : List Expr) → list_all is_formed_expr es ≡ true
    → HasLexemes ends_name (more_values es) (more_values_lexemes es)
more_values_written [] f = nothing ends_name
more_values_written (e ∷ es) f =
    let fs = both (is_formed_expr e) (list_all is_formed_expr es) f in
    after ends_name (codes ", ") (formatted_expr e ++ more_values es) ((kind.Symbol, codes ",") ∷ [])
    (expr_lexemes e ++ more_values_lexemes es) comma_written
    (join ends_name ends_name (formatted_expr e) (more_values es) (expr_lexemes e) (more_values_lexemes es)
    (expr_written e fs.0) (more_values_written es fs.1) (more_values_end es))

values_written : (es : List Expr) → list_all is_formed_expr es ≡ true
    → HasLexemes ends_name (formatted_values es) (values_lexemes es)
values_written [] f = nothing ends_name
values_written (e ∷ es) f =
    let fs = both (is_formed_expr e) (list_all is_formed_expr es) f in
    join ends_name ends_name (formatted_expr e) (more_values es) (expr_lexemes e) (more_values_lexemes es)
    (expr_written e fs.0) (more_values_written es fs.1) (more_values_end es)

pub case_written : (es : List Expr) → list_all is_formed_expr es ≡ true
    → IsCommand (case_text (formatted_values es)) (braced ((kind.Word, codes "case") ∷ values_lexemes es))
case_written es f = word_command (codes "case") (formatted_values es) (values_lexemes es) case_word
    (values_written es f)

pub plural_case_written : (n : ℤ) → is_formed_int n ≡ true
    → IsCommand (case_text (signed_decimal n)) (braced ((kind.Word, codes "case") ∷
    ((kind.Int, signed_decimal n) ∷ [])))
plural_case_written (pos n) f =
    let within : n ≤ largest = grind (arith, nat_tests, f) in
    word_command (codes "case") (decimal n) ((kind.Int, decimal n) ∷ []) case_word (int_written n within)
plural_case_written (negsuc n) f = cc

pub select_case_written : (word : List ℕ)
    → IsCommand (case_text (formatted_string word)) (braced ((kind.Word, codes "case") ∷ ((kind.Str, word) ∷ [])))
select_case_written word =
    word_command (codes "case") (formatted_string word) ((kind.Str, word) ∷ []) case_word
    (weaker ends_name (formatted_string word) ((kind.Str, word) ∷ []) (string_written word))

-- ` in ` and a list
in_written : (e : Expr) → is_formed_expr e ≡ true
    → HasLexemes ends_name (codes " in " ++ formatted_expr e) ((kind.Word, codes "in") ∷ expr_lexemes e)
in_written e f =
    after ends_name (codes " ") (codes "in " ++ formatted_expr e) [] ((kind.Word, codes "in") ∷ expr_lexemes e)
    space_written
    (spaced_then ends_name kind.Word (codes "in") (formatted_expr e) (expr_lexemes e) refl (λ rest. refl)
    (expr_written e f))

index_in : (index : Option Name) (e : Expr) → if_there is_name index ≡ true → is_formed_expr e ≡ true
    → HasLexemes ends_name (index_text index ++ (codes " in " ++ formatted_expr e))
    (index_lexemes index ++ ((kind.Word, codes "in") ∷ expr_lexemes e))
index_in None e is f = in_written e f
index_in (Some name) e is f =
    after ends_name (codes ", ") ((36 ∷ name) ++ (codes " in " ++ formatted_expr e)) ((kind.Symbol, codes ",") ∷ [])
    ((kind.Variable, name) ∷ ((kind.Word, codes "in") ∷ expr_lexemes e)) comma_written
    (join ends_name ends_name (36 ∷ name) (codes " in " ++ formatted_expr e) ((kind.Variable, name) ∷ [])
    ((kind.Word, codes "in") ∷ expr_lexemes e) (variable_written name is) (in_written e f) (λ rest h. refl))

index_ends : (index : Option Name) (more rest : List ℕ)
    → ends_name ((index_text index ++ (codes " in " ++ more)) ++ rest) ≡ true
index_ends None more rest = refl
index_ends (Some name) more rest = refl

pub for_written : (name : Name) (index : Option Name) (e : Expr) → is_name name ≡ true → if_there is_name index ≡ true
    → is_formed_expr e ≡ true
    → IsCommand (for_text name index e) (braced ((kind.Word, codes "for") ∷ ((kind.Variable, name)
    ∷ (index_lexemes index ++ ((kind.Word, codes "in") ∷ expr_lexemes e)))))
for_written name index e is there f =
    subst (λ t. IsCommand t (braced ((kind.Word, codes "for") ∷ ((kind.Variable, name)
    ∷ (index_lexemes index ++ ((kind.Word, codes "in") ∷ expr_lexemes e)))))) (ap (λ t. codes "{for $" ++ t) whole)
    (word_command (codes "for") (36 ∷ (name ++ (index_text index ++ (codes " in " ++ formatted_expr e))))
    ((kind.Variable, name) ∷ (index_lexemes index ++ ((kind.Word, codes "in") ∷ expr_lexemes e))) for_word
    (join ends_name ends_name (36 ∷ name) (index_text index ++ (codes " in " ++ formatted_expr e))
    ((kind.Variable, name) ∷ []) (index_lexemes index ++ ((kind.Word, codes "in") ∷ expr_lexemes e))
    (variable_written name is) (index_in index e there f) (λ rest h. index_ends index (formatted_expr e) rest)))
  where
    whole : (name ++ (index_text index ++ (codes " in " ++ formatted_expr e))) ++ (125 ∷ [])
        ≡ name ++ (index_text index ++ (codes " in " ++ (formatted_expr e ++ (125 ∷ []))))
    whole = append_assoc name (index_text index ++ (codes " in " ++ formatted_expr e)) (125 ∷ [])
        ∙ ap (λ t. name ++ t) (append_assoc (index_text index) (codes " in " ++ formatted_expr e) (125 ∷ []))

-- `: ` and a value
value_written : (e : Expr) → is_formed_expr e ≡ true
    → HasLexemes ends_name (codes ": " ++ formatted_expr e) ((kind.Symbol, codes ":") ∷ expr_lexemes e)
value_written e f =
    after ends_name (codes ": ") (formatted_expr e) ((kind.Symbol, codes ":") ∷ []) (expr_lexemes e) colon_written
    (expr_written e f)

value_whole : (start : List ℕ) (e : Expr)
    → (start ++ (codes ": " ++ formatted_expr e)) ++ (32 ∷ 47 ∷ 125 ∷ []) ≡ start ++ value_end e
value_whole start e = append_assoc start (codes ": " ++ formatted_expr e) (32 ∷ 47 ∷ 125 ∷ [])

pub let_written : (name : Name) (e : Expr) → is_name name ≡ true → is_formed_expr e ≡ true
    → IsCommand (let_text name e) (slashed ((kind.Word, codes "let") ∷ ((kind.Variable, name) ∷
    ((kind.Symbol, codes ":")
    ∷ expr_lexemes e))))
let_written name e is f =
    subst (λ t. IsCommand (codes "{let " ++ t) (slashed ((kind.Word, codes "let") ∷ ((kind.Variable, name)
    ∷ ((kind.Symbol, codes ":") ∷ expr_lexemes e))))) (value_whole (36 ∷ name) e)
    (word_alone (codes "let") ((36 ∷ name) ++ (codes ": " ++ formatted_expr e)) ((kind.Variable, name)
    ∷ ((kind.Symbol, codes ":") ∷ expr_lexemes e)) let_word
    (join ends_name ends_name (36 ∷ name) (codes ": " ++ formatted_expr e) ((kind.Variable, name) ∷ [])
    ((kind.Symbol, codes ":") ∷ expr_lexemes e) (variable_written name is) (value_written e f) (λ rest h. refl)))

pub param_written : (name : Name) (e : Expr) → is_name name ≡ true → is_formed_expr e ≡ true
    → IsCommand (param_text name e) (slashed ((kind.Word, codes "param") ∷ ((kind.Word, name) ∷
    ((kind.Symbol, codes ":")
    ∷ expr_lexemes e))))
param_written name e is f =
    subst (λ t. IsCommand (codes "{param " ++ t) (slashed ((kind.Word, codes "param") ∷ ((kind.Word, name)
    ∷ ((kind.Symbol, codes ":") ∷ expr_lexemes e))))) (value_whole name e)
    (word_alone (codes "param") (name ++ (codes ": " ++ formatted_expr e)) ((kind.Word, name)
    ∷ ((kind.Symbol, codes ":") ∷ expr_lexemes e)) param_word
    (join ends_name ends_name name (codes ": " ++ formatted_expr e) ((kind.Word, name) ∷ [])
    ((kind.Symbol, codes ":") ∷ expr_lexemes e) (word_written name is) (value_written e f) (λ rest h. refl)))

kind_ends : (k : Kind) (rest : List ℕ) → ends_name (kind_text k ++ rest) ≡ true
kind_ends k rest = refl

pub let_block_written : (name : Name) (k : Kind) → is_name name ≡ true
    → IsCommand (let_block_text name k) (braced ((kind.Word, codes "let") ∷ ((kind.Variable, name) ∷ kind_lexemes k)))
let_block_written name k is =
    subst (λ t. IsCommand (codes "{let " ++ t) (braced ((kind.Word, codes "let") ∷ ((kind.Variable, name)
    ∷ kind_lexemes k)))) (append_assoc (36 ∷ name) (kind_text k) (125 ∷ []))
    (word_command (codes "let") ((36 ∷ name) ++ kind_text k) ((kind.Variable, name) ∷ kind_lexemes k) let_word
    (join ends_name ends_name (36 ∷ name) (kind_text k) ((kind.Variable, name) ∷ []) (kind_lexemes k)
    (variable_written name is) (weaker ends_name (kind_text k) (kind_lexemes k) (kind_written k))
    (λ rest h. kind_ends k rest)))

pub param_block_written : (name : Name) (k : Kind) → is_name name ≡ true
    → IsCommand (param_block_text name k) (braced ((kind.Word, codes "param") ∷ ((kind.Word, name) ∷ kind_lexemes k)))
param_block_written name k is =
    subst (λ t. IsCommand (codes "{param " ++ t) (braced ((kind.Word, codes "param") ∷ ((kind.Word, name)
    ∷ kind_lexemes k)))) (append_assoc name (kind_text k) (125 ∷ []))
    (word_command (codes "param") (name ++ kind_text k) ((kind.Word, name) ∷ kind_lexemes k) param_word
    (join ends_name ends_name name (kind_text k) ((kind.Word, name) ∷ []) (kind_lexemes k)
    (word_written name is) (weaker ends_name (kind_text k) (kind_lexemes k) (kind_written k))
    (λ rest h. kind_ends k rest)))
