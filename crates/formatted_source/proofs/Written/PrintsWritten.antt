-- Prints, calls and the commands of messages, as they are written.
use Rattle.std.proofs.Common.{◌≡◌, ℕ, ◌==◌, ◌≤◌, ◌<◌, ◌^◌, nat_lt, nat_le, Bool, true, false, List, [], ◌∷◌, ◌++◌}
use Rattle.std.proofs.Common.{Option, Some, None, refl, sym, ap, subst, append_assoc, arith, if◌then◌else◌}
use Rattle.std.specs.Prelude.{codes}
use Rattle.std.specs.Char.{is_ascii_digit}
use Rattle.std.specs.Fmt.{decimal}
use Rattle.std.proofs.lemmas.Bool.Decides.{nat_tests}
use Rattle.soy_base.specs.Among.{lacks}
use Rattle.soy_base.specs.Names.{is_name, is_dotted_name}
use Rattle.soy_lexer.specs.declared.token.TokenKind.TheVariants as kind
use Rattle.soy_tree.specs.Expressions.{Expr, NullLiteral, BoolLiteral, IntLiteral, StringLiteral, Variable, Member}
use Rattle.soy_tree.specs.Expressions.{Index, Minus, Not, Binary, Coalesce, Conditional}
use Rattle.soy_tree.specs.Formed.{if_there, is_formed_expr}
use Rattle.soy_base.specs.Limits.{largest}
use Rattle.soy_tree.specs.Nodes.{Arguments, no_argument, argument}
use Rattle.soy_tree.specs.Types.{Name}
use Rattle.soy_format.specs.FormattedBody.{attribute_text, call_end, call_text, data_text, meaning_text, message_text}
use Rattle.soy_format.specs.FormattedBody.{offset_text, phname_text, plural_text, print_text}
use Rattle.soy_format.specs.FormattedExpression.{begins_with_variable, bracket_text, dot_text, formatted_expr}
use Rattle.soy_format.specs.FormattedExpression.{in_parentheses, op_text}
use Rattle.soy_format.specs.Levels.{level_of, level_of_op}
use Rattle.formatted_source.specs.CommandLexemes.{HasLexemes, ends_name}
use Rattle.formatted_source.specs.CommandPieces.{attribute_lexemes, braced, call_ends, call_lexemes, data_lexemes}
use Rattle.formatted_source.specs.CommandPieces.{dotted_lexemes, meaning_lexemes, offset_lexemes, phname_lexemes}
use Rattle.formatted_source.specs.CommandPieces.{print_word}
use Rattle.formatted_source.specs.ExprLexemes.{bracketed, expr_lexemes}
use Rattle.formatted_source.specs.Lexemes.{Lexeme}
use Rattle.formatted_source.proofs.Commands.CommandReads.{Opens, begins_both}
use Rattle.formatted_source.proofs.Written.CommandsWritten.{IsCommandWord, braced_command, call_word, plural_word}
use Rattle.formatted_source.proofs.Written.CommandsWritten.{print_is_word}
use Rattle.formatted_source.proofs.Written.CommandsWritten.{word_alone, word_command}
use Rattle.formatted_source.proofs.Written.ExprsWritten.{expr_written}
use Rattle.formatted_source.proofs.Written.Ints.{digits-decimal}
use Rattle.formatted_source.proofs.Written.Names.{both}
use Rattle.formatted_source.proofs.Written.PartsWritten.{attribute_written, dotted_written, lacks-all, name_lacks}
use Rattle.formatted_source.proofs.Written.PartsWritten.{named_value}
use Rattle.formatted_source.proofs.PieceReads.{IsCommand}
use Rattle.formatted_source.proofs.Written.Reading.{after, join, nothing, weaker}

-- an expression that begins with a variable begins with `$`
record BeginsDollar (text : List ℕ) : Type 0 where
  pub more : List ℕ
  pub is : text ≡ 36 ∷ more

not_over : (a b : ℕ) → nat_le a b ≡ true → nat_lt b a ≡ false
not_over a b h = grind (arith, nat_tests, h)

not_from : (a b : ℕ) → nat_lt a b ≡ true → nat_le b a ≡ false
not_from a b h = grind (arith, nat_tests, h)

dollar_first : (t : Bool) (text more : List ℕ) → t ≡ false → BeginsDollar text
    → BeginsDollar (in_parentheses t text ++ more)
dollar_first true text more e b = cc
dollar_first false text more e b = record { more = b.more ++ more; is = ap (λ l. l ++ more) b.is }

begins_dollar : (e : Expr) → begins_with_variable e ≡ true → BeginsDollar (formatted_expr e)
begins_dollar (NullLiteral span) h = cc
begins_dollar (BoolLiteral b span) h = cc
begins_dollar (IntLiteral n span) h = cc
begins_dollar (StringLiteral text span) h = cc
begins_dollar (Variable name span) h = record { more = name; is = refl }
begins_dollar (Member e name takes_null span) h =
    let hs = both (nat_le (level_of e) 1) (begins_with_variable e) h in
    dollar_first (nat_lt 1 (level_of e)) (formatted_expr e) (dot_text takes_null ++ name) (not_over (level_of e) 1 hs.0)
    (begins_dollar e hs.1)
begins_dollar (Index e i takes_null span) h =
    let hs = both (nat_le (level_of e) 1) (begins_with_variable e) h in
    dollar_first (nat_lt 1 (level_of e)) (formatted_expr e) (bracket_text takes_null ++ (formatted_expr i ++ codes "]"))
    (not_over (level_of e) 1 hs.0) (begins_dollar e hs.1)
begins_dollar (Minus e span) h = cc
begins_dollar (Not e span) h = cc
begins_dollar (Binary o a b span) h =
    let hs = both (nat_le (level_of a) (level_of_op o)) (begins_with_variable a) h in
    dollar_first (nat_lt (level_of_op o) (level_of a)) (formatted_expr a)
    (op_text o ++ in_parentheses (nat_le (level_of_op o) (level_of b)) (formatted_expr b))
    (not_over (level_of a) (level_of_op o) hs.0) (begins_dollar a hs.1)
begins_dollar (Coalesce a b span) h =
    let hs = both (nat_lt (level_of a) 9) (begins_with_variable a) h in
    dollar_first (nat_le 9 (level_of a)) (formatted_expr a) (codes " ?: " ++ formatted_expr b)
    (not_from (level_of a) 9 hs.0) (begins_dollar a hs.1)
begins_dollar (Conditional c a b span) h =
    let hs = both (nat_lt (level_of c) 9) (begins_with_variable c) h in
    dollar_first (nat_le 9 (level_of c)) (formatted_expr c)
    (codes " ? " ++ (formatted_expr a ++ (codes " : " ++ formatted_expr b)))
    (not_from (level_of c) 9 hs.0) (begins_dollar c hs.1)

-- an expression has a lexeme
record HasFirst (ls : List Lexeme) : Type 0 where
  pub first : Lexeme
  pub more : List Lexeme
  pub are : ls ≡ first ∷ more

first_of : (b : Bool) (ls ms : List Lexeme) → HasFirst ls → HasFirst (bracketed b ls ++ ms)
first_of true ls ms f = record { first = (kind.Symbol, codes "("); more = _; are = refl }
first_of false ls ms f = record { first = f.first; more = f.more ++ ms; are = ap (λ l. l ++ ms) f.are }

first_lexeme : (e : Expr) → HasFirst (expr_lexemes e)
first_lexeme (NullLiteral span) = record { first = _; more = _; are = refl }
first_lexeme (BoolLiteral b span) = record { first = _; more = _; are = refl }
first_lexeme (IntLiteral n span) = record { first = _; more = _; are = refl }
first_lexeme (StringLiteral text span) = record { first = _; more = _; are = refl }
first_lexeme (Variable name span) = record { first = _; more = _; are = refl }
first_lexeme (Member e name takes_null span) = first_of (nat_lt 1 (level_of e)) (expr_lexemes e) _ (first_lexeme e)
first_lexeme (Index e i takes_null span) = first_of (nat_lt 1 (level_of e)) (expr_lexemes e) _ (first_lexeme e)
first_lexeme (Minus e span) = record { first = _; more = _; are = refl }
first_lexeme (Not e span) = record { first = _; more = _; are = refl }
first_lexeme (Binary o a b span) = first_of (nat_lt (level_of_op o) (level_of a)) (expr_lexemes a) _ (first_lexeme a)
first_lexeme (Coalesce a b span) = first_of (nat_le 9 (level_of a)) (expr_lexemes a) _ (first_lexeme a)
first_lexeme (Conditional c a b span) = first_of (nat_le 9 (level_of c)) (expr_lexemes c) _ (first_lexeme c)

phname_ends : (phname : Option Name) (rest : List ℕ) → ends_name rest ≡ true
    → ends_name (phname_text phname ++ rest) ≡ true
phname_ends None rest h = h
phname_ends (Some name) rest h = refl

phname_written : (phname : Option Name) → if_there is_name phname ≡ true
    → HasLexemes ends_name (phname_text phname) (phname_lexemes phname)
phname_written None h = nothing ends_name
phname_written (Some name) h =
    weaker ends_name (phname_text (Some name)) (phname_lexemes (Some name))
    (attribute_written (codes "phname") name refl (name_lacks 34 refl name h) (name_lacks 0 refl name h))

printed : (e : Expr) (phname : Option Name) → is_formed_expr e ≡ true → if_there is_name phname ≡ true
    → HasLexemes ends_name (formatted_expr e ++ phname_text phname) (expr_lexemes e ++ phname_lexemes phname)
printed e phname f h =
    join ends_name ends_name (formatted_expr e) (phname_text phname) (expr_lexemes e) (phname_lexemes phname)
    (expr_written e f) (phname_written phname h) (phname_ends phname)

dollar_opens : (text : List ℕ) → BeginsDollar text → Opens text
dollar_opens text b = subst Opens (sym b.is) (λ rest. (begins_both _ refl refl, refl))

-- a print
pub print_written : (e : Expr) (phname : Option Name) → is_formed_expr e ≡ true → if_there is_name phname ≡ true
    → IsCommand (print_text e phname) (braced (print_word (begins_with_variable e)
    ++ (expr_lexemes e ++ phname_lexemes phname)))
print_written e phname f h = over (begins_with_variable e) refl
  where
    body : List ℕ
    body = formatted_expr e ++ phname_text phname

    whole : (formatted_expr e ++ phname_text phname) ++ (125 ∷ []) ≡ formatted_expr e ++ (phname_text phname ++
        (125 ∷ []))
    whole = append_assoc (formatted_expr e) (phname_text phname) (125 ∷ [])

    over : (t : Bool) → begins_with_variable e ≡ t
        → IsCommand ((if t then codes "{" else codes "{print ") ++ (formatted_expr e ++
        (phname_text phname ++ codes "}")))
        (braced (print_word t ++ (expr_lexemes e ++ phname_lexemes phname)))
    over false is =
        subst (λ l. IsCommand (codes "{print " ++ l) (braced ((kind.Word, codes "print")
        ∷ (expr_lexemes e ++ phname_lexemes phname)))) whole
        (word_command (codes "print") (formatted_expr e ++ phname_text phname) (expr_lexemes e ++ phname_lexemes phname)
        print_is_word (printed e phname f h))
    over true is =
        let b = begins_dollar e is in
        let first = first_lexeme e in
        let are : expr_lexemes e ++ phname_lexemes phname ≡ first.first ∷ (first.more ++ phname_lexemes phname) =
        ap (λ l. l ++ phname_lexemes phname) first.are in
        let d : BeginsDollar (formatted_expr e ++ phname_text phname) =
        record { more = b.more ++ phname_text phname; is = ap (λ l. l ++ phname_text phname) b.is } in
        subst (λ l. IsCommand (123 ∷ (formatted_expr e ++ (phname_text phname ++ codes "}"))) (braced l)) (sym are)
        (braced_command (123 ∷ (formatted_expr e ++ (phname_text phname ++ codes "}")))
        (formatted_expr e ++ phname_text phname) first.first (first.more ++ phname_lexemes phname)
        (ap (λ l. 123 ∷ l) (sym whole)) (dollar_opens (formatted_expr e ++ phname_text phname) d)
        (subst (λ l. HasLexemes ends_name (formatted_expr e ++ phname_text phname) l) are (printed e phname f h)))

-- a call's name, and whether it passes all data
data_ends : (all : Bool) (rest : List ℕ) → ends_name rest ≡ true → ends_name (data_text all ++ rest) ≡ true
data_ends true rest h = refl
data_ends false rest h = h

data_written : (all : Bool) → HasLexemes ends_name (data_text all) (data_lexemes all)
data_written true =
    weaker ends_name (data_text true) (data_lexemes true) (attribute_written (codes "data")
    (codes "all") refl refl refl)
data_written false = nothing ends_name

called : (name : Name) (all : Bool) → is_dotted_name name ≡ true
    → HasLexemes ends_name (name ++ data_text all) (dotted_lexemes name ++ data_lexemes all)
called name all is =
    join ends_name ends_name name (data_text all) (dotted_lexemes name) (data_lexemes all) (dotted_written name is)
    (data_written all) (data_ends all)

pub call_written : (name : Name) (all : Bool) (given : Arguments) → is_dotted_name name ≡ true
    → IsCommand (call_text name all ++ call_end given) (call_ends given (call_lexemes name all))
call_written name all no_argument is =
    word_alone (codes "call") (name ++ data_text all) (dotted_lexemes name ++ data_lexemes all) call_word
    (called name all is)
call_written name all (argument n g span rest) is =
    word_command (codes "call") (name ++ data_text all) (dotted_lexemes name ++ data_lexemes all) call_word
    (called name all is)

-- a message
meaning_ends : (meaning rest : List ℕ) → ends_name rest ≡ true → ends_name (meaning_text meaning ++ rest) ≡ true
meaning_ends [] rest h = h
meaning_ends (c ∷ cs) rest h = refl

meaning_written : (meaning : List ℕ) → lacks (34 ∷ []) meaning ≡ true → lacks (0 ∷ []) meaning ≡ true
    → HasLexemes ends_name (meaning_text meaning) (meaning_lexemes meaning)
meaning_written [] quote null = nothing ends_name
meaning_written (c ∷ cs) quote null =
    weaker ends_name (meaning_text (c ∷ cs)) (meaning_lexemes (c ∷ cs))
    (attribute_written (codes "meaning") (c ∷ cs) refl quote null)

pub message_written : (word desc meaning : List ℕ) → IsCommandWord word → lacks (34 ∷ []) desc ≡ true
    → lacks (0 ∷ []) desc ≡ true → lacks (34 ∷ []) meaning ≡ true → lacks (0 ∷ []) meaning ≡ true
    → IsCommand (message_text (123 ∷ word) desc meaning) (braced ((kind.Word, word)
    ∷ (attribute_lexemes (codes "desc") desc ++ meaning_lexemes meaning)))
message_written word desc meaning w quote null other other_null =
    let value : List ℕ = codes "desc" ++ (61 ∷ (34 ∷ (desc ++ 34 ∷ []))) in
    subst (λ l. IsCommand (123 ∷ (word ++ (32 ∷ l))) (braced ((kind.Word, word)
    ∷ (attribute_lexemes (codes "desc") desc ++ meaning_lexemes meaning))))
    (append_assoc (codes "desc" ++ (61 ∷ (34 ∷ (desc ++ 34 ∷ [])))) (meaning_text meaning) (125 ∷ []))
    (word_command word ((codes "desc" ++ (61 ∷ (34 ∷ (desc ++ 34 ∷ [])))) ++ meaning_text meaning)
    (attribute_lexemes (codes "desc") desc ++ meaning_lexemes meaning) w
    (after ends_name (codes "desc" ++ (61 ∷ (34 ∷ (desc ++ 34 ∷ [])))) (meaning_text meaning)
    (attribute_lexemes (codes "desc") desc) (meaning_lexemes meaning) (named_value (codes "desc") desc refl quote null)
    (meaning_written meaning other other_null)))

-- a plural
offset_written : (offset : ℕ) → nat_le offset largest ≡ true
    → HasLexemes ends_name (offset_text offset) (offset_lexemes offset)
offset_written offset h = over (offset == 0)
  where
    over : (t : Bool) → HasLexemes ends_name (if t then [] else attribute_text (codes "offset") (decimal offset))
        (if t then [] else attribute_lexemes (codes "offset") (decimal offset))
    over true = nothing ends_name
    over false =
        let small : offset < 2 ^ 64 = let within : offset ≤ largest = grind (arith, nat_tests, h) in omega
        (arith, within) in
        let digits = digits-decimal offset small in
        weaker ends_name (attribute_text (codes "offset") (decimal offset))
        (attribute_lexemes (codes "offset") (decimal offset))
        (attribute_written (codes "offset") (decimal offset) refl
        (lacks-all is_ascii_digit 34 refl (decimal offset) digits) (lacks-all is_ascii_digit 0 refl
        (decimal offset) digits))

offset_ends : (offset : ℕ) (rest : List ℕ) → ends_name rest ≡ true → ends_name (offset_text offset ++ rest) ≡ true
offset_ends offset rest h = over (offset == 0)
  where
    over : (t : Bool)
        → ends_name ((if t then [] else attribute_text (codes "offset") (decimal offset)) ++ rest) ≡ true
    over true = h
    over false = refl

pub plural_written : (e : Expr) (offset : ℕ) → is_formed_expr e ≡ true → nat_le offset largest ≡ true
    → IsCommand (plural_text e offset) (braced ((kind.Word, codes "plural") ∷
    (expr_lexemes e ++ offset_lexemes offset)))
plural_written e offset f h =
    subst (λ l. IsCommand (codes "{plural " ++ l) (braced ((kind.Word, codes "plural")
    ∷ (expr_lexemes e ++ offset_lexemes offset)))) (append_assoc (formatted_expr e) (offset_text offset) (125 ∷ []))
    (word_command (codes "plural") (formatted_expr e ++ offset_text offset) (expr_lexemes e ++ offset_lexemes offset)
    plural_word (join ends_name ends_name (formatted_expr e) (offset_text offset) (expr_lexemes e)
    (offset_lexemes offset)
    (expr_written e f) (offset_written offset h) (offset_ends offset)))
