-- Expressions, as they are written in a command.
use Rattle.std.proofs.Common.{◌≡◌, ℕ, pos, negsuc, ◌≤◌, Bool, true, false, ◌&&◌, nat_lt, nat_le, List, [], ◌∷◌, ◌++◌}
use Rattle.std.proofs.Common.{refl, arith}
use Rattle.std.specs.Prelude.{codes}
use Rattle.std.proofs.lemmas.Bool.Decides.{nat_tests}
use Rattle.soy_base.specs.Names.{is_name}
use Rattle.soy_lexer.specs.CommandSegment.{command_segment}
use Rattle.soy_base.specs.Limits.{largest}
use Rattle.soy_lexer.specs.Found.Found.{Begins}
use Rattle.soy_lexer.specs.Segment.Segment.{CommandToken}
use Rattle.soy_lexer.specs.declared.token.TokenKind.{TokenKind}
use Rattle.soy_lexer.specs.declared.token.TokenKind.TheVariants as kind
use Rattle.soy_tree.specs.declared.expr.BinaryOp.{BinaryOp}
use Rattle.soy_tree.specs.declared.expr.BinaryOp.TheVariants as op
use Rattle.soy_tree.specs.Expressions.{Expr, NullLiteral, BoolLiteral, IntLiteral, StringLiteral, Variable, Member}
use Rattle.soy_tree.specs.Expressions.{Index, Minus, Not, Binary, Coalesce, Conditional}
use Rattle.soy_tree.specs.Formed.{is_formed_expr}
use Rattle.soy_format.specs.FormattedExpression.{bool_text, bracket_text, dot_text, formatted_expr, in_parentheses}
use Rattle.soy_format.specs.FormattedExpression.{minus_text, op_text}
use Rattle.soy_format.specs.FormattedString.{formatted_string}
use Rattle.soy_format.specs.Levels.{level_of, level_of_op}
use Rattle.formatted_source.specs.CommandLexemes.{CommandLexemes, HasLexemes, before_any, ends_name, goes_on}
use Rattle.formatted_source.specs.CommandLexemes.CommandLexemes.{here_, white_, token_}
use Rattle.formatted_source.specs.ExprLexemes.{bracketed, expr_lexemes, op_lexeme}
use Rattle.formatted_source.specs.Lexemes.{Lexeme}
use Rattle.formatted_source.proofs.Written.Ints.{int_written}
use Rattle.formatted_source.proofs.Written.Names.{both, variable_written, word_written}
use Rattle.formatted_source.proofs.Written.Reading.{after, join, weaker}
use Rattle.formatted_source.proofs.Written.Strings.{string_written}

-- one token, whatever follows it
pub symbol_written : (text : List ℕ)
    → ((rest : List ℕ) → command_segment (text ++ rest) ≡ Begins (CommandToken kind.Symbol text text) rest)
    → HasLexemes before_any text ((kind.Symbol, text) ∷ [])
symbol_written text found rest h =
    token_ (text ++ rest) text text rest rest kind.Symbol [] (found rest) refl (here_ rest)

-- one token before a space
pub spaced_written : (k : TokenKind) (text : List ℕ) → goes_on k ≡ true
    → ((rest : List ℕ) → command_segment (text ++ (32 ∷ rest)) ≡ Begins (CommandToken k text text) (32 ∷ rest))
    → (rest : List ℕ) → CommandLexemes (text ++ (32 ∷ rest)) ((k, text) ∷ []) rest
spaced_written k text goes found rest =
    token_ (text ++ (32 ∷ rest)) text text (32 ∷ rest) rest k [] (found rest) goes
    (white_ (32 ∷ rest) (32 ∷ []) rest rest [] refl (here_ rest))

-- and between two spaces
op_written : (o : BinaryOp) → HasLexemes before_any (op_text o) (op_lexeme o ∷ [])
op_written op.Mul rest h = white_ _ (32 ∷ []) _ _ _ refl (spaced_written kind.Symbol (codes "*") refl
    (λ more. refl) rest)
op_written op.Rem rest h = white_ _ (32 ∷ []) _ _ _ refl (spaced_written kind.Symbol (codes "%") refl
    (λ more. refl) rest)
op_written op.Add rest h = white_ _ (32 ∷ []) _ _ _ refl (spaced_written kind.Symbol (codes "+") refl
    (λ more. refl) rest)
op_written op.Sub rest h = white_ _ (32 ∷ []) _ _ _ refl (spaced_written kind.Symbol (codes "-") refl
    (λ more. refl) rest)
op_written op.Lt rest h = white_ _ (32 ∷ []) _ _ _ refl (spaced_written kind.Symbol (codes "<") refl
    (λ more. refl) rest)
op_written op.Gt rest h = white_ _ (32 ∷ []) _ _ _ refl (spaced_written kind.Symbol (codes ">") refl
    (λ more. refl) rest)
op_written op.Le rest h = white_ _ (32 ∷ []) _ _ _ refl (spaced_written kind.Symbol (codes "<=") refl
    (λ more. refl) rest)
op_written op.Ge rest h = white_ _ (32 ∷ []) _ _ _ refl (spaced_written kind.Symbol (codes ">=") refl
    (λ more. refl) rest)
op_written op.Eq rest h = white_ _ (32 ∷ []) _ _ _ refl (spaced_written kind.Symbol (codes "==") refl
    (λ more. refl) rest)
op_written op.Ne rest h = white_ _ (32 ∷ []) _ _ _ refl (spaced_written kind.Symbol (codes "!=") refl
    (λ more. refl) rest)
op_written op.And rest h = white_ _ (32 ∷ []) _ _ _ refl (spaced_written kind.Word (codes "and") refl
    (λ more. refl) rest)
op_written op.Or rest h = white_ _ (32 ∷ []) _ _ _ refl (spaced_written kind.Word (codes "or") refl (λ more. refl) rest)

coalesce_written : HasLexemes before_any (codes " ?: ") ((kind.Symbol, codes "?:") ∷ [])
coalesce_written rest h =
    white_ _ (32 ∷ []) _ _ _ refl (spaced_written kind.Symbol (codes "?:") refl (λ more. refl) rest)

question_written : HasLexemes before_any (codes " ? ") ((kind.Symbol, codes "?") ∷ [])
question_written rest h =
    white_ _ (32 ∷ []) _ _ _ refl (spaced_written kind.Symbol (codes "?") refl (λ more. refl) rest)

colon_written : HasLexemes before_any (codes " : ") ((kind.Symbol, codes ":") ∷ [])
colon_written rest h =
    white_ _ (32 ∷ []) _ _ _ refl (spaced_written kind.Symbol (codes ":") refl (λ more. refl) rest)

-- each of these stands between two spaces, so a name ends before it
op_ends : (o : BinaryOp) (more rest : List ℕ) → ends_name ((op_text o ++ more) ++ rest) ≡ true
op_ends op.Mul more rest = refl
op_ends op.Rem more rest = refl
op_ends op.Add more rest = refl
op_ends op.Sub more rest = refl
op_ends op.Lt more rest = refl
op_ends op.Gt more rest = refl
op_ends op.Le more rest = refl
op_ends op.Ge more rest = refl
op_ends op.Eq more rest = refl
op_ends op.Ne more rest = refl
op_ends op.And more rest = refl
op_ends op.Or more rest = refl

dot_written : (takes_null : Bool) → HasLexemes before_any (dot_text takes_null)
    ((kind.Symbol, dot_text takes_null) ∷ [])
dot_written true = symbol_written (codes "?.") (λ rest. refl)
dot_written false = symbol_written (codes ".") (λ rest. refl)

dot_ends : (takes_null : Bool) (more rest : List ℕ) → ends_name ((dot_text takes_null ++ more) ++ rest) ≡ true
dot_ends true more rest = refl
dot_ends false more rest = refl

bracket_written : (takes_null : Bool)
    → HasLexemes before_any (bracket_text takes_null) ((kind.Symbol, bracket_text takes_null) ∷ [])
bracket_written true = symbol_written (codes "?[") (λ rest. refl)
bracket_written false = symbol_written (codes "[") (λ rest. refl)

bracket_ends : (takes_null : Bool) (more rest : List ℕ) → ends_name ((bracket_text takes_null ++ more) ++ rest) ≡ true
bracket_ends true more rest = refl
bracket_ends false more rest = refl

minus_written : (e : Expr) → HasLexemes before_any (minus_text e) ((kind.Symbol, codes "-") ∷ [])
minus_written (Minus e span) = λ rest h. spaced_written kind.Symbol (codes "-") refl (λ more. refl) rest
minus_written (NullLiteral span) = symbol_written (codes "-") (λ rest. refl)
minus_written (BoolLiteral b span) = symbol_written (codes "-") (λ rest. refl)
minus_written (IntLiteral n span) = symbol_written (codes "-") (λ rest. refl)
minus_written (StringLiteral text span) = symbol_written (codes "-") (λ rest. refl)
minus_written (Variable name span) = symbol_written (codes "-") (λ rest. refl)
minus_written (Member e name takes_null span) = symbol_written (codes "-") (λ rest. refl)
minus_written (Index e i takes_null span) = symbol_written (codes "-") (λ rest. refl)
minus_written (Not e span) = symbol_written (codes "-") (λ rest. refl)
minus_written (Binary o a b span) = symbol_written (codes "-") (λ rest. refl)
minus_written (Coalesce a b span) = symbol_written (codes "-") (λ rest. refl)
minus_written (Conditional c a b span) = symbol_written (codes "-") (λ rest. refl)

not_written : HasLexemes before_any (codes "not ") ((kind.Word, codes "not") ∷ [])
not_written rest h = spaced_written kind.Word (codes "not") refl (λ more. refl) rest

-- something before a symbol that closes
pub closed_written : (text close : List ℕ) (ls : List Lexeme) → HasLexemes ends_name text ls
    → HasLexemes before_any close ((kind.Symbol, close) ∷ []) → ((rest : List ℕ) → ends_name (close ++ rest) ≡ true)
    → HasLexemes ends_name (text ++ close) (ls ++ ((kind.Symbol, close) ∷ []))
closed_written text close ls one two ends =
    join ends_name ends_name text close ls ((kind.Symbol, close) ∷ []) one (weaker ends_name close _ two)
    (λ rest h. ends rest)

-- a part in parentheses, where there have to be some
brackets_written : (b : Bool) (text : List ℕ) (ls : List Lexeme) → HasLexemes ends_name text ls
    → HasLexemes ends_name (in_parentheses b text) (bracketed b ls)
brackets_written true text ls one =
    after ends_name (codes "(") (text ++ codes ")") ((kind.Symbol, codes "(") ∷ []) (ls ++
    ((kind.Symbol, codes ")") ∷ []))
    (symbol_written (codes "(") (λ rest. refl))
    (closed_written text (codes ")") ls one (symbol_written (codes ")") (λ rest. refl)) (λ rest. refl))
brackets_written false text ls one = one

bool_written : (b : Bool) → HasLexemes ends_name (bool_text b) ((kind.Word, bool_text b) ∷ [])
bool_written true = word_written (codes "true") refl
bool_written false = word_written (codes "false") refl

within_largest : (n : ℕ) → nat_le n largest ≡ true → n ≤ largest
within_largest n h = grind (arith, nat_tests, h)

-- **An expression has the lexemes that it is written for, where no name goes on after it.**
pub expr_written : (e : Expr) → is_formed_expr e ≡ true → HasLexemes ends_name (formatted_expr e) (expr_lexemes e)
expr_written (NullLiteral span) f = word_written (codes "null") refl
expr_written (BoolLiteral b span) f = bool_written b
expr_written (IntLiteral (pos n) span) f = int_written n (within_largest n f)
expr_written (IntLiteral (negsuc n) span) f = cc
expr_written (StringLiteral text span) f = weaker ends_name (formatted_string text) ((kind.Str, text) ∷ [])
    (string_written text)
expr_written (Variable name span) f = variable_written name f
expr_written (Member e name takes_null span) f =
    let fs = both (is_formed_expr e) (is_name name) f in
    let base = brackets_written (nat_lt 1 (level_of e)) (formatted_expr e) (expr_lexemes e) (expr_written e fs.0) in
    join ends_name ends_name _ (dot_text takes_null ++ name) _ ((kind.Symbol, dot_text takes_null) ∷
    (kind.Word, name) ∷ [])
    base (after ends_name (dot_text takes_null) name ((kind.Symbol, dot_text takes_null) ∷ []) ((kind.Word, name) ∷ [])
    (dot_written takes_null) (word_written name fs.1)) (λ rest h. dot_ends takes_null name rest)
expr_written (Index e i takes_null span) f =
    let fs = both (is_formed_expr e) (is_formed_expr i) f in
    let base = brackets_written (nat_lt 1 (level_of e)) (formatted_expr e) (expr_lexemes e) (expr_written e fs.0) in
    let close = closed_written (formatted_expr i) (codes "]") (expr_lexemes i) (expr_written i fs.1)
    (symbol_written (codes "]") (λ rest. refl)) (λ rest. refl) in
    join ends_name ends_name _ (bracket_text takes_null ++ (formatted_expr i ++ codes "]")) _
    ((kind.Symbol, bracket_text takes_null) ∷ (expr_lexemes i ++ ((kind.Symbol, codes "]") ∷ [])))
    base (after ends_name (bracket_text takes_null) (formatted_expr i ++ codes "]")
    ((kind.Symbol, bracket_text takes_null) ∷ []) (expr_lexemes i ++ ((kind.Symbol, codes "]") ∷ []))
    (bracket_written takes_null) close) (λ rest h. bracket_ends takes_null (formatted_expr i ++ codes "]") rest)
expr_written (Minus e span) f =
    after ends_name (minus_text e) (in_parentheses (nat_lt 2 (level_of e)) (formatted_expr e))
    ((kind.Symbol, codes "-") ∷ []) (bracketed (nat_lt 2 (level_of e)) (expr_lexemes e)) (minus_written e)
    (brackets_written (nat_lt 2 (level_of e)) (formatted_expr e) (expr_lexemes e) (expr_written e f))
expr_written (Not e span) f =
    after ends_name (codes "not ") (in_parentheses (nat_lt 2 (level_of e)) (formatted_expr e))
    ((kind.Word, codes "not") ∷ []) (bracketed (nat_lt 2 (level_of e)) (expr_lexemes e)) not_written
    (brackets_written (nat_lt 2 (level_of e)) (formatted_expr e) (expr_lexemes e) (expr_written e f))
expr_written (Binary o a b span) f =
    let fs = both (is_formed_expr a) (is_formed_expr b) f in
    let first = brackets_written (nat_lt (level_of_op o) (level_of a)) (formatted_expr a) (expr_lexemes a)
    (expr_written a fs.0) in
    let second = brackets_written (nat_le (level_of_op o) (level_of b)) (formatted_expr b) (expr_lexemes b)
    (expr_written b fs.1) in
    join ends_name ends_name _ _ _ _ first
    (after ends_name (op_text o) (in_parentheses (nat_le (level_of_op o) (level_of b)) (formatted_expr b))
    (op_lexeme o ∷ []) (bracketed (nat_le (level_of_op o) (level_of b)) (expr_lexemes b)) (op_written o) second)
    (λ rest h. op_ends o (in_parentheses (nat_le (level_of_op o) (level_of b)) (formatted_expr b)) rest)
expr_written (Coalesce a b span) f =
    let fs = both (is_formed_expr a) (is_formed_expr b) f in
    join ends_name ends_name _ _ _ _
    (brackets_written (nat_le 9 (level_of a)) (formatted_expr a) (expr_lexemes a) (expr_written a fs.0))
    (after ends_name (codes " ?: ") (formatted_expr b) ((kind.Symbol, codes "?:") ∷ []) (expr_lexemes b)
    coalesce_written (expr_written b fs.1))
    (λ rest h. refl)
expr_written (Conditional c a b span) f =
    let fs = both (is_formed_expr c && is_formed_expr a) (is_formed_expr b) f in
    let gs = both (is_formed_expr c) (is_formed_expr a) fs.0 in
    let last = after ends_name (codes " : ") (formatted_expr b) ((kind.Symbol, codes ":") ∷ []) (expr_lexemes b)
    colon_written (expr_written b fs.1) in
    join ends_name ends_name _ _ _ _
    (brackets_written (nat_le 9 (level_of c)) (formatted_expr c) (expr_lexemes c) (expr_written c gs.0))
    (after ends_name (codes " ? ") (formatted_expr a ++ (codes " : " ++ formatted_expr b))
    ((kind.Symbol, codes "?") ∷ [])
    (expr_lexemes a ++ ((kind.Symbol, codes ":") ∷ expr_lexemes b)) question_written
    (join ends_name ends_name (formatted_expr a) (codes " : " ++ formatted_expr b) (expr_lexemes a)
    ((kind.Symbol, codes ":") ∷ expr_lexemes b) (expr_written a gs.1) last (λ rest h. refl)))
    (λ rest h. refl)
