-- Lets, params, loops and cases: their lexemes spell what they are written for.
use Rattle.std.proofs.Common.{◌≡◌, ℕ, ◌+◌, ◌≤◌, true}
use Rattle.std.proofs.Common.{List, []}
use Rattle.std.proofs.Common.{◌∷◌, ◌++◌, Option, Some, None, refl, sym, ap, subst, ◌∙◌, arith}
use Rattle.std.specs.Prelude.{codes, encode_utf8_all}
use Rattle.soy_lexer.specs.declared.token.Token.{Token}
use Rattle.soy_lexer.specs.declared.token.TokenKind.TheVariants as kind
use Rattle.soy_tree.specs.Expressions.{Expr}
use Rattle.soy_tree.specs.Formed.{is_formed_expr}
use Rattle.soy_tree.specs.Types.{Name}
use Rattle.soy_tree.specs.declared.expr.Expr as code
use Rattle.soy_parser.specs.declared.command.CommandForm.TheVariants as says
use Rattle.soy_parser.specs.declared.command.Opening.TheVariants as opening
use Rattle.soy_parser.specs.declared.command.Single.{Single}
use Rattle.soy_parser.specs.declared.command.Single.TheVariants as single
use Rattle.soy_parser.specs.declared.head.Head.{Head}
use Rattle.soy_parser.specs.declared.head.Head.TheVariants as head
use Rattle.soy_parser.specs.declared.terminal.CommandTerminal.{CommandTerminal}
use Rattle.soy_parser.specs.declared.terminal.CommandTerminal.TheVariants as terminal
use Rattle.soy_parser.specs.declared.terminal.CommandWord.TheVariants as word
use Rattle.soy_parser.specs.CommandTerminals.{command_terminal_of, command_word}
use Rattle.soy_parser.specs.Depth.{none_deep}
use Rattle.soy_parser.specs.Heads.{form_at, no_attributes}
use Rattle.soy_parser.specs.SpellsHead.{SpellsHead, SpellsVariables}
use Rattle.soy_parser.specs.TypeWords.{no_words}
use Rattle.formatted_source.specs.CommandPieces.{braced, end_lexeme, index_lexemes}
use Rattle.formatted_source.specs.CommandPieces.{slash_end_lexeme}
use Rattle.formatted_source.specs.CommandPieces.{slashed}
use Rattle.formatted_source.proofs.Fitting.WrittenHeight.{expr_height}
use Rattle.formatted_source.specs.ExprLexemes.{expr_lexemes}
use Rattle.formatted_source.specs.Lexemes.{Lexeme, lexemes}
use Rattle.formatted_source.proofs.Commands.CommandTerms.{CommandSpelled, HeadSpelled, IsWhole, bare_spelled}
use Rattle.formatted_source.proofs.Commands.CommandTerms.{command-lexeme}
use Rattle.formatted_source.proofs.Commands.CommandTerms.{lexeme_command, names_none, same_none}
use Rattle.formatted_source.proofs.Commands.ExprCommands.{HeadOfExpr, SaysExpr, head_as, whole_head}
use Rattle.formatted_source.proofs.LexemeLists.{begun}
use Rattle.formatted_source.proofs.ReadParts.{spelled_within}

let_is : lexeme_command (kind.Word, codes "let") ≡ terminal.Word word.Let
unfolding lib.Utf8.encode
let_is = refl

param_is : lexeme_command (kind.Word, codes "param") ≡ terminal.Word word.Param
unfolding lib.Utf8.encode
param_is = refl

for_is : lexeme_command (kind.Word, codes "for") ≡ terminal.Word word.For
unfolding lib.Utf8.encode
for_is = refl

in_is : lexeme_command (kind.Word, codes "in") ≡ terminal.Word word.In
unfolding lib.Utf8.encode
in_is = refl

case_is : lexeme_command (kind.Word, codes "case") ≡ terminal.Word word.Case
unfolding lib.Utf8.encode
case_is = refl

colon_is : lexeme_command (kind.Symbol, codes ":") ≡ terminal.Colon
unfolding lib.Utf8.encode
colon_is = refl

comma_is : lexeme_command (kind.Symbol, codes ",") ≡ terminal.Comma
unfolding lib.Utf8.encode
comma_is = refl

-- a token of a lexeme is what the lexeme is
is_as : (t : Token) (l : Lexeme) (m : CommandTerminal) → t.kind ≡ l.0 → t.text ≡ l.1 → lexeme_command l ≡ m
    → command_terminal_of t ≡ m
is_as t l m k e is = command-lexeme t l k e ∙ is

-- a word, a variable or a word, a colon and an expression
let_head : (blocks : ℕ) (us : List Token) (name : Name) (e : Expr) → blocks ≤ 64 → is_formed_expr e ≡ true
    → blocks + expr_height e ≤ 64
    → lexemes us ≡ (kind.Word, codes "let") ∷ ((kind.Variable, name) ∷ ((kind.Symbol, codes ":") ∷ expr_lexemes e))
    → HeadSpelled blocks us (HeadOfExpr (λ x. head.Alone (single.Let name x)) e)
let_head blocks us name e le f within same =
    let t = begun us (kind.Word, codes "let") ((kind.Variable, name) ∷ ((kind.Symbol, codes ":") ∷ expr_lexemes e))
    same in
    let v = begun t.rest (kind.Variable, name) ((kind.Symbol, codes ":") ∷ expr_lexemes e) t.rests in
    let c = begun v.rest (kind.Symbol, codes ":") (expr_lexemes e) v.rests in
    let s = spelled_within blocks e f within c.rest c.rests in
    let are : us ≡ t.token ∷ (v.token ∷ (c.token ∷ c.rest)) =
    t.are ∙ ap (λ l. t.token ∷ l) (v.are ∙ ap (λ l. v.token ∷ l) c.are) in
    subst (λ l. HeadSpelled blocks l (HeadOfExpr (λ x. head.Alone (single.Let name x)) e)) (sym are) (record {
      head = head.Alone (single.Let v.token.text s.operand.expr);
      depths = 0 ∷ (0 ∷ (0 ∷ s.depths));
      words = no_words (t.token ∷ (v.token ∷ (c.token ∷ c.rest)));
      spells = SpellsHead.let_ t.token v.token c.token c.rest s.depths s.operand
          (is_as t.token (kind.Word, codes "let") _ t.kind_is t.text_is let_is)
          (is_as v.token (kind.Variable, name) _ v.kind_is v.text_is refl)
          (is_as c.token (kind.Symbol, codes ":") _ c.kind_is c.text_is colon_is) s.spells;
      said = record {
        expr = s.operand.expr;
        is = ap (λ n. head.Alone (single.Let n s.operand.expr)) v.text_is;
        alike = s.alike;
      };
      within = (omega (arith, le), (omega (arith, le), (omega (arith, le), s.within)));
      names = λ rest none. names_none (t.token ∷ (v.token ∷ (c.token ∷ c.rest))) rest;
      each = same_none (t.token ∷ (v.token ∷ (c.token ∷ c.rest)));
    })

param_head : (blocks : ℕ) (us : List Token) (name : Name) (e : Expr) → blocks ≤ 64 → is_formed_expr e ≡ true
    → blocks + expr_height e ≤ 64
    → lexemes us ≡ (kind.Word, codes "param") ∷ ((kind.Word, name) ∷ ((kind.Symbol, codes ":") ∷ expr_lexemes e))
    → HeadSpelled blocks us (HeadOfExpr (λ x. head.Alone (single.Param name x)) e)
param_head blocks us name e le f within same =
    let t = begun us (kind.Word, codes "param") ((kind.Word, name) ∷ ((kind.Symbol, codes ":") ∷ expr_lexemes e)) same
    in
    let v = begun t.rest (kind.Word, name) ((kind.Symbol, codes ":") ∷ expr_lexemes e) t.rests in
    let c = begun v.rest (kind.Symbol, codes ":") (expr_lexemes e) v.rests in
    let s = spelled_within blocks e f within c.rest c.rests in
    let are : us ≡ t.token ∷ (v.token ∷ (c.token ∷ c.rest)) =
    t.are ∙ ap (λ l. t.token ∷ l) (v.are ∙ ap (λ l. v.token ∷ l) c.are) in
    subst (λ l. HeadSpelled blocks l (HeadOfExpr (λ x. head.Alone (single.Param name x)) e)) (sym are) (record {
      head = head.Alone (single.Param v.token.text s.operand.expr);
      depths = 0 ∷ (0 ∷ (0 ∷ s.depths));
      words = no_words (t.token ∷ (v.token ∷ (c.token ∷ c.rest)));
      spells = SpellsHead.param_ t.token v.token c.token (command_word (encode_utf8_all name)) c.rest s.depths s.operand
          (is_as t.token (kind.Word, codes "param") _ t.kind_is t.text_is param_is)
          (is_as v.token (kind.Word, name) _ v.kind_is v.text_is refl)
          (is_as c.token (kind.Symbol, codes ":") _ c.kind_is c.text_is colon_is) s.spells;
      said = record {
        expr = s.operand.expr;
        is = ap (λ n. head.Alone (single.Param n s.operand.expr)) v.text_is;
        alike = s.alike;
      };
      within = (omega (arith, le), (omega (arith, le), (omega (arith, le), s.within)));
      names = λ rest none. names_none (t.token ∷ (v.token ∷ (c.token ∷ c.rest))) rest;
      each = same_none (t.token ∷ (v.token ∷ (c.token ∷ c.rest)));
    })

-- which a command alone says
alone_head : (make : code.Expr → Single) (e : Expr) (h : Head) → HeadOfExpr (λ x. head.Alone (make x)) e h
    → IsWhole h terminal.SlashEnd (SaysExpr (λ x. says.Single (make x)) e)
alone_head make e h s = record {
  form = says.Single (make s.expr);
  is = ap (λ h. form_at h no_attributes terminal.SlashEnd) s.is;
  said = record { expr = s.expr; is = refl; alike = s.alike };
}

pub let_command : (blocks : ℕ) (ts : List Token) (name : Name) (e : Expr) → blocks ≤ 64 → is_formed_expr e ≡ true
    → blocks + expr_height e ≤ 64
    → lexemes ts ≡ slashed ((kind.Word, codes "let") ∷ ((kind.Variable, name) ∷
    ((kind.Symbol, codes ":") ∷ expr_lexemes e)))
    → CommandSpelled blocks ts (SaysExpr (λ x. says.Single (single.Let name x)) e)
let_command blocks ts name e le f within same =
    bare_spelled blocks ts ((kind.Word, codes "let") ∷ ((kind.Variable, name) ∷
    ((kind.Symbol, codes ":") ∷ expr_lexemes e)))
    slash_end_lexeme (SaysExpr (λ x. says.Single (single.Let name x)) e) le refl
    (λ us own. head_as blocks us (HeadOfExpr (λ x. head.Alone (single.Let name x)) e)
    (λ h. IsWhole h terminal.SlashEnd (SaysExpr (λ x. says.Single (single.Let name x)) e))
    (alone_head (λ x. single.Let name x) e) (let_head blocks us name e le f within own)) same

pub param_command : (blocks : ℕ) (ts : List Token) (name : Name) (e : Expr) → blocks ≤ 64 → is_formed_expr e ≡ true
    → blocks + expr_height e ≤ 64
    → lexemes ts ≡ slashed ((kind.Word, codes "param") ∷ ((kind.Word, name) ∷
    ((kind.Symbol, codes ":") ∷ expr_lexemes e)))
    → CommandSpelled blocks ts (SaysExpr (λ x. says.Single (single.Param name x)) e)
param_command blocks ts name e le f within same =
    bare_spelled blocks ts ((kind.Word, codes "param") ∷ ((kind.Word, name) ∷
    ((kind.Symbol, codes ":") ∷ expr_lexemes e)))
    slash_end_lexeme (SaysExpr (λ x. says.Single (single.Param name x)) e) le refl
    (λ us own. head_as blocks us (HeadOfExpr (λ x. head.Alone (single.Param name x)) e)
    (λ h. IsWhole h terminal.SlashEnd (SaysExpr (λ x. says.Single (single.Param name x)) e))
    (alone_head (λ x. single.Param name x) e) (param_head blocks us name e le f within own)) same

-- a loop
for_head : (blocks : ℕ) (us : List Token) (name : Name) (index : Option Name) (e : Expr) → blocks ≤ 64
    → is_formed_expr e ≡ true → blocks + expr_height e ≤ 64
    → lexemes us ≡ (kind.Word, codes "for") ∷ ((kind.Variable, name)
    ∷ (index_lexemes index ++ ((kind.Word, codes "in") ∷ expr_lexemes e)))
    → HeadSpelled blocks us (HeadOfExpr (λ x. head.Whole (says.Opens (opening.For name index x))) e)
for_head blocks us name None e le f within same =
    let t = begun us (kind.Word, codes "for") ((kind.Variable, name) ∷ ((kind.Word, codes "in") ∷ expr_lexemes e))
    same in
    let v = begun t.rest (kind.Variable, name) ((kind.Word, codes "in") ∷ expr_lexemes e) t.rests in
    let i = begun v.rest (kind.Word, codes "in") (expr_lexemes e) v.rests in
    let s = spelled_within blocks e f within i.rest i.rests in
    let are : us ≡ t.token ∷ ((v.token ∷ []) ++ (i.token ∷ i.rest)) =
    t.are ∙ ap (λ l. t.token ∷ l) (v.are ∙ ap (λ l. v.token ∷ l) i.are) in
    subst (λ l. HeadSpelled blocks l (HeadOfExpr (λ x. head.Whole (says.Opens (opening.For name None x))) e)) (sym are)
    (record {
      head = head.Whole (says.Opens (opening.For v.token.text None s.operand.expr));
      depths = none_deep (t.token ∷ (v.token ∷ [])) ++ (0 ∷ s.depths);
      words = no_words (t.token ∷ ((v.token ∷ []) ++ (i.token ∷ i.rest)));
      spells = SpellsHead.for_ t.token i.token (v.token ∷ []) i.rest s.depths v.token.text None s.operand
          (is_as t.token (kind.Word, codes "for") _ t.kind_is t.text_is for_is)
          (SpellsVariables.one_ v.token (is_as v.token (kind.Variable, name) _ v.kind_is v.text_is refl))
          (is_as i.token (kind.Word, codes "in") _ i.kind_is i.text_is in_is) s.spells;
      said = record {
        expr = s.operand.expr;
        is = ap (λ n. head.Whole (says.Opens (opening.For n None s.operand.expr))) v.text_is;
        alike = s.alike;
      };
      within = (omega (arith, le), (omega (arith, le), (omega (arith, le), s.within)));
      names = λ rest none. names_none (t.token ∷ (v.token ∷ (i.token ∷ i.rest))) rest;
      each = same_none (t.token ∷ (v.token ∷ (i.token ∷ i.rest)));
    })
for_head blocks us name (Some index) e le f within same =
    let t = begun us (kind.Word, codes "for") _ same in
    let v = begun t.rest (kind.Variable, name) ((kind.Symbol, codes ",") ∷ ((kind.Variable, index)
    ∷ ((kind.Word, codes "in") ∷ expr_lexemes e))) t.rests in
    let c = begun v.rest (kind.Symbol, codes ",") ((kind.Variable, index) ∷ ((kind.Word, codes "in") ∷ expr_lexemes e))
    v.rests in
    let n = begun c.rest (kind.Variable, index) ((kind.Word, codes "in") ∷ expr_lexemes e) c.rests in
    let i = begun n.rest (kind.Word, codes "in") (expr_lexemes e) n.rests in
    let s = spelled_within blocks e f within i.rest i.rests in
    let are : us ≡ t.token ∷ ((v.token ∷ (c.token ∷ (n.token ∷ []))) ++ (i.token ∷ i.rest)) =
    t.are ∙ ap (λ l. t.token ∷ l) (v.are ∙ ap (λ l. v.token ∷ l) (c.are ∙ ap (λ l. c.token ∷ l)
    (n.are ∙ ap (λ l. n.token ∷ l) i.are))) in
    subst (λ l. HeadSpelled blocks l (HeadOfExpr (λ x. head.Whole (says.Opens (opening.For name (Some index) x))) e))
    (sym are)
    (record {
      head = head.Whole (says.Opens (opening.For v.token.text (Some n.token.text) s.operand.expr));
      depths = none_deep (t.token ∷ (v.token ∷ (c.token ∷ (n.token ∷ [])))) ++ (0 ∷ s.depths);
      words = no_words (t.token ∷ ((v.token ∷ (c.token ∷ (n.token ∷ []))) ++ (i.token ∷ i.rest)));
      spells = SpellsHead.for_ t.token i.token (v.token ∷ (c.token ∷ (n.token ∷ []))) i.rest s.depths v.token.text
          (Some n.token.text) s.operand (is_as t.token (kind.Word, codes "for") _ t.kind_is t.text_is for_is)
          (SpellsVariables.two_ v.token c.token n.token (is_as v.token (kind.Variable, name) _ v.kind_is v.text_is refl)
          (is_as c.token (kind.Symbol, codes ",") _ c.kind_is c.text_is comma_is)
          (is_as n.token (kind.Variable, index) _ n.kind_is n.text_is refl))
          (is_as i.token (kind.Word, codes "in") _ i.kind_is i.text_is in_is) s.spells;
      said = record {
        expr = s.operand.expr;
        is = ap (λ m. head.Whole (says.Opens (opening.For m (Some n.token.text) s.operand.expr))) v.text_is
            ∙ ap (λ m. head.Whole (says.Opens (opening.For name (Some m) s.operand.expr))) n.text_is;
        alike = s.alike;
      };
      within = (
        omega (arith, le),
        (
          omega (arith, le),
          (
            omega (arith, le),
            (
              omega (arith, le),
              (
                omega
                    (arith, le),
                s.within,
              ),
            ),
          ),
        ),
      );
      names = λ rest none. names_none (t.token ∷ (v.token ∷ (c.token ∷ (n.token ∷ (i.token ∷ i.rest))))) rest;
      each = same_none (t.token ∷ (v.token ∷ (c.token ∷ (n.token ∷ (i.token ∷ i.rest)))));
    })

pub for_command : (blocks : ℕ) (ts : List Token) (name : Name) (index : Option Name) (e : Expr) → blocks ≤ 64
    → is_formed_expr e ≡ true → blocks + expr_height e ≤ 64
    → lexemes ts ≡ braced ((kind.Word, codes "for") ∷ ((kind.Variable, name)
    ∷ (index_lexemes index ++ ((kind.Word, codes "in") ∷ expr_lexemes e))))
    → CommandSpelled blocks ts (SaysExpr (λ x. says.Opens (opening.For name index x)) e)
for_command blocks ts name index e le f within same =
    bare_spelled blocks ts ((kind.Word, codes "for") ∷ ((kind.Variable, name)
    ∷ (index_lexemes index ++ ((kind.Word, codes "in") ∷ expr_lexemes e)))) end_lexeme
    (SaysExpr (λ x. says.Opens (opening.For name index x)) e) le refl
    (λ us own. head_as blocks us (HeadOfExpr (λ x. head.Whole (says.Opens (opening.For name index x))) e)
    (λ h. IsWhole h terminal.End (SaysExpr (λ x. says.Opens (opening.For name index x)) e))
    (whole_head (λ x. says.Opens (opening.For name index x)) e) (for_head blocks us name index e le f within own)) same
