-- Commands of a word and an expression: their lexemes spell what they are written for.
use Rattle.std.proofs.Common.{◌≡◌, ℕ, ◌+◌, ◌≤◌, true, false, List, ◌∷◌, Some}
use Rattle.std.proofs.Common.{refl, sym, ap}
use Rattle.std.proofs.Common.{subst, ◌∙◌, arith}
use Rattle.std.specs.Prelude.{codes}
use Rattle.soy_lexer.specs.declared.token.Token.{Token}
use Rattle.soy_lexer.specs.declared.token.TokenKind.TheVariants as kind
use Rattle.soy_tree.specs.Expressions.{Expr}
use Rattle.soy_tree.specs.Formed.{is_formed_expr}
use Rattle.soy_tree.specs.ViewExpressions.{view_expr}
use Rattle.soy_tree.specs.declared.expr.Expr as code
use Rattle.soy_parser.specs.declared.command.CommandForm.{CommandForm}
use Rattle.soy_parser.specs.declared.command.CommandForm.TheVariants as says
use Rattle.soy_parser.specs.declared.command.Middle.TheVariants as middle
use Rattle.soy_parser.specs.declared.command.Opening.TheVariants as opening
use Rattle.soy_parser.specs.declared.command.Single.TheVariants as single
use Rattle.soy_parser.specs.declared.head.Head.{Head}
use Rattle.soy_parser.specs.declared.head.Head.TheVariants as head
use Rattle.soy_parser.specs.declared.terminal.CommandTerminal.TheVariants as terminal
use Rattle.soy_parser.specs.CommandTerminals.{command_terminal_of}
use Rattle.soy_parser.specs.Heads.{form_at, no_attributes}
use Rattle.soy_parser.specs.SpellsHead.{SpellsHead, expr_head}
use Rattle.soy_parser.specs.TypeWords.{no_words}
use Rattle.soy_format.specs.WithoutSpans.{expr_without_spans}
use Rattle.formatted_source.specs.CommandPieces.{braced, end_lexeme}
use Rattle.formatted_source.proofs.Fitting.WrittenHeight.{expr_height}
use Rattle.formatted_source.specs.ExprLexemes.{expr_lexemes}
use Rattle.formatted_source.specs.Lexemes.{lexemes}
use Rattle.formatted_source.proofs.Commands.CommandTerms.{CommandSpelled, HeadSpelled, IsWhole, bare_spelled}
use Rattle.formatted_source.proofs.Commands.CommandTerms.{command-lexeme}
use Rattle.formatted_source.proofs.Commands.CommandTerms.{lexeme_command, names_none, same_none}
use Rattle.formatted_source.proofs.LexemeLists.{begun}
use Rattle.formatted_source.proofs.ReadParts.{spelled_within}

-- a command says something of an expression that is alike to this one
pub record SaysExpr (make : code.Expr → CommandForm) (e : Expr) (f : CommandForm) : Type 0 where
  pub expr : code.Expr
  pub is : f ≡ make expr
  pub alike : expr_without_spans (view_expr expr) ≡ expr_without_spans e

pub record HeadOfExpr (make : code.Expr → Head) (e : Expr) (h : Head) : Type 0 where
  pub expr : code.Expr
  pub is : h ≡ make expr
  pub alike : expr_without_spans (view_expr expr) ≡ expr_without_spans e

-- a head of a word and an expression
pub word_head : (blocks : ℕ) (us : List Token) (word : List ℕ) (make : code.Expr → Head) (e : Expr) → blocks ≤ 64
    → is_formed_expr e ≡ true → blocks + expr_height e ≤ 64
    → ((x : code.Expr) → expr_head (lexeme_command (kind.Word, word)) x ≡ Some (make x))
    → lexemes us ≡ (kind.Word, word) ∷ expr_lexemes e → HeadSpelled blocks us (HeadOfExpr make e)
word_head blocks us word make e le f within heads same =
    let w = begun us (kind.Word, word) (expr_lexemes e) same in
    let s = spelled_within blocks e f within w.rest w.rests in
    let is : expr_head (command_terminal_of w.token) s.operand.expr ≡ Some (make s.operand.expr) =
    ap (λ m. expr_head m s.operand.expr) (command-lexeme w.token (kind.Word, word) w.kind_is w.text_is)
    ∙ heads s.operand.expr in
    subst (λ l. HeadSpelled blocks l (HeadOfExpr make e)) (sym w.are) (record {
      head = make s.operand.expr;
      depths = 0 ∷ s.depths;
      words = false ∷ no_words w.rest;
      spells = SpellsHead.expression_ w.token w.rest s.depths s.operand (make s.operand.expr) s.spells is;
      said = record { expr = s.operand.expr; is = refl; alike = s.alike };
      within = (omega (arith, le), s.within);
      names = λ rest none. (tt, names_none w.rest rest);
      each = same_none w.rest;
    })

-- which says it as a whole
pub whole_head : (make : code.Expr → CommandForm) (e : Expr) (h : Head) → HeadOfExpr (λ x. head.Whole (make x)) e h
    → IsWhole h terminal.End (SaysExpr make e)
whole_head make e h s = record {
  form = make s.expr;
  is = ap (λ h. form_at h no_attributes terminal.End) s.is;
  said = record { expr = s.expr; is = refl; alike = s.alike };
}

pub head_as : (blocks : ℕ) (us : List Token) (Q R : Head → Type 0) → ((h : Head) → Q h → R h) → HeadSpelled blocks us Q
    → HeadSpelled blocks us R
head_as blocks us Q R then_ h = record {
  head = h.head;
  depths = h.depths;
  words = h.words;
  spells = h.spells;
  said = then_ h.head h.said;
  within = h.within;
  names = h.names;
  each = h.each;
}

pub end_is : lexeme_command end_lexeme ≡ terminal.End
end_is = refl

-- a command of a word and an expression
pub expr_command : (blocks : ℕ) (ts : List Token) (word : List ℕ) (make : code.Expr → CommandForm) (e : Expr)
    → blocks ≤ 64 → is_formed_expr e ≡ true → blocks + expr_height e ≤ 64
    → ((x : code.Expr) → expr_head (lexeme_command (kind.Word, word)) x ≡ Some (head.Whole (make x)))
    → lexemes ts ≡ braced ((kind.Word, word) ∷ expr_lexemes e) → CommandSpelled blocks ts (SaysExpr make e)
expr_command blocks ts word make e le f within heads same =
    bare_spelled blocks ts ((kind.Word, word) ∷ expr_lexemes e) end_lexeme (SaysExpr make e) le refl
    (λ us own. head_as blocks us (HeadOfExpr (λ x. head.Whole (make x)) e) (λ h. IsWhole h terminal.End
    (SaysExpr make e))
    (whole_head make e) (word_head blocks us word (λ x. head.Whole (make x)) e le f within heads own)) same

-- what the words of these commands are

pub if_head : (x : code.Expr) → expr_head (lexeme_command (kind.Word, codes "if")) x
    ≡ Some (head.Whole (says.Opens (opening.If x)))
unfolding lib.Utf8.encode
if_head x = refl

pub elseif_head : (x : code.Expr) → expr_head (lexeme_command (kind.Word, codes "elseif")) x
    ≡ Some (head.Whole (says.GoesOn (middle.ElseIf x)))
unfolding lib.Utf8.encode
elseif_head x = refl

pub print_head : (x : code.Expr) → expr_head (lexeme_command (kind.Word, codes "print")) x
    ≡ Some (head.Whole (says.Single (single.Print x)))
unfolding lib.Utf8.encode
print_head x = refl

pub switch_head : (x : code.Expr) → expr_head (lexeme_command (kind.Word, codes "switch")) x
    ≡ Some (head.Whole (says.Opens (opening.Switch x)))
unfolding lib.Utf8.encode
switch_head x = refl

pub select_head : (x : code.Expr) → expr_head (lexeme_command (kind.Word, codes "select")) x
    ≡ Some (head.Whole (says.Opens (opening.Select x)))
unfolding lib.Utf8.encode
select_head x = refl

pub plural_head : (x : code.Expr) → expr_head (lexeme_command (kind.Word, codes "plural")) x ≡ Some (head.Plural x)
unfolding lib.Utf8.encode
plural_head x = refl

-- a print that begins with its expression
pub dollar_command : (blocks : ℕ) (ts : List Token) (e : Expr) → blocks ≤ 64 → is_formed_expr e ≡ true
    → blocks + expr_height e ≤ 64 → lexemes ts ≡ braced (expr_lexemes e)
    → CommandSpelled blocks ts (SaysExpr (λ x. says.Single (single.Print x)) e)
dollar_command blocks ts e le f within same =
    bare_spelled blocks ts (expr_lexemes e) end_lexeme (SaysExpr (λ x. says.Single (single.Print x)) e) le refl
    (λ us own. let s = spelled_within blocks e f within us own in record {
      head = head.Whole (says.Single (single.Print s.operand.expr));
      depths = s.depths;
      words = no_words us;
      spells = SpellsHead.printed_ us s.depths s.operand s.spells;
      said = record {
        form = says.Single (single.Print s.operand.expr);
        is = refl;
        said = record { expr = s.operand.expr; is = refl; alike = s.alike };
      };
      within = s.within;
      names = λ rest none. names_none us rest;
      each = same_none us;
    }) same
