-- Prints of messages and plurals: their lexemes spell what they are written for.
use Rattle.std.proofs.Common.{◌≡◌, ℕ, ◌+◌, ◌≤◌, ◌<◌, ◌^◌, ◌==◌, Bool, true, false, if◌then◌else◌, List, [], ◌∷◌, ◌++◌}
use Rattle.std.proofs.Common.{Option, Some, None, refl, sym, ap, subst, ◌∙◌, arith, append_assoc}
use Rattle.std.specs.Prelude.{codes}
use Rattle.std.specs.Fmt.{decimal}
use Rattle.std.proofs.lemmas.Bool.Decides.{nat_tests}
use Rattle.soy_base.specs.Names.{is_name}
use Rattle.soy_base.specs.Limits.{largest}
use Rattle.soy_lexer.specs.declared.token.Token.{Token}
use Rattle.soy_lexer.specs.declared.token.TokenKind.TheVariants as kind
use Rattle.soy_tree.specs.Expressions.{Expr}
use Rattle.soy_tree.specs.Formed.{if_there, is_formed_expr}
use Rattle.soy_tree.specs.Types.{Name}
use Rattle.soy_tree.specs.declared.expr.Expr as code
use Rattle.soy_parser.specs.declared.attributes.AttributeName.TheVariants as attribute
use Rattle.soy_parser.specs.declared.attributes.Attributes.{Attributes}
use Rattle.soy_parser.specs.declared.command.CommandForm.{CommandForm}
use Rattle.soy_parser.specs.declared.command.CommandForm.TheVariants as says
use Rattle.soy_parser.specs.declared.command.Opening.TheVariants as opening
use Rattle.soy_parser.specs.declared.command.Single.TheVariants as single
use Rattle.soy_parser.specs.declared.head.Head.{Head}
use Rattle.soy_parser.specs.declared.head.Head.TheVariants as head
use Rattle.soy_parser.specs.declared.terminal.CommandTerminal.TheVariants as terminal
use Rattle.soy_parser.specs.declared.terminal.CommandWord.TheVariants as word
use Rattle.soy_parser.specs.Heads.{SpellsAttributes, attribute_name, form_at, no_attributes, with_attribute}
use Rattle.soy_parser.specs.SpellsHead.{SpellsHead}
use Rattle.soy_parser.specs.TypeWords.{no_words}
use Rattle.formatted_source.specs.CommandPieces.{attribute_lexemes, braced, end_lexeme, offset_lexemes, phname_lexemes}
use Rattle.formatted_source.specs.CommandPieces.{print_word}
use Rattle.formatted_source.specs.ExprLexemes.{expr_lexemes}
use Rattle.formatted_source.specs.Lexemes.{lexemes}
use Rattle.formatted_source.proofs.Commands.AttributeCommands.{one_attribute}
use Rattle.formatted_source.proofs.Commands.CaseCommands.{decimal_int}
use Rattle.formatted_source.proofs.Commands.CommandTerms.{BeginPlain, CommandSpelled, FormSaid, HeadSpelled}
use Rattle.formatted_source.proofs.Commands.CommandTerms.{command_spelled, command-lexeme, lexeme_command, names_none}
use Rattle.formatted_source.proofs.Commands.CommandTerms.{same_none}
use Rattle.formatted_source.proofs.Commands.ExprCommands.{HeadOfExpr, SaysExpr, plural_head, word_head}
use Rattle.formatted_source.proofs.Written.Ints.{number-decimal}
use Rattle.formatted_source.proofs.LexemeLists.{begun}
use Rattle.formatted_source.proofs.ReadParts.{spelled_within}
use Rattle.formatted_source.proofs.Fitting.WrittenHeight.{expr_height}

print_is : lexeme_command (kind.Word, codes "print") ≡ terminal.Word word.Print
unfolding lib.Utf8.encode
print_is = refl

phname_attribute : attribute_name (lexeme_command (kind.Word, codes "phname")) ≡ Some attribute.Phname
unfolding lib.Utf8.encode
phname_attribute = refl

offset_attribute : attribute_name (lexeme_command (kind.Word, codes "offset")) ≡ Some attribute.Offset
unfolding lib.Utf8.encode
offset_attribute = refl

no_tokens : (us : List Token) → lexemes us ≡ [] → us ≡ []
no_tokens [] e = refl
no_tokens (u ∷ us) e = absurd (cc)

-- no attributes
no_form : (h : Head) (vs : List Token) (P : CommandForm → Type 0) (of : CommandForm)
    → form_at h no_attributes terminal.End ≡ Some of → P of → lexemes vs ≡ [] → FormSaid h vs terminal.End P
no_form h vs P of is said same = record {
  attributes = no_attributes;
  spells = subst (λ l. SpellsAttributes h l no_attributes) (sym (no_tokens vs same)) (SpellsAttributes.none_ h);
  form = of;
  is = is;
  said = said;
}

-- a print's name
abbrev with_name : Name → Attributes
with_name name = record no_attributes { phname = Some name }

own_name : (name : Name) → is_name name ≡ true
    → with_attribute no_attributes attribute.Phname name ≡ Some (with_name name)
own_name name is = rw is refl

phname_plain : (phname : Option Name) → BeginPlain (phname_lexemes phname)
phname_plain None = tt
phname_plain (Some name) = refl

name_form : (x : code.Expr) (phname : Option Name) (vs : List Token) → if_there is_name phname ≡ true
    → lexemes vs ≡ phname_lexemes phname
    → FormSaid (head.MessagePrint x) vs terminal.End (λ f. f ≡ says.Single (single.MessagePrint x phname))
name_form x None vs is same =
    no_form (head.MessagePrint x) vs (λ f. f ≡ says.Single (single.MessagePrint x None))
    (says.Single (single.MessagePrint x None)) refl refl same
name_form x (Some name) vs is same = record {
  attributes = with_name name;
  spells = one_attribute (head.MessagePrint x) [] vs no_attributes (with_name name)
      (codes "phname") name attribute.Phname
      (SpellsAttributes.none_ (head.MessagePrint x)) phname_attribute refl (own_name name is) same;
  form = says.Single (single.MessagePrint x (Some name));
  is = refl;
  said = refl;
}

print_head : (blocks : ℕ) (us : List Token) (dollar : Bool) (e : Expr) → blocks ≤ 64 → is_formed_expr e ≡ true
    → blocks + expr_height e ≤ 64 → lexemes us ≡ print_word dollar ++ expr_lexemes e
    → HeadSpelled blocks us (HeadOfExpr head.MessagePrint e)
print_head blocks us true e le f within same =
    let s = spelled_within blocks e f within us same in record {
      head = head.MessagePrint s.operand.expr;
      depths = s.depths;
      words = no_words us;
      spells = SpellsHead.message_printed_ us s.depths s.operand s.spells;
      said = record { expr = s.operand.expr; is = refl; alike = s.alike };
      within = s.within;
      names = λ rest none. names_none us rest;
      each = same_none us;
    }
print_head blocks us false e le f within same =
    let w = begun us (kind.Word, codes "print") (expr_lexemes e) same in
    let s = spelled_within blocks e f within w.rest w.rests in
    subst (λ l. HeadSpelled blocks l (HeadOfExpr head.MessagePrint e)) (sym w.are) (record {
      head = head.MessagePrint s.operand.expr;
      depths = 0 ∷ s.depths;
      words = false ∷ no_words w.rest;
      spells = SpellsHead.message_print_ w.token w.rest s.depths s.operand
          (command-lexeme w.token (kind.Word, codes "print") w.kind_is w.text_is ∙ print_is) s.spells;
      said = record { expr = s.operand.expr; is = refl; alike = s.alike };
      within = (omega (arith, le), s.within);
      names = λ rest none. (tt, names_none w.rest rest);
      each = same_none w.rest;
    })

pub message_print : (blocks : ℕ) (ts : List Token) (dollar : Bool) (e : Expr) (phname : Option Name) → blocks ≤ 64
    → is_formed_expr e ≡ true → if_there is_name phname ≡ true → blocks + expr_height e ≤ 64
    → lexemes ts ≡ braced (print_word dollar ++ (expr_lexemes e ++ phname_lexemes phname))
    → CommandSpelled blocks ts (SaysExpr (λ x. says.Single (single.MessagePrint x phname)) e)
message_print blocks ts dollar e phname le f is within same =
    command_spelled blocks ts (print_word dollar ++ expr_lexemes e) (phname_lexemes phname) end_lexeme
    (HeadOfExpr head.MessagePrint e) (SaysExpr (λ x. says.Single (single.MessagePrint x phname)) e) le refl
    (phname_plain phname) (λ us own. print_head blocks us dollar e le f within own)
    (λ h s vs own.
    let n = name_form s.expr phname vs is own in
    subst (λ x. FormSaid x vs terminal.End (SaysExpr (λ x. says.Single (single.MessagePrint x phname)) e)) (sym s.is)
    (record {
      attributes = n.attributes;
      spells = n.spells;
      form = n.form;
      is = n.is;
      said = record { expr = s.expr; is = n.said; alike = s.alike };
    }))
    (same ∙ ap braced (sym (append_assoc (print_word dollar) (expr_lexemes e) (phname_lexemes phname))))

-- a plural's offset
abbrev with_number : ℕ → Attributes
with_number n = record no_attributes { offset = Some n }

own_offset : (n : ℕ) → n ≤ largest
    → with_attribute no_attributes attribute.Offset (decimal n) ≡ Some (with_number n)
own_offset n within =
    let small : n < 2 ^ 64 = omega arith in
    rw (decimal_int n within) (ap (λ m. Some (with_number m)) (number-decimal n small))

offset_plain : (t : Bool) (n : ℕ) → BeginPlain (if t then [] else attribute_lexemes (codes "offset") (decimal n))
offset_plain true n = tt
offset_plain false n = refl

offset_form : (t : Bool) (x : code.Expr) (n : ℕ) (vs : List Token) → (n == 0) ≡ t → n ≤ largest
    → lexemes vs ≡ (if t then [] else attribute_lexemes (codes "offset") (decimal n))
    → FormSaid (head.Plural x) vs terminal.End (λ f. f ≡ says.Opens (opening.Plural x n))
offset_form true x n vs zero within same =
    let none : 0 ≡ n = grind (arith, nat_tests, zero) in
    no_form (head.Plural x) vs (λ f. f ≡ says.Opens (opening.Plural x n)) (says.Opens (opening.Plural x 0)) refl
    (ap (λ m. says.Opens (opening.Plural x m)) none) same
offset_form false x n vs some within same = record {
  attributes = with_number n;
  spells = one_attribute (head.Plural x) [] vs no_attributes (with_number n) (codes "offset")
      (decimal n) attribute.Offset
      (SpellsAttributes.none_ (head.Plural x)) offset_attribute refl (own_offset n within) same;
  form = says.Opens (opening.Plural x n);
  is = refl;
  said = refl;
}

pub plural_command : (blocks : ℕ) (ts : List Token) (e : Expr) (offset : ℕ) → blocks ≤ 64 → is_formed_expr e ≡ true
    → blocks + expr_height e ≤ 64 → offset ≤ largest
    → lexemes ts ≡ braced ((kind.Word, codes "plural") ∷ (expr_lexemes e ++ offset_lexemes offset))
    → CommandSpelled blocks ts (SaysExpr (λ x. says.Opens (opening.Plural x offset)) e)
plural_command blocks ts e offset le f within small same =
    command_spelled blocks ts ((kind.Word, codes "plural") ∷ expr_lexemes e) (offset_lexemes offset) end_lexeme
    (HeadOfExpr head.Plural e) (SaysExpr (λ x. says.Opens (opening.Plural x offset)) e) le refl
    (offset_plain (offset == 0) offset)
    (λ us own. word_head blocks us (codes "plural") head.Plural e le f within plural_head own)
    (λ h s vs own.
    let n = offset_form (offset == 0) s.expr offset vs refl small own in
    subst (λ x. FormSaid x vs terminal.End (SaysExpr (λ x. says.Opens (opening.Plural x offset)) e)) (sym s.is)
    (record {
      attributes = n.attributes;
      spells = n.spells;
      form = n.form;
      is = n.is;
      said = record { expr = s.expr; is = n.said; alike = s.alike };
    })) same
