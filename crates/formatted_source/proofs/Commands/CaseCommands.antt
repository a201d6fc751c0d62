-- Cases: their lexemes spell what they are written for.
use Rattle.std.proofs.Common.{◌≡◌, ℕ, pos, zero, suc, ◌+◌, ◌≤◌, ◌<◌, ◌^◌, ◌==◌, nat_le, true, false, List, [], ◌∷◌}
use Rattle.std.proofs.Common.{◌++◌, map, refl, sym, ap, subst, ◌∙◌, arith, append_assoc, append-nil, get_or}
use Rattle.std.specs.Prelude.{codes}
use Rattle.std.specs.Char.{is_ascii_digit}
use Rattle.std.specs.Fmt.{decimal}
use Rattle.std.specs.List.{list_all}
use Rattle.std.proofs.lemmas.Bool.Decides.{nat_tests}
use Rattle.std.proofs.lemmas.Fmt.{decimal_digit, first_decimal}
use Rattle.std.proofs.lemmas.List.{map-append}
use Rattle.soy_lexer.specs.CommandSegment.{number_after}
use Rattle.soy_base.specs.Limits.{largest}
use Rattle.soy_lexer.specs.LongestToken.{is_int}
use Rattle.soy_lexer.specs.declared.token.Token.{Token}
use Rattle.soy_lexer.specs.declared.token.TokenKind.TheVariants as kind
use Rattle.soy_tree.specs.Expressions.{Expr}
use Rattle.soy_tree.specs.Formed.{is_case_word, is_formed_expr}
use Rattle.soy_tree.specs.ViewExpressions.{view_expr}
use Rattle.soy_tree.specs.declared.expr.Expr as code
use Rattle.expr_parser.specs.Depths.{AreWithin}
use Rattle.soy_parser.specs.declared.command.CommandForm.{CommandForm}
use Rattle.soy_parser.specs.declared.command.CommandForm.TheVariants as says
use Rattle.soy_parser.specs.declared.command.Middle.TheVariants as middle
use Rattle.soy_parser.specs.declared.head.Head.TheVariants as head
use Rattle.soy_parser.specs.declared.terminal.CommandTerminal.{CommandTerminal}
use Rattle.soy_parser.specs.declared.terminal.CommandTerminal.TheVariants as terminal
use Rattle.soy_parser.specs.declared.terminal.CommandWord.TheVariants as word
use Rattle.soy_parser.specs.CommandTerminals.{command_terminal_of}
use Rattle.soy_parser.specs.SpellsHead.{SpellsHead, SpellsCaseWords, SpellsInts, SpellsValues}
use Rattle.soy_parser.specs.TypeWords.{no_words}
use Rattle.soy_format.specs.WithoutSpans.{expr_without_spans}
use Rattle.formatted_source.specs.CommandPieces.{braced, end_lexeme, more_values_lexemes, values_lexemes}
use Rattle.formatted_source.proofs.Fitting.WrittenHeight.{expr_height}
use Rattle.formatted_source.specs.ExprLexemes.{expr_lexemes}
use Rattle.formatted_source.specs.Lexemes.{Lexeme, lexemes}
use Rattle.formatted_source.proofs.Commands.CommandTerms.{CommandSpelled, HeadSpelled, IsWhole, bare_spelled}
use Rattle.formatted_source.proofs.Commands.CommandTerms.{command-lexeme, lexeme_command, names_none, same_none}
use Rattle.formatted_source.proofs.Commands.CommandTerms.{within_append}
use Rattle.formatted_source.proofs.Written.Ints.{digits-decimal, number-decimal}
use Rattle.formatted_source.proofs.LexemeLists.{alone, begun, split}
use Rattle.formatted_source.proofs.Written.Names.{both}
use Rattle.formatted_source.proofs.ReadParts.{spelled_within}

case_is : lexeme_command (kind.Word, codes "case") ≡ terminal.Word word.Case
unfolding lib.Utf8.encode
case_is = refl

comma_is : lexeme_command (kind.Symbol, codes ",") ≡ terminal.Comma
unfolding lib.Utf8.encode
comma_is = refl

is_as : (t : Token) (l : Lexeme) (m : CommandTerminal) → t.kind ≡ l.0 → t.text ≡ l.1 → lexeme_command l ≡ m
    → command_terminal_of t ≡ m
is_as t l m k e is = command-lexeme t l k e ∙ is

-- each expression's height is within the limit
abbrev pub AllLow : ℕ → List Expr → Type 0
AllLow blocks [] = Unit {0}
AllLow blocks (e ∷ es) = (blocks + expr_height e ≤ 64) × AllLow blocks es

-- values that are alike
abbrev pub alike_values : List code.Expr → List Expr
alike_values values = map (λ e. expr_without_spans (view_expr e)) values

-- values so far, and those to come
record ValuesSpelled (blocks : ℕ) (ts : List Token) (es : List Expr) : Type 0 where
  pub values : List code.Expr
  pub depths : List ℕ
  pub spells : SpellsValues ts depths values
  pub within : AreWithin blocks depths
  pub alike : alike_values values ≡ map expr_without_spans es

more_values : (blocks : ℕ) (ts us : List Token) (es fs : List Expr) → blocks ≤ 64 → ValuesSpelled blocks ts es
    → list_all is_formed_expr fs ≡ true → AllLow blocks fs → lexemes us ≡ more_values_lexemes fs
    → ValuesSpelled blocks (ts ++ us) (es ++ fs)
more_values blocks ts us es [] le so f low same =
    subst (λ l. ValuesSpelled blocks l (es ++ [])) (sym (ap (λ l. ts ++ l) (no_tokens us same) ∙ append-nil ts))
    (subst (ValuesSpelled blocks ts) (sym (append-nil es)) so)
  where
    no_tokens : (us : List Token) → lexemes us ≡ [] → us ≡ []
    no_tokens [] e = refl
    no_tokens (u ∷ us) e = absurd (cc)
more_values blocks ts us es (e ∷ fs) le so f low same =
    let parts = both (is_formed_expr e) (list_all is_formed_expr fs) f in
    let c = begun us (kind.Symbol, codes ",") (expr_lexemes e ++ more_values_lexemes fs) same in
    let own = split c.rest (expr_lexemes e) (more_values_lexemes fs) c.rests in
    let s = spelled_within blocks e parts.0 low.0 own.first own.firsts in
    let next : ValuesSpelled blocks (ts ++ (c.token ∷ own.first)) (es ++ (e ∷ [])) = record {
      values = so.values ++ (s.operand.expr ∷ []);
      depths = so.depths ++ (0 ∷ s.depths);
      spells = SpellsValues.more_ ts own.first so.depths s.depths so.values c.token s.operand so.spells
          (is_as c.token (kind.Symbol, codes ",") _ c.kind_is c.text_is comma_is) s.spells;
      within = within_append blocks so.depths (0 ∷ s.depths) so.within (omega (arith, le), s.within);
      alike = map-append (λ e. expr_without_spans (view_expr e)) so.values (s.operand.expr ∷ [])
          ∙ (ap (λ l. l ++ (expr_without_spans (view_expr s.operand.expr) ∷ [])) so.alike
          ∙ (ap (λ x. map expr_without_spans es ++ (x ∷ [])) s.alike
          ∙ sym (map-append expr_without_spans es (e ∷ []))));
    } in
    let rest = more_values blocks (ts ++ (c.token ∷ own.first)) own.second (es ++ (e ∷ [])) fs le next parts.1 low.1
    own.seconds in
    let are : ts ++ us ≡ (ts ++ (c.token ∷ own.first)) ++ own.second =
    ap (λ l. ts ++ l) (c.are ∙ ap (λ l. c.token ∷ l) own.are)
    ∙ sym (append_assoc ts (c.token ∷ own.first) own.second) in
    subst (λ l. ValuesSpelled blocks l (es ++ (e ∷ fs))) (sym are)
    (subst (ValuesSpelled blocks ((ts ++ (c.token ∷ own.first)) ++ own.second)) (append_assoc es (e ∷ []) fs) rest)

values_spelled : (blocks : ℕ) (ts : List Token) (e : Expr) (es : List Expr) → blocks ≤ 64
    → list_all is_formed_expr (e ∷ es) ≡ true → AllLow blocks (e ∷ es) → lexemes ts ≡ values_lexemes (e ∷ es)
    → ValuesSpelled blocks ts (e ∷ es)
values_spelled blocks ts e es le f low same =
    let parts = both (is_formed_expr e) (list_all is_formed_expr es) f in
    let own = split ts (expr_lexemes e) (more_values_lexemes es) same in
    let s = spelled_within blocks e parts.0 low.0 own.first own.firsts in
    subst (λ l. ValuesSpelled blocks l (e ∷ es)) (sym own.are)
    (more_values blocks own.first own.second (e ∷ []) es le (record {
      values = s.operand.expr ∷ [];
      depths = s.depths;
      spells = SpellsValues.one_ own.first s.depths s.operand s.spells;
      within = s.within;
      alike = ap (λ x. x ∷ []) s.alike;
    }) parts.1 low.1 own.seconds)

-- a case says values that are alike to these
pub record SaysValues (es : List Expr) (f : CommandForm) : Type 0 where
  pub values : List code.Expr
  pub is : f ≡ says.GoesOn (middle.Case values)
  pub alike : alike_values values ≡ map expr_without_spans es

pub case_command : (blocks : ℕ) (ts : List Token) (e : Expr) (es : List Expr) → blocks ≤ 64
    → list_all is_formed_expr (e ∷ es) ≡ true → AllLow blocks (e ∷ es)
    → lexemes ts ≡ braced ((kind.Word, codes "case") ∷ values_lexemes (e ∷ es))
    → CommandSpelled blocks ts (SaysValues (e ∷ es))
case_command blocks ts e es le f low same =
    bare_spelled blocks ts ((kind.Word, codes "case") ∷ values_lexemes (e ∷ es)) end_lexeme (SaysValues
    (e ∷ es)) le refl
    (λ us own.
    let w = begun us (kind.Word, codes "case") (values_lexemes (e ∷ es)) own in
    let s = values_spelled blocks w.rest e es le f low w.rests in
    subst (λ l. HeadSpelled blocks l (λ h. IsWhole h terminal.End (SaysValues (e ∷ es)))) (sym w.are) (record {
      head = head.Whole (says.GoesOn (middle.Case s.values));
      depths = 0 ∷ s.depths;
      words = false ∷ no_words w.rest;
      spells = SpellsHead.case_ w.token w.rest s.depths s.values
          (is_as w.token (kind.Word, codes "case") _ w.kind_is w.text_is case_is) s.spells;
      said = record {
        form = says.GoesOn (middle.Case s.values);
        is = refl;
        said = record { values = s.values; is = refl; alike = s.alike };
      };
      within = (omega (arith, le), s.within);
      names = λ rest none. (tt, names_none w.rest rest);
      each = same_none w.rest;
    })) same

-- the digits of a number are an int
pub decimal_int : (n : ℕ) → n ≤ largest → is_int (decimal n) ≡ true
decimal_int zero within = ap is_int (decimal_digit 0 (omega arith))
decimal_int (suc n) within =
    let small : suc n < 2 ^ 64 = omega arith in
    over (decimal (suc n)) (digits-decimal (suc n) small) (first_decimal (suc n) (omega arith) small)
    (let same = number-decimal (suc n) small in omega (arith, same, within))
  where
    over : (ds : List ℕ) → list_all is_ascii_digit ds ≡ true → 48 < get_or ds 0 0 → number_after 0 ds ≤ largest
        → is_int ds ≡ true
    over [] all first le = absurd (omega arith)
    over (c ∷ cs) all first le =
        let other : (c == 48) ≡ false = grind (arith, nat_tests, first) in
        let fits : nat_le (number_after 0 (c ∷ cs)) largest ≡ true = grind (arith, nat_tests, le) in
        rw other (rw (all, fits) refl)

pub plural_case_command : (blocks : ℕ) (ts : List Token) (n : ℕ) → blocks ≤ 64 → n ≤ largest
    → lexemes ts ≡ braced ((kind.Word, codes "case") ∷ ((kind.Int, decimal n) ∷ []))
    → CommandSpelled blocks ts (λ f. f ≡ says.GoesOn (middle.PluralCase (pos n ∷ [])))
plural_case_command blocks ts n le within same =
    bare_spelled blocks ts ((kind.Word, codes "case") ∷ ((kind.Int, decimal n) ∷ [])) end_lexeme
    (λ f. f ≡ says.GoesOn (middle.PluralCase (pos n ∷ []))) le refl
    (λ us own.
    let w = begun us (kind.Word, codes "case") ((kind.Int, decimal n) ∷ []) own in
    let t = alone w.rest (kind.Int, decimal n) w.rests in
    let small : n < 2 ^ 64 = omega arith in
    let number : number_after 0 t.token.text ≡ n = ap (number_after 0) t.text_is ∙ number-decimal n small in
    let are : us ≡ w.token ∷ (t.token ∷ []) = w.are ∙ ap (λ l. w.token ∷ l) t.are in
    subst (λ l. HeadSpelled blocks l (λ h. IsWhole h terminal.End
    (λ f. f ≡ says.GoesOn (middle.PluralCase (pos n ∷ []))))) (sym are) (record {
      head = head.Whole (says.GoesOn (middle.PluralCase (pos (number_after 0 t.token.text) ∷ [])));
      depths = 0 ∷ (0 ∷ []);
      words = false ∷ (false ∷ []);
      spells = SpellsHead.plural_case_ w.token (t.token ∷ []) (pos (number_after 0 t.token.text) ∷ [])
          (is_as w.token (kind.Word, codes "case") _ w.kind_is w.text_is case_is)
          (SpellsInts.one_ t.token (is_as t.token (kind.Int, decimal n) _ t.kind_is t.text_is refl)
          (ap is_int t.text_is ∙ decimal_int n within));
      said = record {
        form = says.GoesOn (middle.PluralCase (pos (number_after 0 t.token.text) ∷ []));
        is = refl;
        said = ap (λ m. says.GoesOn (middle.PluralCase (pos m ∷ []))) number;
      };
      within = (omega (arith, le), (omega (arith, le), tt));
      names = λ rest none. (tt, (tt, tt));
      each = tt;
    })) same

pub select_case_command : (blocks : ℕ) (ts : List Token) (own_word : List ℕ) → blocks ≤ 64
    → is_case_word own_word ≡ true
    → lexemes ts ≡ braced ((kind.Word, codes "case") ∷ ((kind.Str, own_word) ∷ []))
    → CommandSpelled blocks ts (λ f. f ≡ says.GoesOn (middle.SelectCase (own_word ∷ [])))
select_case_command blocks ts own_word le case_ same =
    bare_spelled blocks ts ((kind.Word, codes "case") ∷ ((kind.Str, own_word) ∷ [])) end_lexeme
    (λ f. f ≡ says.GoesOn (middle.SelectCase (own_word ∷ []))) le refl
    (λ us own.
    let w = begun us (kind.Word, codes "case") ((kind.Str, own_word) ∷ []) own in
    let t = alone w.rest (kind.Str, own_word) w.rests in
    let are : us ≡ w.token ∷ (t.token ∷ []) = w.are ∙ ap (λ l. w.token ∷ l) t.are in
    subst (λ l. HeadSpelled blocks l (λ h. IsWhole h terminal.End
    (λ f. f ≡ says.GoesOn (middle.SelectCase (own_word ∷ []))))) (sym are) (record {
      head = head.Whole (says.GoesOn (middle.SelectCase (t.token.text ∷ [])));
      depths = 0 ∷ (0 ∷ []);
      words = false ∷ (false ∷ []);
      spells = SpellsHead.select_case_ w.token (t.token ∷ []) (t.token.text ∷ [])
          (is_as w.token (kind.Word, codes "case") _ w.kind_is w.text_is case_is)
          (SpellsCaseWords.one_ t.token (is_as t.token (kind.Str, own_word) _ t.kind_is t.text_is refl)
          (ap is_case_word t.text_is ∙ case_));
      said = record {
        form = says.GoesOn (middle.SelectCase (t.token.text ∷ []));
        is = refl;
        said = ap (λ m. says.GoesOn (middle.SelectCase (m ∷ []))) t.text_is;
      };
      within = (omega (arith, le), (omega (arith, le), tt));
      names = λ rest none. (tt, (tt, tt));
      each = tt;
    })) same
