-- Calls, and the commands of a file and of its templates: their lexemes spell what they are written for.
use Rattle.std.proofs.Common.{◌≡◌, ℕ, ◌≤◌, ◌==◌, Bool, true, false, if◌then◌else◌, List, [], ◌∷◌, ◌++◌}
use Rattle.std.proofs.Common.{Some, refl, sym, ap, subst, ◌∙◌, append_assoc, append-nil, cond}
use Rattle.std.specs.Prelude.{codes, encode_utf8_all}
use Rattle.std.specs.List.{join_with_byte, onto_first, slice_split}
use Rattle.std.proofs.lemmas.List.Splits.{join_with_byte-slice_split}
use Rattle.soy_lexer.specs.declared.token.Token.{Token}
use Rattle.soy_lexer.specs.declared.token.TokenKind.TheVariants as kind
use Rattle.soy_tree.specs.Types.{Name}
use Rattle.soy_parser.specs.declared.attributes.AttributeName.TheVariants as attribute
use Rattle.soy_parser.specs.declared.attributes.Attributes.{Attributes}
use Rattle.soy_parser.specs.declared.command.CommandForm.{CommandForm}
use Rattle.soy_parser.specs.declared.command.CommandForm.TheVariants as says
use Rattle.soy_parser.specs.declared.command.Opening.TheVariants as opening
use Rattle.soy_parser.specs.declared.command.Single.TheVariants as single
use Rattle.soy_parser.specs.declared.head.Head.TheVariants as head
use Rattle.soy_parser.specs.declared.terminal.CommandTerminal.{CommandTerminal}
use Rattle.soy_parser.specs.declared.terminal.CommandTerminal.TheVariants as terminal
use Rattle.soy_parser.specs.declared.terminal.CommandWord.TheVariants as word
use Rattle.soy_parser.specs.CommandTerminals.{command_terminal_of, command_word}
use Rattle.soy_parser.specs.Depth.{none_deep}
use Rattle.soy_parser.specs.Heads.{SpellsAttributes, attribute_name, form_at, no_attributes}
use Rattle.soy_parser.specs.SpellsHead.{SpellsDot, SpellsDotted, SpellsHead}
use Rattle.soy_parser.specs.TypeWords.{no_words}
use Rattle.formatted_source.specs.CommandPieces.{braced, data_lexemes, dotted_lexemes, end_lexeme, names_lexemes}
use Rattle.formatted_source.specs.CommandPieces.{slash_end_lexeme, slashed}
use Rattle.formatted_source.specs.Lexemes.{Lexeme, lexemes}
use Rattle.formatted_source.proofs.Commands.AttributeCommands.{one_attribute}
use Rattle.formatted_source.proofs.Commands.CommandTerms.{BeginPlain, CommandSpelled, FormSaid, HeadSpelled, IsWhole}
use Rattle.formatted_source.proofs.Commands.CommandTerms.{bare_spelled}
use Rattle.formatted_source.proofs.Commands.CommandTerms.{command_spelled, command-lexeme, lexeme_command, names_none}
use Rattle.formatted_source.proofs.Commands.CommandTerms.{same_none}
use Rattle.formatted_source.proofs.Commands.CommandTerms.{within_none}
use Rattle.formatted_source.proofs.LexemeLists.{begun}

is_as : (t : Token) (l : Lexeme) (m : CommandTerminal) → t.kind ≡ l.0 → t.text ≡ l.1 → lexeme_command l ≡ m
    → command_terminal_of t ≡ m
is_as t l m k e is = command-lexeme t l k e ∙ is

dot_is : lexeme_command (kind.Symbol, codes ".") ≡ terminal.Dot
unfolding lib.Utf8.encode
dot_is = refl

call_is : lexeme_command (kind.Word, codes "call") ≡ terminal.Word word.Call
unfolding lib.Utf8.encode
call_is = refl

namespace_is : lexeme_command (kind.Word, codes "namespace") ≡ terminal.Word word.Namespace
unfolding lib.Utf8.encode
namespace_is = refl

data_attribute : attribute_name (lexeme_command (kind.Word, codes "data")) ≡ Some attribute.Data
unfolding lib.Utf8.encode
data_attribute = refl

-- names joined by `.`, after those so far
abbrev more_names : List Name → List Lexeme
more_names [] = []
more_names (name ∷ names) = (kind.Symbol, codes ".") ∷ ((kind.Word, name) ∷ more_names names)

abbrev more_text : List Name → List ℕ
more_text [] = []
more_text (name ∷ names) = 46 ∷ (name ++ more_text names)

names_are : (name : Name) (names : List Name) → names_lexemes (name ∷ names) ≡ (kind.Word, name) ∷ more_names names
names_are name [] = refl
names_are name (next ∷ names) = ap (λ l. (kind.Word, name) ∷ ((kind.Symbol, codes ".") ∷ l)) (names_are next names)

text_are : (name : Name) (names : List Name) → join_with_byte 46 (name ∷ names) ≡ name ++ more_text names
text_are name [] = sym (append-nil name)
text_are name (next ∷ names) = ap (λ l. name ++ (46 ∷ l)) (text_are next names)

dotted_on : (ts us : List Token) (text : List ℕ) (names : List Name) → SpellsDotted ts text
    → lexemes us ≡ more_names names → SpellsDotted (ts ++ us) (text ++ more_text names)
dotted_on ts us text [] d same =
    subst (λ l. SpellsDotted l (text ++ [])) (sym (ap (λ l. ts ++ l) (no_tokens us same) ∙ append-nil ts))
    (subst (SpellsDotted ts) (sym (append-nil text)) d)
  where
    no_tokens : (us : List Token) → lexemes us ≡ [] → us ≡ []
    no_tokens [] e = refl
    no_tokens (u ∷ us) e = absurd (cc)
dotted_on ts us text (name ∷ names) d same =
    let p = begun us (kind.Symbol, codes ".") ((kind.Word, name) ∷ more_names names) same in
    let w = begun p.rest (kind.Word, name) (more_names names) p.rests in
    let next : SpellsDotted (ts ++ (p.token ∷ (w.token ∷ []))) (text ++ (46 ∷ name)) =
    subst (λ x. SpellsDotted (ts ++ (p.token ∷ (w.token ∷ []))) (text ++ (46 ∷ x))) w.text_is
    (SpellsDotted.more_ ts text p.token w.token (command_word (encode_utf8_all name)) d
    (is_as p.token (kind.Symbol, codes ".") _ p.kind_is p.text_is dot_is)
    (is_as w.token (kind.Word, name) _ w.kind_is w.text_is refl)) in
    let are : ts ++ us ≡ (ts ++ (p.token ∷ (w.token ∷ []))) ++ w.rest =
    ap (λ l. ts ++ l) (p.are ∙ ap (λ l. p.token ∷ l) w.are) ∙ sym (append_assoc ts (p.token ∷ (w.token ∷ [])) w.rest) in
    subst (λ l. SpellsDotted l (text ++ (46 ∷ (name ++ more_text names)))) (sym are)
    (subst (SpellsDotted ((ts ++ (p.token ∷ (w.token ∷ []))) ++ w.rest)) (append_assoc text (46 ∷ name)
    (more_text names))
    (dotted_on (ts ++ (p.token ∷ (w.token ∷ []))) w.rest (text ++ (46 ∷ name)) names next w.rests))

record HasPart (parts : List (List ℕ)) : Type 0 where
  pub first : List ℕ
  pub more : List (List ℕ)
  pub are : parts ≡ first ∷ more

cut_parts : (test : ℕ → Bool) (text : List ℕ) → HasPart (slice_split test text)
cut_parts test [] = record { first = []; more = []; are = refl }
cut_parts test (c ∷ cs) = over (test c) (slice_split test cs) (cut_parts test cs) refl
  where
    over : (t : Bool) (parts : List (List ℕ)) → HasPart parts → slice_split test cs ≡ parts
        → HasPart (cond t ([] ∷ slice_split test cs) (onto_first c (slice_split test cs)))
    over true parts s e = record { first = []; more = slice_split test cs; are = refl }
    over false parts s e = record { first = c ∷ s.first; more = s.more; are = ap (onto_first c) (e ∙ s.are) }

-- a dotted name
dotted_spelled : (us : List Token) (name : Name) → lexemes us ≡ dotted_lexemes name → SpellsDotted us name
dotted_spelled us name same =
    let p = cut_parts (λ c. c == 46) name in
    let own = begun us (kind.Word, p.first) (more_names p.more)
    (same ∙ (ap names_lexemes p.are ∙ names_are p.first p.more)) in
    let first : SpellsDotted (own.token ∷ []) p.first =
    subst (SpellsDotted (own.token ∷ [])) own.text_is
    (SpellsDotted.one_ own.token (command_word (encode_utf8_all p.first))
    (is_as own.token (kind.Word, p.first) _ own.kind_is own.text_is refl)) in
    let whole = dotted_on (own.token ∷ []) own.rest p.first p.more first own.rests in
    let text_is : p.first ++ more_text p.more ≡ name =
    sym (text_are p.first p.more) ∙ (ap (join_with_byte 46) (sym p.are) ∙ join_with_byte-slice_split 46 name) in
    subst (λ l. SpellsDotted l name) (sym own.are) (subst (SpellsDotted (own.token ∷ own.rest)) text_is whole)

call_head : (blocks : ℕ) (us : List Token) (name : Name) → blocks ≤ 64
    → lexemes us ≡ (kind.Word, codes "call") ∷ dotted_lexemes name → HeadSpelled blocks us (λ h. h ≡ head.Call name)
call_head blocks us name le same =
    let w = begun us (kind.Word, codes "call") (dotted_lexemes name) same in
    subst (λ l. HeadSpelled blocks l (λ h. h ≡ head.Call name)) (sym w.are) (record {
      head = head.Call name;
      depths = none_deep (w.token ∷ w.rest);
      words = no_words (w.token ∷ w.rest);
      spells = SpellsHead.call_ w.token [] w.rest name
          (is_as w.token (kind.Word, codes "call") _ w.kind_is w.text_is call_is) SpellsDot.without_
          (dotted_spelled w.rest name w.rests);
      said = refl;
      within = within_none blocks (w.token ∷ w.rest) le;
      names = λ rest none. names_none (w.token ∷ w.rest) rest;
      each = same_none (w.token ∷ w.rest);
    })

abbrev with_all : Attributes
with_all = record no_attributes { all = true }

-- with what it says about all data, and its end
call_form : (name : Name) (all : Bool) (vs : List Token) (end : CommandTerminal) (of : CommandForm)
    → form_at (head.Call name) (if all then with_all else no_attributes) end ≡ Some of
    → lexemes vs ≡ data_lexemes all → FormSaid (head.Call name) vs end (λ f. f ≡ of)
call_form name true vs end of is same = record {
  attributes = with_all;
  spells = one_attribute (head.Call name) [] vs no_attributes with_all (codes "data") (codes "all") attribute.Data
      (SpellsAttributes.none_ (head.Call name)) data_attribute refl refl same;
  form = of;
  is = is;
  said = refl;
}
call_form name false vs end of is same = record {
  attributes = no_attributes;
  spells = subst (λ l. SpellsAttributes (head.Call name) l no_attributes) (sym (no_tokens vs same))
      (SpellsAttributes.none_ (head.Call name));
  form = of;
  is = is;
  said = refl;
}
  where
    no_tokens : (us : List Token) → lexemes us ≡ [] → us ≡ []
    no_tokens [] e = refl
    no_tokens (u ∷ us) e = absurd (cc)

all_opens : (name : Name) (all : Bool) → form_at (head.Call name) (if all then with_all else no_attributes) terminal.End
    ≡ Some (says.Opens (opening.Call name all))
all_opens name true = refl
all_opens name false = refl

all_alone : (name : Name) (all : Bool)
    → form_at (head.Call name) (if all then with_all else no_attributes) terminal.SlashEnd
    ≡ Some (says.Single (single.Call name all))
all_alone name true = refl
all_alone name false = refl

data_plain : (all : Bool) → BeginPlain (data_lexemes all)
data_plain true = refl
data_plain false = tt

pub call_opens : (blocks : ℕ) (ts : List Token) (name : Name) (all : Bool) → blocks ≤ 64
    → lexemes ts ≡ braced ((kind.Word, codes "call") ∷ (dotted_lexemes name ++ data_lexemes all))
    → CommandSpelled blocks ts (λ f. f ≡ says.Opens (opening.Call name all))
call_opens blocks ts name all le same =
    command_spelled blocks ts ((kind.Word, codes "call") ∷ dotted_lexemes name) (data_lexemes all) end_lexeme
    (λ h. h ≡ head.Call name) (λ f. f ≡ says.Opens (opening.Call name all)) le refl (data_plain all)
    (λ us own. call_head blocks us name le own)
    (λ h is vs own. subst (λ x. FormSaid x vs terminal.End (λ f. f ≡ says.Opens (opening.Call name all))) (sym is)
    (call_form name all vs terminal.End (says.Opens (opening.Call name all)) (all_opens name all) own)) same

pub call_alone : (blocks : ℕ) (ts : List Token) (name : Name) (all : Bool) → blocks ≤ 64
    → lexemes ts ≡ slashed ((kind.Word, codes "call") ∷ (dotted_lexemes name ++ data_lexemes all))
    → CommandSpelled blocks ts (λ f. f ≡ says.Single (single.Call name all))
call_alone blocks ts name all le same =
    command_spelled blocks ts ((kind.Word, codes "call") ∷ dotted_lexemes name) (data_lexemes all) slash_end_lexeme
    (λ h. h ≡ head.Call name) (λ f. f ≡ says.Single (single.Call name all)) le refl (data_plain all)
    (λ us own. call_head blocks us name le own)
    (λ h is vs own. subst (λ x. FormSaid x vs terminal.SlashEnd (λ f. f ≡ says.Single (single.Call name all))) (sym is)
    (call_form name all vs terminal.SlashEnd (says.Single (single.Call name all)) (all_alone name all) own)) same

pub namespace_command : (blocks : ℕ) (ts : List Token) (name : Name) → blocks ≤ 64
    → lexemes ts ≡ braced ((kind.Word, codes "namespace") ∷ dotted_lexemes name)
    → CommandSpelled blocks ts (λ f. f ≡ says.Namespace name)
namespace_command blocks ts name le same =
    bare_spelled blocks ts ((kind.Word, codes "namespace") ∷ dotted_lexemes name) end_lexeme
    (λ f. f ≡ says.Namespace name) le refl
    (λ us own.
    let w = begun us (kind.Word, codes "namespace") (dotted_lexemes name) own in
    subst (λ l. HeadSpelled blocks l (λ h. IsWhole h terminal.End (λ f. f ≡ says.Namespace name))) (sym w.are) (record {
      head = head.Whole (says.Namespace name);
      depths = none_deep (w.token ∷ w.rest);
      words = no_words (w.token ∷ w.rest);
      spells = SpellsHead.namespace_ w.token w.rest name
          (is_as w.token (kind.Word, codes "namespace") _ w.kind_is w.text_is namespace_is)
          (dotted_spelled w.rest name w.rests);
      said = record { form = says.Namespace name; is = refl; said = refl };
      within = within_none blocks (w.token ∷ w.rest) le;
      names = λ rest none. names_none (w.token ∷ w.rest) rest;
      each = same_none (w.token ∷ w.rest);
    })) same
