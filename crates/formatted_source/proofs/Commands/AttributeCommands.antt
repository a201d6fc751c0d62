-- Commands with attributes: their lexemes spell what they are written for.
use Rattle.std.proofs.Common.{◌≡◌, ℕ, ◌≤◌, true, false}
use Rattle.std.proofs.Common.{List, [], ◌∷◌}
use Rattle.std.proofs.Common.{◌++◌, Some, refl, sym, ap, subst, ◌∙◌, arith}
use Rattle.std.specs.Prelude.{codes, encode_utf8_all}
use Rattle.soy_base.specs.declared.kind.Kind.{Kind}
use Rattle.soy_base.specs.declared.kind.Kind.TheVariants as block_kind
use Rattle.soy_lexer.specs.declared.token.Token.{Token}
use Rattle.soy_lexer.specs.declared.token.TokenKind.TheVariants as kind
use Rattle.soy_tree.specs.Types.{Name}
use Rattle.soy_parser.specs.declared.attributes.AttributeName.{AttributeName}
use Rattle.soy_parser.specs.declared.attributes.AttributeName.TheVariants as attribute
use Rattle.soy_parser.specs.declared.attributes.Attributes.{Attributes}
use Rattle.soy_parser.specs.declared.command.CommandForm.{CommandForm}
use Rattle.soy_parser.specs.declared.command.CommandForm.TheVariants as says
use Rattle.soy_parser.specs.declared.command.Middle.TheVariants as middle
use Rattle.soy_parser.specs.declared.command.Opening.TheVariants as opening
use Rattle.soy_parser.specs.declared.head.Head.{Head}
use Rattle.soy_parser.specs.declared.head.Head.TheVariants as head
use Rattle.soy_parser.specs.declared.terminal.CommandTerminal.{CommandTerminal}
use Rattle.soy_parser.specs.declared.terminal.CommandTerminal.TheVariants as terminal
use Rattle.soy_parser.specs.declared.terminal.CommandWord.TheVariants as word
use Rattle.soy_parser.specs.CommandTerminals.{command_terminal_of, command_word}
use Rattle.soy_parser.specs.Heads.{SpellsAttributes, allows, attribute_name, form_at, no_attributes, with_attribute}
use Rattle.soy_parser.specs.Heads.{with_kind}
use Rattle.soy_parser.specs.SpellsHead.{SpellsHead, bare_head}
use Rattle.soy_format.specs.FormattedBody.{kind_name}
use Rattle.formatted_source.specs.CommandPieces.{attribute_lexemes, braced, end_lexeme, kind_lexemes, meaning_lexemes}
use Rattle.formatted_source.specs.Lexemes.{Lexeme, lexemes}
use Rattle.formatted_source.proofs.Commands.CommandTerms.{CommandSpelled, FormSaid, HeadSpelled, command_spelled}
use Rattle.formatted_source.proofs.Commands.CommandTerms.{command-lexeme}
use Rattle.formatted_source.proofs.Commands.CommandTerms.{lexeme_command}
use Rattle.formatted_source.proofs.LexemeLists.{alone, begun, split}

-- a token of a lexeme is what the lexeme is
is_as : (t : Token) (l : Lexeme) (m : CommandTerminal) → t.kind ≡ l.0 → t.text ≡ l.1 → lexeme_command l ≡ m
    → command_terminal_of t ≡ m
is_as t l m k e is = command-lexeme t l k e ∙ is

equals_is : lexeme_command (kind.Symbol, codes "=") ≡ terminal.Equals
unfolding lib.Utf8.encode
equals_is = refl

-- one more attribute
pub one_attribute : (h : Head) (ts vs : List Token) (a b : Attributes) (name value : List ℕ) (n : AttributeName)
    → SpellsAttributes h ts a → attribute_name (lexeme_command (kind.Word, name)) ≡ Some n → allows h a n ≡ true
    → with_attribute a n value ≡ Some b → lexemes vs ≡ attribute_lexemes name value → SpellsAttributes h (ts ++ vs) b
one_attribute h ts vs a b name value n s is allowed with_it same =
    let w = begun vs (kind.Word, name) ((kind.Symbol, codes "=") ∷ ((kind.Attribute, value) ∷ [])) same in
    let e = begun w.rest (kind.Symbol, codes "=") ((kind.Attribute, value) ∷ []) w.rests in
    let v = alone e.rest (kind.Attribute, value) e.rests in
    let are : vs ≡ w.token ∷ (e.token ∷ (v.token ∷ [])) =
    w.are ∙ ap (λ l. w.token ∷ l) (e.are ∙ ap (λ l. e.token ∷ l) v.are) in
    subst (λ l. SpellsAttributes h (ts ++ l) b) (sym are)
    (SpellsAttributes.more_ h ts a b w.token e.token v.token n s
    (ap attribute_name (command-lexeme w.token (kind.Word, name) w.kind_is w.text_is) ∙ is) allowed
    (is_as e.token (kind.Symbol, codes "=") _ e.kind_is e.text_is equals_is)
    (is_as v.token (kind.Attribute, value) _ v.kind_is v.text_is refl)
    (ap (with_attribute a n) v.text_is ∙ with_it))

kind_attribute : attribute_name (lexeme_command (kind.Word, codes "kind")) ≡ Some attribute.Kind
unfolding lib.Utf8.encode
kind_attribute = refl

desc_attribute : attribute_name (lexeme_command (kind.Word, codes "desc")) ≡ Some attribute.Desc
unfolding lib.Utf8.encode
desc_attribute = refl

meaning_attribute : attribute_name (lexeme_command (kind.Word, codes "meaning")) ≡ Some attribute.Meaning
unfolding lib.Utf8.encode
meaning_attribute = refl

with_own_kind : (k : Kind) → with_attribute no_attributes attribute.Kind (kind_name k)
    ≡ Some (with_kind no_attributes k)
with_own_kind block_kind.Html = refl
with_own_kind block_kind.Attributes = refl
with_own_kind block_kind.Text = refl

let_is : lexeme_command (kind.Word, codes "let") ≡ terminal.Word word.Let
unfolding lib.Utf8.encode
let_is = refl

param_is : lexeme_command (kind.Word, codes "param") ≡ terminal.Word word.Param
unfolding lib.Utf8.encode
param_is = refl

-- a block's kind
kind_form : (h : Head) (k : Kind) (of : CommandForm) (vs : List Token) → allows h no_attributes attribute.Kind ≡ true
    → form_at h (with_kind no_attributes k) terminal.End ≡ Some of → lexemes vs ≡ kind_lexemes k
    → FormSaid h vs terminal.End (λ f. f ≡ of)
kind_form h k of vs allowed is same = record {
  attributes = with_kind no_attributes k;
  spells = one_attribute h [] vs no_attributes (with_kind no_attributes k) (codes "kind") (kind_name k) attribute.Kind
      (SpellsAttributes.none_ h) kind_attribute allowed (with_own_kind k) same;
  form = of;
  is = is;
  said = refl;
}

pub let_block_command : (blocks : ℕ) (ts : List Token) (name : Name) (k : Kind) → blocks ≤ 64
    → lexemes ts ≡ braced ((kind.Word, codes "let") ∷ ((kind.Variable, name) ∷ kind_lexemes k))
    → CommandSpelled blocks ts (λ f. f ≡ says.Opens (opening.Let name k))
let_block_command blocks ts name k le same =
    command_spelled blocks ts ((kind.Word, codes "let") ∷ ((kind.Variable, name) ∷ [])) (kind_lexemes k) end_lexeme
    (λ h. h ≡ head.Let name) (λ f. f ≡ says.Opens (opening.Let name k)) le refl refl
    (λ us own.
    let t = begun us (kind.Word, codes "let") ((kind.Variable, name) ∷ []) own in
    let v = alone t.rest (kind.Variable, name) t.rests in
    let are : us ≡ t.token ∷ (v.token ∷ []) = t.are ∙ ap (λ l. t.token ∷ l) v.are in
    subst (λ l. HeadSpelled blocks l (λ h. h ≡ head.Let name)) (sym are) (record {
      head = head.Let v.token.text;
      depths = 0 ∷ (0 ∷ []);
      words = false ∷ (false ∷ []);
      spells = SpellsHead.let_block_ t.token v.token (is_as t.token (kind.Word, codes "let") _ t.kind_is t.text_is
          let_is)
          (is_as v.token (kind.Variable, name) _ v.kind_is v.text_is refl);
      said = ap head.Let v.text_is;
      within = (omega (arith, le), (omega (arith, le), tt));
      names = λ rest none. (tt, (tt, tt));
      each = tt;
    }))
    (λ h is vs own. subst (λ x. FormSaid x vs terminal.End (λ f. f ≡ says.Opens (opening.Let name k))) (sym is)
    (kind_form (head.Let name) k (says.Opens (opening.Let name k)) vs refl refl own)) same

pub param_block_command : (blocks : ℕ) (ts : List Token) (name : Name) (k : Kind) → blocks ≤ 64
    → lexemes ts ≡ braced ((kind.Word, codes "param") ∷ ((kind.Word, name) ∷ kind_lexemes k))
    → CommandSpelled blocks ts (λ f. f ≡ says.Opens (opening.Param name k))
param_block_command blocks ts name k le same =
    command_spelled blocks ts ((kind.Word, codes "param") ∷ ((kind.Word, name) ∷ [])) (kind_lexemes k) end_lexeme
    (λ h. h ≡ head.Param name) (λ f. f ≡ says.Opens (opening.Param name k)) le refl refl
    (λ us own.
    let t = begun us (kind.Word, codes "param") ((kind.Word, name) ∷ []) own in
    let v = alone t.rest (kind.Word, name) t.rests in
    let are : us ≡ t.token ∷ (v.token ∷ []) = t.are ∙ ap (λ l. t.token ∷ l) v.are in
    subst (λ l. HeadSpelled blocks l (λ h. h ≡ head.Param name)) (sym are) (record {
      head = head.Param v.token.text;
      depths = 0 ∷ (0 ∷ []);
      words = false ∷ (false ∷ []);
      spells = SpellsHead.param_block_ t.token v.token (command_word (encode_utf8_all name))
          (is_as t.token (kind.Word, codes "param") _ t.kind_is t.text_is param_is)
          (is_as v.token (kind.Word, name) _ v.kind_is v.text_is refl);
      said = ap head.Param v.text_is;
      within = (omega (arith, le), (omega (arith, le), tt));
      names = λ rest none. (tt, (tt, tt));
      each = tt;
    }))
    (λ h is vs own. subst (λ x. FormSaid x vs terminal.End (λ f. f ≡ says.Opens (opening.Param name k))) (sym is)
    (kind_form (head.Param name) k (says.Opens (opening.Param name k)) vs refl refl own)) same

-- a message's desc and meaning

abbrev with_desc : List ℕ → Attributes
with_desc desc = record no_attributes { desc = Some desc }

abbrev with_both : List ℕ → List ℕ → Attributes
with_both desc meaning = record (with_desc desc) { meaning = Some meaning }

desc_tokens : (h : Head) (vs : List Token) (desc : List ℕ) → allows h no_attributes attribute.Desc ≡ true
    → lexemes vs ≡ attribute_lexemes (codes "desc") desc → SpellsAttributes h vs (with_desc desc)
desc_tokens h vs desc allowed same =
    one_attribute h [] vs no_attributes (with_desc desc) (codes "desc") desc attribute.Desc (SpellsAttributes.none_ h)
    desc_attribute allowed refl same

-- a head that takes them, and what it says with them
record TakesDesc (h : Head) (make : List ℕ → List ℕ → CommandForm) : Type 0 where
  pub desc : allows h no_attributes attribute.Desc ≡ true
  pub meaning : (desc : List ℕ) → allows h (with_desc desc) attribute.Meaning ≡ true
  pub alone : (desc : List ℕ) → form_at h (with_desc desc) terminal.End ≡ Some (make desc [])
  pub both : (desc meaning : List ℕ) → form_at h (with_both desc meaning) terminal.End ≡ Some (make desc meaning)

desc_form : (h : Head) (make : List ℕ → List ℕ → CommandForm) (desc meaning : List ℕ) (vs : List Token)
    → TakesDesc h make → lexemes vs ≡ attribute_lexemes (codes "desc") desc ++ meaning_lexemes meaning
    → FormSaid h vs terminal.End (λ f. f ≡ make desc meaning)
desc_form h make desc [] vs t same = record {
  attributes = with_desc desc;
  spells = desc_tokens h vs desc t.desc same;
  form = make desc [];
  is = t.alone desc;
  said = refl;
}
desc_form h make desc (c ∷ cs) vs t same =
    let parts = split vs (attribute_lexemes (codes "desc") desc) (attribute_lexemes (codes "meaning") (c ∷ cs)) same in
    record {
      attributes = with_both desc (c ∷ cs);
      spells = subst (λ l. SpellsAttributes h l (with_both desc (c ∷ cs))) (sym parts.are)
          (one_attribute h parts.first parts.second (with_desc desc) (with_both desc (c ∷ cs)) (codes "meaning")
          (c ∷ cs)
          attribute.Meaning (desc_tokens h parts.first desc t.desc parts.firsts) meaning_attribute (t.meaning desc) refl
          parts.seconds);
      form = make desc (c ∷ cs);
      is = t.both desc (c ∷ cs);
      said = refl;
    }

message_takes : TakesDesc head.Message (λ desc meaning. says.Opens (opening.Message desc meaning))
message_takes = record {
  desc = refl;
  meaning = λ desc. refl;
  alone = λ desc. refl;
  both = λ desc meaning. refl;
}

fallback_takes : TakesDesc head.Fallback (λ desc meaning. says.GoesOn (middle.Fallback desc meaning))
fallback_takes = record {
  desc = refl;
  meaning = λ desc. refl;
  alone = λ desc. refl;
  both = λ desc meaning. refl;
}

message_head : bare_head (lexeme_command (kind.Word, codes "msg")) ≡ Some head.Message
unfolding lib.Utf8.encode
message_head = refl

fallback_head : bare_head (lexeme_command (kind.Word, codes "fallbackmsg")) ≡ Some head.Fallback
unfolding lib.Utf8.encode
fallback_head = refl

described : (blocks : ℕ) (ts : List Token) (word : List ℕ) (h : Head) (make : List ℕ → List ℕ → CommandForm)
    (desc meaning : List ℕ) → blocks ≤ 64 → TakesDesc h make
    → bare_head (lexeme_command (kind.Word, word)) ≡ Some h
    → lexemes ts ≡ braced ((kind.Word, word) ∷ (attribute_lexemes (codes "desc") desc ++ meaning_lexemes meaning))
    → CommandSpelled blocks ts (λ f. f ≡ make desc meaning)
described blocks ts word h make desc meaning le t is same =
    command_spelled blocks ts ((kind.Word, word) ∷ []) (attribute_lexemes
    (codes "desc") desc ++ meaning_lexemes meaning)
    end_lexeme (λ x. x ≡ h) (λ f. f ≡ make desc meaning) le refl refl
    (λ us own.
    let w = alone us (kind.Word, word) own in
    subst (λ l. HeadSpelled blocks l (λ x. x ≡ h)) (sym w.are) (record {
      head = h;
      depths = 0 ∷ [];
      words = false ∷ [];
      spells = SpellsHead.bare_ w.token h
          (ap bare_head (command-lexeme w.token (kind.Word, word) w.kind_is w.text_is) ∙ is);
      said = refl;
      within = (omega (arith, le), tt);
      names = λ rest none. (tt, tt);
      each = tt;
    }))
    (λ x same_head vs own. subst (λ y. FormSaid y vs terminal.End (λ f. f ≡ make desc meaning)) (sym same_head)
    (desc_form h make desc meaning vs t own)) same

pub message_command : (blocks : ℕ) (ts : List Token) (desc meaning : List ℕ) → blocks ≤ 64
    → lexemes ts ≡ braced ((kind.Word, codes "msg") ∷ (attribute_lexemes
    (codes "desc") desc ++ meaning_lexemes meaning))
    → CommandSpelled blocks ts (λ f. f ≡ says.Opens (opening.Message desc meaning))
message_command blocks ts desc meaning le same =
    described blocks ts (codes "msg") head.Message (λ desc meaning. says.Opens (opening.Message desc meaning)) desc
    meaning le message_takes message_head same

pub fallback_command : (blocks : ℕ) (ts : List Token) (desc meaning : List ℕ) → blocks ≤ 64
    → lexemes ts ≡ braced ((kind.Word, codes "fallbackmsg") ∷ (attribute_lexemes (codes "desc") desc
    ++ meaning_lexemes meaning))
    → CommandSpelled blocks ts (λ f. f ≡ says.GoesOn (middle.Fallback desc meaning))
fallback_command blocks ts desc meaning le same =
    described blocks ts (codes "fallbackmsg") head.Fallback (λ desc meaning. says.GoesOn (middle.Fallback desc meaning))
    desc meaning le fallback_takes fallback_head same
