-- The commands of templates: their lexemes spell what they are written for.
use Rattle.std.proofs.Common.{◌≡◌, ℕ, ◌≤◌, Bool, true, false, List, [], ◌∷◌, ◌++◌, Some}
use Rattle.std.proofs.Common.{refl, sym, ap, subst, ◌∙◌, arith, append-nil, length}
use Rattle.std.specs.Prelude.{codes, encode_utf8_all}
use Rattle.soy_base.specs.declared.kind.Kind.{Kind}
use Rattle.soy_base.specs.declared.kind.Kind.TheVariants as block_kind
use Rattle.soy_lexer.specs.declared.token.Token.{Token}
use Rattle.soy_lexer.specs.declared.token.TokenKind.TheVariants as kind
use Rattle.soy_tree.specs.Types.{Name}
use Rattle.expr_parser.specs.declared.type_frame.TypeOperand.{TypeOperand}
use Rattle.expr_parser.specs.Depths.{AreWithin}
use Rattle.expr_parser.specs.ParsesType.{NameTypes, NamesTypeIf}
use Rattle.expr_parser.specs.SpellsType.{SpellsType}
use Rattle.expr_parser.specs.TypeTerminals.{begins_with_less, is_less, type_terminal, type_terminal_of, word_names_type}
use Rattle.soy_parser.specs.declared.attributes.AttributeName.TheVariants as attribute
use Rattle.soy_parser.specs.declared.attributes.Attributes.{Attributes}
use Rattle.soy_parser.specs.declared.command.CommandForm.{CommandForm}
use Rattle.soy_parser.specs.declared.command.CommandForm.TheVariants as says
use Rattle.soy_parser.specs.declared.command.Opening.TheVariants as opening
use Rattle.soy_parser.specs.declared.head.Head.TheVariants as head
use Rattle.soy_parser.specs.declared.terminal.CommandTerminal.{CommandTerminal}
use Rattle.soy_parser.specs.declared.terminal.CommandTerminal.TheVariants as terminal
use Rattle.soy_parser.specs.declared.terminal.CommandWord.TheVariants as word
use Rattle.soy_parser.specs.CommandTerminals.{command_terminal_of, command_word}
use Rattle.soy_parser.specs.Depth.{none_deep}
use Rattle.soy_parser.specs.Heads.{SpellsAttributes, allows, attribute_name, form_at, no_attributes, with_attribute}
use Rattle.soy_parser.specs.Heads.{with_kind}
use Rattle.soy_parser.specs.SpellsHead.{SpellsDot, SpellsHead, SpellsRequired}
use Rattle.soy_parser.specs.TypeWords.{no_words}
use Rattle.soy_format.specs.FormattedBody.{kind_name}
use Rattle.formatted_source.specs.CommandPieces.{attribute_lexemes, braced, end_lexeme}
use Rattle.formatted_source.specs.Lexemes.{Lexeme, lexeme, lexemes}
use Rattle.formatted_source.specs.TreeLexemes.{required_lexemes, template_kind_lexemes, visibility_lexemes}
use Rattle.formatted_source.proofs.Commands.AttributeCommands.{one_attribute}
use Rattle.formatted_source.proofs.Commands.CommandTerms.{BeginPlain, CommandSpelled, FormSaid, HeadSpelled, IsWhole}
use Rattle.formatted_source.proofs.Commands.CommandTerms.{SameLength}
use Rattle.formatted_source.proofs.Commands.CommandTerms.{bare_spelled, command_spelled, command-lexeme, lexeme_command}
use Rattle.formatted_source.proofs.Commands.CommandTerms.{names_append, names_none, same_append, same_none}
use Rattle.formatted_source.proofs.Commands.CommandTerms.{within_append}
use Rattle.formatted_source.proofs.Commands.CommandTerms.{within_none}
use Rattle.formatted_source.proofs.LexemeLists.{alone, begun, split}
use Rattle.formatted_source.proofs.TypesRespelled.{type_again}
use Rattle.formatted_source.proofs.TypesSpelled.{type_words}

is_as : (t : Token) (l : Lexeme) (m : CommandTerminal) → t.kind ≡ l.0 → t.text ≡ l.1 → lexeme_command l ≡ m
    → command_terminal_of t ≡ m
is_as t l m k e is = command-lexeme t l k e ∙ is

no_tokens : (us : List Token) → lexemes us ≡ [] → us ≡ []
no_tokens [] e = refl
no_tokens (u ∷ us) e = absurd (cc)

template_is : lexeme_command (kind.Word, codes "template") ≡ terminal.Word word.Template
unfolding lib.Utf8.encode
template_is = refl

param_is : lexeme_command (kind.Word, codes "param") ≡ terminal.Word word.Param
unfolding lib.Utf8.encode
param_is = refl

at_is : lexeme_command (kind.Symbol, codes "@") ≡ terminal.At
unfolding lib.Utf8.encode
at_is = refl

question_is : lexeme_command (kind.Symbol, codes "?") ≡ terminal.Question
unfolding lib.Utf8.encode
question_is = refl

colon_is : lexeme_command (kind.Symbol, codes ":") ≡ terminal.Colon
unfolding lib.Utf8.encode
colon_is = refl

kind_attribute : attribute_name (lexeme_command (kind.Word, codes "kind")) ≡ Some attribute.Kind
unfolding lib.Utf8.encode
kind_attribute = refl

visibility_attribute : attribute_name (lexeme_command (kind.Word, codes "visibility")) ≡ Some attribute.Visibility
unfolding lib.Utf8.encode
visibility_attribute = refl

-- a template's kind and visibility

abbrev with_own : Kind → Attributes
with_own block_kind.Html = no_attributes
with_own k = with_kind no_attributes k

abbrev with_private : Attributes → Attributes
with_private a = record a { private = true }

abbrev with_visibility : Bool → Attributes → Attributes
with_visibility true a = with_private a
with_visibility false a = a

own_tokens : (name : Name) (k : Kind) (vs : List Token) → lexemes vs ≡ template_kind_lexemes k
    → SpellsAttributes (head.Template name) vs (with_own k)
own_tokens name block_kind.Html vs same =
    subst (λ l. SpellsAttributes (head.Template name) l no_attributes) (sym (no_tokens vs same))
    (SpellsAttributes.none_ (head.Template name))
own_tokens name block_kind.Attributes vs same =
    one_attribute (head.Template name) [] vs no_attributes (with_kind no_attributes block_kind.Attributes)
    (codes "kind")
    (kind_name block_kind.Attributes) attribute.Kind (SpellsAttributes.none_ (head.Template name)) kind_attribute refl
    refl same
own_tokens name block_kind.Text vs same =
    one_attribute (head.Template name) [] vs no_attributes (with_kind no_attributes block_kind.Text) (codes "kind")
    (kind_name block_kind.Text) attribute.Kind (SpellsAttributes.none_ (head.Template name)) kind_attribute refl
    refl same

may_hide : (name : Name) (k : Kind) → allows (head.Template name) (with_own k) attribute.Visibility ≡ true
may_hide name block_kind.Html = refl
may_hide name block_kind.Attributes = refl
may_hide name block_kind.Text = refl

hides : (a : Attributes) → with_attribute a attribute.Visibility (codes "private") ≡ Some (with_private a)
hides a = refl

visible_tokens : (name : Name) (k : Kind) (private : Bool) (vs : List Token)
    → lexemes vs ≡ template_kind_lexemes k ++ visibility_lexemes private
    → SpellsAttributes (head.Template name) vs (with_visibility private (with_own k))
visible_tokens name k true vs same =
    let parts = split vs (template_kind_lexemes k) (attribute_lexemes (codes "visibility") (codes "private")) same in
    subst (λ l. SpellsAttributes (head.Template name) l (with_private (with_own k))) (sym parts.are)
    (one_attribute (head.Template name) parts.first parts.second (with_own k) (with_private (with_own k))
    (codes "visibility") (codes "private") attribute.Visibility (own_tokens name k parts.first parts.firsts)
    visibility_attribute (may_hide name k) (hides (with_own k)) parts.seconds)
visible_tokens name k false vs same = own_tokens name k vs (same ∙ append-nil (template_kind_lexemes k))

visible_plain : (k : Kind) (private : Bool) → BeginPlain (template_kind_lexemes k ++ visibility_lexemes private)
visible_plain block_kind.Html true = refl
visible_plain block_kind.Html false = tt
visible_plain block_kind.Attributes private = refl
visible_plain block_kind.Text private = refl

abbrev pub template_opens : Name → Kind → Bool → CommandForm
template_opens name k private = says.Opens (opening.Template (record { name = name; kind = k; private = private }))

template_says : (name : Name) (k : Kind) (private : Bool)
    → form_at (head.Template name) (with_visibility private (with_own k)) terminal.End
    ≡ Some (template_opens name k private)
template_says name block_kind.Html true = refl
template_says name block_kind.Html false = refl
template_says name block_kind.Attributes true = refl
template_says name block_kind.Attributes false = refl
template_says name block_kind.Text true = refl
template_says name block_kind.Text false = refl

-- **A template's command.**
pub template_command : (blocks : ℕ) (ts : List Token) (name : Name) (k : Kind) (private : Bool) → blocks ≤ 64
    → lexemes ts ≡ braced ((kind.Word, codes "template") ∷ ((kind.Word, name) ∷ (template_kind_lexemes k
    ++ visibility_lexemes private))) → CommandSpelled blocks ts (λ f. f ≡ template_opens name k private)
template_command blocks ts name k private le same =
    command_spelled blocks ts ((kind.Word, codes "template") ∷ ((kind.Word, name) ∷ []))
    (template_kind_lexemes k ++ visibility_lexemes private) end_lexeme (λ h. h ≡ head.Template name)
    (λ f. f ≡ template_opens name k private) le refl (visible_plain k private)
    (λ us own.
    let t = begun us (kind.Word, codes "template") ((kind.Word, name) ∷ []) own in
    let v = alone t.rest (kind.Word, name) t.rests in
    let are : us ≡ t.token ∷ (v.token ∷ []) = t.are ∙ ap (λ l. t.token ∷ l) v.are in
    subst (λ l. HeadSpelled blocks l (λ h. h ≡ head.Template name)) (sym are) (record {
      head = head.Template v.token.text;
      depths = none_deep (t.token ∷ (v.token ∷ []));
      words = no_words (t.token ∷ (v.token ∷ []));
      spells = SpellsHead.template_ t.token v.token (command_word (encode_utf8_all name)) []
          (is_as t.token (kind.Word, codes "template") _ t.kind_is t.text_is template_is) SpellsDot.without_
          (is_as v.token (kind.Word, name) _ v.kind_is v.text_is refl);
      said = ap head.Template v.text_is;
      within = within_none blocks (t.token ∷ (v.token ∷ [])) le;
      names = λ rest none. names_none (t.token ∷ (v.token ∷ [])) rest;
      each = same_none (t.token ∷ (v.token ∷ []));
    }))
    (λ h is vs own. subst (λ x. FormSaid x vs terminal.End (λ f. f ≡ template_opens name k private)) (sym is) (record {
      attributes = with_visibility private (with_own k);
      spells = visible_tokens name k private vs own;
      form = template_opens name k private;
      is = template_says name k private;
      said = refl;
    })) same

-- words that name types name them in tokens of the same lexemes

terminal_again : (u t : Token) → u.kind ≡ t.kind → u.text ≡ t.text → type_terminal_of u ≡ type_terminal_of t
terminal_again u t k e =
    ap (λ x. type_terminal x (encode_utf8_all u.text)) k ∙ ap (λ x. type_terminal t.kind (encode_utf8_all x)) e

less_again : (ts us rest : List Token) → lexemes us ≡ lexemes ts → begins_with_less rest ≡ false
    → begins_with_less (us ++ rest) ≡ begins_with_less (ts ++ [])
less_again [] us rest same none = ap (λ l. begins_with_less (l ++ rest)) (no_tokens us same) ∙ none
less_again (t ∷ ts) us rest same none =
    let u = begun us (lexeme t) (lexemes ts) same in
    ap (λ l. begins_with_less (l ++ rest)) u.are ∙ ap is_less (terminal_again u.token t u.kind_is u.text_is)

named_again : (w : Bool) (u t : Token) (us ts : List Token) → type_terminal_of u ≡ type_terminal_of t
    → begins_with_less us ≡ begins_with_less ts → NamesTypeIf w t ts → NamesTypeIf w u us
named_again true u t us ts m e is =
    ap (λ x. word_names_type x (begins_with_less us)) m ∙ (ap (λ b. word_names_type (type_terminal_of t) b) e ∙ is)
named_again false u t us ts m e is = tt

names_again : (ts us rest : List Token) (ws : List Bool) → lexemes us ≡ lexemes ts → begins_with_less rest ≡ false
    → NameTypes ts ws [] → NameTypes us ws rest
names_again [] us rest ws same none h = subst (λ l. NameTypes l ws rest) (sym (no_tokens us same)) tt
names_again (t ∷ ts) us rest [] same none h =
    let u = begun us (lexeme t) (lexemes ts) same in
    subst (λ l. NameTypes l [] rest) (sym u.are) tt
names_again (t ∷ ts) us rest (w ∷ ws) same none h =
    let u = begun us (lexeme t) (lexemes ts) same in
    subst (λ l. NameTypes l (w ∷ ws) rest) (sym u.are) (
      named_again w u.token t (u.rest ++ rest) (ts ++ []) (terminal_again u.token t u.kind_is u.text_is)
          (less_again ts u.rest rest u.rests none) h.0,
      names_again ts u.rest rest ws u.rests none h.1,
    )

as_long : (us : List Token) (ws : List Bool) → length ws ≡ length us → SameLength us ws
as_long [] [] e = tt
as_long [] (w ∷ ws) e = absurd (omega (arith, e))
as_long (u ∷ us) [] e = absurd (omega (arith, e))
as_long (u ∷ us) (w ∷ ws) e = as_long us ws (omega (arith, e))

required_tokens : (required : Bool) (vs : List Token) → lexemes vs ≡ required_lexemes required
    → SpellsRequired vs required
required_tokens true vs same =
    subst (λ l. SpellsRequired l true) (sym (no_tokens vs same)) SpellsRequired.required_
required_tokens false vs same =
    let q = alone vs (kind.Symbol, codes "?") same in
    subst (λ l. SpellsRequired l false) (sym q.are)
    (SpellsRequired.optional_ q.token (is_as q.token (kind.Symbol, codes "?") _ q.kind_is q.text_is question_is))

-- the tokens of its head, with those of the type
param_head : (blocks : ℕ) (us vs : List Token) (ds : List ℕ) (ws : List Bool) (x : TypeOperand) (name : Name)
    (required : Bool) → blocks ≤ 64 → SpellsType vs ds ws x → NameTypes vs ws [] → AreWithin blocks ds
    → lexemes us ≡ (kind.Symbol, codes "@") ∷ ((kind.Word, codes "param") ∷ (required_lexemes required
    ++ ((kind.Word, name) ∷ ((kind.Symbol, codes ":") ∷ lexemes vs))))
    → HeadSpelled blocks us (λ h. IsWhole h terminal.End (λ f. f ≡ says.TemplateParam name required x.of))
param_head blocks us vs ds ws x name required le spelled named within same =
    let a = begun us (kind.Symbol, codes "@") _ same in
    let t = begun a.rest (kind.Word, codes "param") _ a.rests in
    let parts = split t.rest (required_lexemes required)
    ((kind.Word, name) ∷ ((kind.Symbol, codes ":") ∷ lexemes vs)) t.rests in
    let n = begun parts.second (kind.Word, name) _ parts.seconds in
    let c = begun n.rest (kind.Symbol, codes ":") (lexemes vs) n.rests in
    let are : us ≡ a.token ∷ (t.token ∷ (parts.first ++ (n.token ∷ (c.token ∷ c.rest)))) =
    a.are ∙ ap (λ l. a.token ∷ l) (t.are ∙ ap (λ l. t.token ∷ l) (parts.are
    ∙ ap (λ l. parts.first ++ l) (n.are ∙ ap (λ l. n.token ∷ l) c.are))) in
    let again : SpellsType c.rest ds ws x = type_again vs c.rest ds ws x spelled c.rests in
    subst (λ l. HeadSpelled blocks l (λ h. IsWhole h terminal.End (λ f. f
    ≡ says.TemplateParam name required x.of))) (sym are) (record {
      head = head.Whole (says.TemplateParam n.token.text required x.of);
      depths = none_deep (a.token ∷ (t.token ∷ parts.first)) ++ (0 ∷ (0 ∷ ds));
      words = no_words (a.token ∷ (t.token ∷ parts.first)) ++ (false ∷ (false ∷ ws));
      spells = SpellsHead.template_param_ a.token t.token n.token c.token (command_word (encode_utf8_all name))
          parts.first c.rest ds ws required x
          (is_as a.token (kind.Symbol, codes "@") _ a.kind_is a.text_is at_is)
          (is_as t.token (kind.Word, codes "param") _ t.kind_is t.text_is param_is)
          (required_tokens required parts.first parts.firsts)
          (is_as n.token (kind.Word, name) _ n.kind_is n.text_is refl)
          (is_as c.token (kind.Symbol, codes ":") _ c.kind_is c.text_is colon_is) again;
      said = record {
        form = says.TemplateParam n.token.text required x.of;
        is = refl;
        said = ap (λ l. says.TemplateParam l required x.of) n.text_is;
      };
      within = within_append blocks (none_deep (a.token ∷ (t.token ∷ parts.first))) (0 ∷ (0 ∷ ds))
          (within_none blocks (a.token ∷ (t.token ∷ parts.first)) le)
          (omega (arith, le), (omega (arith, le), within));
      names = λ rest none. names_append (a.token ∷ (t.token ∷ parts.first)) (n.token ∷ (c.token ∷ c.rest))
          (no_words (a.token ∷ (t.token ∷ parts.first))) (false ∷ (false ∷ ws)) rest
          (names_none (a.token ∷ (t.token ∷ parts.first)) ((n.token ∷ (c.token ∷ c.rest)) ++ rest))
          (tt, (tt, names_again vs c.rest rest ws c.rests none named))
          (same_none (a.token ∷ (t.token ∷ parts.first)));
      each = same_append (a.token ∷ (t.token ∷ parts.first)) (n.token ∷ (c.token ∷ c.rest))
          (no_words (a.token ∷ (t.token ∷ parts.first))) (false ∷ (false ∷ ws))
          (same_none (a.token ∷ (t.token ∷ parts.first)))
          (as_long c.rest ws (type_words c.rest ds ws x again));
    })

-- **A param of a template, with a type that tokens of the same lexemes spell.**
pub template_param_command : (blocks : ℕ) (ts vs : List Token) (ds : List ℕ) (ws : List Bool) (x : TypeOperand)
    (name : Name) (required : Bool) → blocks ≤ 64 → SpellsType vs ds ws x → NameTypes vs ws [] → AreWithin blocks ds
    → lexemes ts ≡ braced ((kind.Symbol, codes "@") ∷ ((kind.Word, codes "param") ∷ (required_lexemes required
    ++ ((kind.Word, name) ∷ ((kind.Symbol, codes ":") ∷ lexemes vs)))))
    → CommandSpelled blocks ts (λ f. f ≡ says.TemplateParam name required x.of)
template_param_command blocks ts vs ds ws x name required le spelled named within same =
    bare_spelled blocks ts ((kind.Symbol, codes "@") ∷ ((kind.Word, codes "param") ∷ (required_lexemes required
    ++ ((kind.Word, name) ∷ ((kind.Symbol, codes ":") ∷ lexemes vs))))) end_lexeme (λ f. f
    ≡ says.TemplateParam name required x.of) le refl
    (λ us own. param_head blocks us vs ds ws x name required le spelled named within own) same
