-- **Whatever a command has begun with, further tokens end it.**
use Rattle.std.proofs.Common.{◌≡◌, ℕ, ℤ, Bool, true, false, not, List, [], ◌∷◌, ◌++◌, Option, Some, None, option_map}
use Rattle.std.proofs.Common.{refl, sym, ◌∙◌, ap, subst, append_assoc, append-nil}
use Rattle.std.specs.Prelude.{codes, is_some, unwrap_or}
use Rattle.soy_base.specs.declared.kind.Kind.{Kind}
use Rattle.soy_lexer.specs.declared.token.Token.{Token}
use Rattle.soy_lexer.specs.declared.token.TokenKind.TheVariants as token_kind
use Rattle.soy_tree.specs.declared.expr.Expr.{Expr}
use Rattle.expr_parser.specs.declared.state.ExprState.{ExprState}
use Rattle.expr_parser.specs.declared.type_state.TypeState.{TypeState}
use Rattle.expr_parser.specs.ExprRuns.{expr_run, expr_start}
use Rattle.expr_parser.specs.TypeRuns.{type_run, type_start}
use Rattle.expr_parser.proofs.ExprExact as expr_exact
use Rattle.expr_parser.proofs.TypeExact as type_exact
use Rattle.soy_parser.specs.declared.attributes.AttributeName.{AttributeName}
use Rattle.soy_parser.specs.declared.attributes.AttributeName.TheVariants as attribute
use Rattle.soy_parser.specs.declared.attributes.Attributes.{Attributes}
use Rattle.soy_parser.specs.declared.command.Middle.TheVariants as middle
use Rattle.soy_parser.specs.declared.command.Opening.TheVariants as opening
use Rattle.soy_parser.specs.declared.command.CommandForm.{CommandForm}
use Rattle.soy_parser.specs.declared.command.CommandForm.TheVariants as says
use Rattle.soy_parser.specs.declared.head.Head.{Head}
use Rattle.soy_parser.specs.declared.head.Head.TheVariants as head
use Rattle.soy_parser.specs.declared.head.HeadKind.{HeadKind}
use Rattle.soy_parser.specs.declared.head.HeadKind.TheVariants as kind
use Rattle.soy_parser.specs.declared.spot.DottedUse.{DottedUse}
use Rattle.soy_parser.specs.declared.spot.DottedUse.TheVariants as dotted
use Rattle.soy_parser.specs.declared.spot.Spot.{Spot}
use Rattle.soy_parser.specs.declared.spot.Use.{Use}
use Rattle.soy_parser.specs.declared.spot.Use.TheVariants as use_
use Rattle.soy_parser.specs.declared.terminal.CommandTerminal.TheVariants as terminal
use Rattle.soy_parser.specs.declared.terminal.CommandWord.{CommandWord}
use Rattle.soy_parser.specs.declared.terminal.CommandWord.TheVariants as word
use Rattle.soy_parser.specs.CommandTerminals.{command_terminal_of}
use Rattle.soy_parser.specs.FileSteps.{dotted_head, head_of}
use Rattle.soy_parser.specs.Heads.{no_attributes, attribute_name, allows, with_attribute, SpellsAttributes, form_at}
use Rattle.soy_parser.specs.SpellsHead.{SpellsHead, SpellsDotted, SpellsInts, SpellsCaseWords, SpellsDot}
use Rattle.soy_parser.specs.SpellsHead.{SpellsRequired}
use Rattle.soy_parser.specs.SpellsHead.{SpellsVariables}
use Rattle.soy_parser.proofs.OfHeads.HeadsBegun.{UseBegins, CaseBegins, DottedBegins, HeadOf, Begun, use_head}
use Rattle.soy_parser.proofs.OfHeads.HeadsBegun.{case_values}
use Rattle.soy_parser.proofs.OfHeads.HeadsBegun.{dotted_head_of}
use Rattle.soy_parser.proofs.OfCommands.WrittenTokens.{token, end_token, word_token, symbol_token}

-- further tokens make a head, attributes and an end of these
pub record Completes (own : List Token) (k : HeadKind) : Type 0 where
  pub more : List Token
  pub head_tokens : List Token
  pub attribute_tokens : List Token
  pub close : Token
  pub head_ : Head
  pub attributes : Attributes
  pub said : CommandForm
  pub whole : own ++ more ≡ head_tokens ++ (attribute_tokens ++ (close ∷ []))
  pub of : HeadOf head_tokens head_ k
  pub spells : SpellsAttributes head_ attribute_tokens attributes
  pub ends : form_at head_ attributes (command_terminal_of close) ≡ Some said

-- what can be completed, can still be without its last tokens
shorter : (own us : List Token) (k : HeadKind) → Completes (own ++ us) k → Completes own k
shorter own us k c = record {
  more = us ++ c.more;
  head_tokens = c.head_tokens;
  attribute_tokens = c.attribute_tokens;
  close = c.close;
  head_ = c.head_;
  attributes = c.attributes;
  said = c.said;
  whole = sym (append_assoc own us c.more) ∙ c.whole;
  of = c.of;
  spells = c.spells;
  ends = c.ends;
}

moved : (k : HeadKind) (us vs : List Token) → us ≡ vs → Completes us k → Completes vs k
moved k us vs e c = subst (λ l. Completes l k) e c

-- the tokens of attributes and of symbols

abbrev slash_end_token : Token
slash_end_token = token token_kind.SlashEnd (codes "/}")

abbrev equals_token : Token
equals_token = symbol_token (codes "=")

abbrev value_token : List ℕ → Token
value_token text = token token_kind.Attribute text

abbrev colon_token : Token
colon_token = symbol_token (codes ":")

abbrev variable_token : Token
variable_token = token token_kind.Variable (codes "x")

abbrev in_token : Token
in_token = word_token (codes "in")

abbrev name_token : Token
name_token = word_token (codes "x")

is_equals : command_terminal_of equals_token ≡ terminal.Equals
unfolding lib.Utf8.encode
is_equals = refl

is_colon : command_terminal_of colon_token ≡ terminal.Colon
unfolding lib.Utf8.encode
is_colon = refl

is_in : command_terminal_of in_token ≡ terminal.Word word.In
unfolding lib.Utf8.encode
is_in = refl

is_param : command_terminal_of (word_token (codes "param")) ≡ terminal.Word word.Param
unfolding lib.Utf8.encode
is_param = refl

is_kind : attribute_name (command_terminal_of (word_token (codes "kind"))) ≡ Some attribute.Kind
unfolding lib.Utf8.encode
is_kind = refl

is_desc : attribute_name (command_terminal_of (word_token (codes "desc"))) ≡ Some attribute.Desc
unfolding lib.Utf8.encode
is_desc = refl

-- a text that an attribute may have
record HasValue (a : Attributes) (n : AttributeName) : Type 0 where
  pub text : List ℕ
  pub with_it : Attributes
  pub is : with_attribute a n text ≡ Some with_it

abbrev has_value : (a : Attributes) (n : AttributeName) → HasValue a n
has_value a attribute.Kind = record { text = codes "text"; with_it = _; is = refl }
has_value a attribute.Visibility = record { text = codes "private"; with_it = _; is = refl }
has_value a attribute.Data = record { text = codes "all"; with_it = _; is = refl }
has_value a attribute.Desc = record { text = codes "x"; with_it = _; is = refl }
has_value a attribute.Meaning = record { text = codes "x"; with_it = _; is = refl }
has_value a attribute.Offset = record { text = codes "1"; with_it = _; is = refl }
has_value a attribute.Phname = record { text = codes "x"; with_it = _; is = refl }

-- after attributes

module _ (ts : List Token) (h : Head) (k : HeadKind) (of : HeadOf ts h k) where
  closed : (us : List Token) (a : Attributes) (z : Token) (said : CommandForm) → SpellsAttributes h us a →
      form_at h a (command_terminal_of z) ≡ Some said → Completes (ts ++ us) k
  closed us a z said p e = record {
    more = z ∷ [];
    head_tokens = ts;
    attribute_tokens = us;
    close = z;
    head_ = h;
    attributes = a;
    said = said;
    whole = append_assoc ts us (z ∷ []);
    of = of;
    spells = p;
    ends = e;
  }

  -- with a further attribute
  then_attribute : (us : List Token) (a b : Attributes) (name : Token) (n : AttributeName) (text : List ℕ)
      (said : CommandForm) →
      SpellsAttributes h us a → attribute_name (command_terminal_of name) ≡ Some n → allows h a n ≡ true →
      with_attribute a n text ≡ Some b → form_at h b terminal.End ≡ Some said → Completes (ts ++ us) k
  then_attribute us a b name n text said p hn al w e =
      let three = name ∷ (equals_token ∷ (value_token text ∷ [])) in
      shorter (ts ++ us) three k
      (moved k (ts ++ (us ++ three)) ((ts ++ us) ++ three) (sym (append_assoc ts us three))
      (closed (us ++ three) b end_token said
      (SpellsAttributes.more_ h us a b name equals_token (value_token text) n p hn al is_equals refl w) e))

-- a command is ended after its attributes
pub attributes_end : (ts us : List Token) (h : Head) (k : HeadKind) (a : Attributes) → HeadOf ts h k
    → SpellsAttributes h us a →
    Completes (ts ++ us) k
attributes_end ts us (head.Whole said) k a of p = closed ts (head.Whole said) k of us a end_token said p refl
attributes_end ts us (head.Alone said) k a of p =
    closed ts (head.Alone said) k of us a slash_end_token (says.Single said) p refl
attributes_end ts us (head.Template n) k a of p = closed ts (head.Template n) k of us a end_token _ p refl
attributes_end ts us (head.MessagePrint e) k a of p = closed ts (head.MessagePrint e) k of us a end_token _ p refl
attributes_end ts us (head.Call n) k a of p = closed ts (head.Call n) k of us a end_token _ p refl
attributes_end ts us (head.Plural e) k a of p = closed ts (head.Plural e) k of us a end_token _ p refl
attributes_end ts us (head.Let n) k a of p = over a.kind refl
  where
    over : (o : Option Kind) → a.kind ≡ o → Completes (ts ++ us) k
    over (Some of_kind) e =
        closed ts (head.Let n) k of us a end_token (says.Opens (opening.Let n of_kind)) p
        (ap (option_map (λ given. says.Opens (opening.Let n given))) e)
    over None e =
        let v = has_value a attribute.Kind in
        then_attribute ts (head.Let n) k of us a v.with_it (word_token (codes "kind")) attribute.Kind v.text _ p is_kind
        (ap (λ o. not (is_some o)) e) v.is refl
attributes_end ts us (head.Param n) k a of p = over a.kind refl
  where
    over : (o : Option Kind) → a.kind ≡ o → Completes (ts ++ us) k
    over (Some of_kind) e =
        closed ts (head.Param n) k of us a end_token (says.Opens (opening.Param n of_kind)) p
        (ap (option_map (λ given. says.Opens (opening.Param n given))) e)
    over None e =
        let v = has_value a attribute.Kind in
        then_attribute ts (head.Param n) k of us a v.with_it (word_token (codes "kind")) attribute.Kind v.text _ p
        is_kind
        (ap (λ o. not (is_some o)) e) v.is refl
attributes_end ts us head.Message k a of p = over a.desc refl
  where
    over : (o : Option (List ℕ)) → a.desc ≡ o → Completes (ts ++ us) k
    over (Some desc) e =
        closed ts head.Message k of us a end_token (says.Opens (opening.Message desc (unwrap_or a.meaning []))) p
        (ap (option_map (λ desc. says.Opens (opening.Message desc (unwrap_or a.meaning [])))) e)
    over None e =
        let v = has_value a attribute.Desc in
        then_attribute ts head.Message k of us a v.with_it (word_token (codes "desc")) attribute.Desc v.text _ p is_desc
        (ap (λ o. not (is_some o)) e) v.is refl
attributes_end ts us head.Fallback k a of p = over a.desc refl
  where
    over : (o : Option (List ℕ)) → a.desc ≡ o → Completes (ts ++ us) k
    over (Some desc) e =
        closed ts head.Fallback k of us a end_token (says.GoesOn (middle.Fallback desc (unwrap_or a.meaning []))) p
        (ap (option_map (λ desc. says.GoesOn (middle.Fallback desc (unwrap_or a.meaning [])))) e)
    over None e =
        let v = has_value a attribute.Desc in
        then_attribute ts head.Fallback k of us a v.with_it (word_token (codes "desc")) attribute.Desc v.text _ p
        is_desc
        (ap (λ o. not (is_some o)) e) v.is refl

-- a head that is whole
pub head_ends : (ts : List Token) (h : Head) (k : HeadKind) → HeadOf ts h k → Completes ts k
head_ends ts h k of =
    moved k (ts ++ []) ts (append-nil ts) (attributes_end ts [] h k no_attributes of (SpellsAttributes.none_ h))

-- an expression in work

expr_ends : (us vs : List Token) (of : Use) (k : HeadKind) (r : ExprState) → UseBegins of us k →
    expr_run vs expr_start ≡ Some r → Completes (us ++ vs) k
expr_ends us vs of k r u q =
    let c = expr_exact.run-Completes vs r q in
    shorter (us ++ vs) c.more k
    (moved k (us ++ (vs ++ c.more)) ((us ++ vs) ++ c.more) (sym (append_assoc us vs c.more))
    (head_ends (us ++ (vs ++ c.more)) (head_of of c.operand) k
    (use_head of us k u (vs ++ c.more) c.depths c.operand c.spells)))

case_ends : (t : Token) (us vs : List Token) (values : List Expr) (r : ExprState) →
    command_terminal_of t ≡ terminal.Word word.Case → CaseBegins us values → expr_run vs expr_start ≡ Some r →
    Completes (t ∷ (us ++ vs)) kind.Case
case_ends t us vs values r h b q =
    let c = expr_exact.run-Completes vs r q in
    let g = case_values us values b (vs ++ c.more) c.depths c.operand c.spells in
    let next = values ++ (c.operand.expr ∷ []) in
    shorter (t ∷ (us ++ vs)) c.more kind.Case
    (moved kind.Case (t ∷ (us ++ (vs ++ c.more))) (t ∷ ((us ++ vs) ++ c.more))
    (ap (λ l. t ∷ l) (sym (append_assoc us vs c.more)))
    (head_ends (t ∷ (us ++ (vs ++ c.more))) (head.Whole (says.GoesOn (middle.Case next))) kind.Case
    (record {
      depths = _;
      words = _;
      spells = SpellsHead.case_ t (us ++ (vs ++ c.more)) g.depths next h g.spells;
      kind_is = refl;
    })))

-- a use without its expression
use_ends : (us : List Token) (of : Use) (k : HeadKind) → UseBegins of us k → Completes us k
use_ends us of k u = moved k (us ++ []) us (append-nil us) (expr_ends us [] of k expr_start u refl)

-- a parameter of a template

type_ends : (sign t n colon : Token) (w : CommandWord) (ts us : List Token) (required : Bool) (r : TypeState) →
    command_terminal_of sign ≡ terminal.At → command_terminal_of t ≡ terminal.Word word.Param
    → SpellsRequired ts required →
    command_terminal_of n ≡ terminal.Word w → command_terminal_of colon ≡ terminal.Colon
    → type_run us type_start ≡ Some r →
    Completes (sign ∷ (t ∷ (ts ++ (n ∷ (colon ∷ us))))) kind.TemplateParam
type_ends sign t n colon w ts us required r hs ht hq hn hc q =
    let c = type_exact.run-Completes us r q in
    shorter (sign ∷ (t ∷ (ts ++ (n ∷ (colon ∷ us))))) c.more kind.TemplateParam
    (moved kind.TemplateParam (sign ∷ (t ∷ (ts ++ (n ∷ (colon ∷ (us ++ c.more))))))
    (sign ∷ (t ∷ ((ts ++ (n ∷ (colon ∷ us))) ++ c.more)))
    (ap (λ l. sign ∷ (t ∷ l)) (sym (append_assoc ts (n ∷ (colon ∷ us)) c.more)))
    (head_ends (sign ∷ (t ∷ (ts ++ (n ∷ (colon ∷ (us ++ c.more))))))
    (head.Whole (says.TemplateParam n.text required c.operand.of)) kind.TemplateParam
    (record {
      depths = _;
      words = _;
      spells = SpellsHead.template_param_ sign t n colon w ts
          (us ++ c.more) c.depths c.words required c.operand hs ht hq
          hn hc
          c.spells;
      kind_is = refl;
    })))

colon_ends : (sign t n : Token) (w : CommandWord) (ts : List Token) (required : Bool) →
    command_terminal_of sign ≡ terminal.At → command_terminal_of t ≡ terminal.Word word.Param
    → SpellsRequired ts required →
    command_terminal_of n ≡ terminal.Word w → Completes (sign ∷ (t ∷ (ts ++ (n ∷ [])))) kind.TemplateParam
colon_ends sign t n w ts required hs ht hq hn =
    shorter (sign ∷ (t ∷ (ts ++ (n ∷ [])))) (colon_token ∷ []) kind.TemplateParam
    (moved kind.TemplateParam (sign ∷ (t ∷ (ts ++ (n ∷ (colon_token ∷ [])))))
    (sign ∷ (t ∷ ((ts ++ (n ∷ [])) ++ (colon_token ∷ []))))
    (ap (λ l. sign ∷ (t ∷ l)) (sym (append_assoc ts (n ∷ []) (colon_token ∷ []))))
    (type_ends sign t n colon_token w ts [] required type_start hs ht hq hn is_colon refl))

name_ends : (sign t : Token) (ts : List Token) (required : Bool) → command_terminal_of sign ≡ terminal.At →
    command_terminal_of t ≡ terminal.Word word.Param → SpellsRequired ts required →
    Completes (sign ∷ (t ∷ ts)) kind.TemplateParam
name_ends sign t ts required hs ht hq =
    shorter (sign ∷ (t ∷ ts)) (name_token ∷ []) kind.TemplateParam
    (colon_ends sign t name_token _ ts required hs ht hq refl)

-- names

template_ends : (t : Token) (ts : List Token) → command_terminal_of t ≡ terminal.Word word.Template → SpellsDot ts →
    Completes (t ∷ ts) kind.Template
template_ends t ts ht d =
    shorter (t ∷ ts) (name_token ∷ []) kind.Template
    (head_ends (t ∷ (ts ++ (name_token ∷ []))) (head.Template name_token.text) kind.Template
    (record { depths = _; words = _; spells = SpellsHead.template_ t name_token _ ts ht d refl; kind_is = refl }))

dotted_ends : (ts us : List Token) (of : DottedUse) (k : HeadKind) (text : List ℕ) → DottedBegins of ts k →
    SpellsDotted us text → Completes (ts ++ us) k
dotted_ends ts us of k text d p = head_ends (ts ++ us) (dotted_head of text) k (dotted_head_of of ts k d us text p)

dotted_begins_end : (ts : List Token) (of : DottedUse) (k : HeadKind) → DottedBegins of ts k → Completes ts k
dotted_begins_end ts of k d =
    shorter ts (name_token ∷ []) k
    (dotted_ends ts (name_token ∷ []) of k name_token.text d (SpellsDotted.one_ name_token _ refl))

-- the tokens of one more value

abbrev int_token : Token
int_token = token token_kind.Int (codes "1")

ints_end : (t : Token) (us : List Token) (values : List ℤ) → command_terminal_of t ≡ terminal.Word word.Case →
    SpellsInts us values → Completes (t ∷ us) kind.PluralCase
ints_end t us values h p =
    head_ends (t ∷ us) (head.Whole (says.GoesOn (middle.PluralCase values))) kind.PluralCase
    (record { depths = _; words = _; spells = SpellsHead.plural_case_ t us values h p; kind_is = refl })

case_words_end : (t : Token) (us : List Token) (values : List (List ℕ))
    → command_terminal_of t ≡ terminal.Word word.Case →
    SpellsCaseWords us values → Completes (t ∷ us) kind.SelectCase
case_words_end t us values h p =
    head_ends (t ∷ us) (head.Whole (says.GoesOn (middle.SelectCase values))) kind.SelectCase
    (record { depths = _; words = _; spells = SpellsHead.select_case_ t us values h p; kind_is = refl })

abbrev string_token : Token
string_token = token token_kind.Str (codes "x")

-- the loops

in_ends : (t : Token) (ts : List Token) (n : List ℕ) (index : Option (List ℕ)) →
    command_terminal_of t ≡ terminal.Word word.For → SpellsVariables ts n index → Completes (t ∷ ts) kind.For
in_ends t ts n index h v =
    shorter (t ∷ ts) (in_token ∷ []) kind.For
    (use_ends (t ∷ (ts ++ (in_token ∷ []))) (use_.For n index) kind.For
    (UseBegins.for_ t in_token ts n index h v is_in))

-- **So it is at each spot.**
pub begun_ends : (at : Spot) (own : List Token) (k : HeadKind) → Begun at own k → Completes own k
begun_ends _ _ _ (Begun.template_param_ sign hs) =
    shorter (sign ∷ []) (word_token (codes "param") ∷ []) kind.TemplateParam
    (name_ends sign (word_token (codes "param")) [] true hs is_param SpellsRequired.required_)
begun_ends _ _ _ (Begun.template_param_word_ sign t hs ht) = name_ends sign t [] true hs ht SpellsRequired.required_
begun_ends _ _ _ (Begun.template_param_name_ sign t q hs ht hq) =
    name_ends sign t (q ∷ []) false hs ht (SpellsRequired.optional_ q hq)
begun_ends _ _ _ (Begun.template_param_colon_ sign t n w ts required hs ht hq hn) =
    colon_ends sign t n w ts required hs ht hq hn
begun_ends _ _ _ (Begun.type_ sign t n colon w ts us required r hs ht hq hn hc q) =
    type_ends sign t n colon w ts us required r hs ht hq hn hc q
begun_ends _ _ _ (Begun.template_ t ht) = template_ends t [] ht SpellsDot.without_
begun_ends _ _ _ (Begun.template_name_ t d ht hd) = template_ends t (d ∷ []) ht (SpellsDot.with_ d hd)
begun_ends _ _ _ (Begun.call_ t ht) =
    dotted_begins_end (t ∷ []) dotted.Call kind.Call (DottedBegins.call_ t [] ht SpellsDot.without_)
begun_ends _ _ _ (Begun.dotted_first_ ts of k d) = dotted_begins_end ts of k d
begun_ends _ _ _ (Begun.dotted_next_ ts us of k text dot d p hd) =
    shorter (ts ++ (us ++ (dot ∷ []))) (name_token ∷ []) k
    (moved k (ts ++ (us ++ (dot ∷ (name_token ∷ [])))) ((ts ++ (us ++ (dot ∷ []))) ++ (name_token ∷ []))
    (sym (append_assoc ts (us ++ (dot ∷ [])) (name_token ∷ [])
    ∙ ap (λ l. ts ++ l) (append_assoc us (dot ∷ []) (name_token ∷ []))))
    (dotted_ends ts (us ++ (dot ∷ (name_token ∷ []))) of k _ d (SpellsDotted.more_ us text dot name_token _ p hd refl)))
begun_ends _ _ _ (Begun.dotted_ ts us of k text d p) = dotted_ends ts us of k text d p
begun_ends _ _ _ (Begun.for_ t ht) =
    shorter (t ∷ []) (variable_token ∷ []) kind.For
    (in_ends t (variable_token ∷ []) _ None ht (SpellsVariables.one_ variable_token refl))
begun_ends _ _ _ (Begun.for_in_ t v ht hv) = in_ends t (v ∷ []) v.text None ht (SpellsVariables.one_ v hv)
begun_ends _ _ _ (Begun.for_index_ t v comma ht hv hc) =
    shorter (t ∷ (v ∷ (comma ∷ []))) (variable_token ∷ []) kind.For
    (in_ends t (v ∷ (comma ∷ (variable_token ∷ []))) v.text _ ht
    (SpellsVariables.two_ v comma variable_token hv hc refl))
begun_ends _ _ _ (Begun.for_index_in_ t v comma i ht hv hc hi) =
    in_ends t (v ∷ (comma ∷ (i ∷ []))) v.text (Some i.text) ht (SpellsVariables.two_ v comma i hv hc hi)
begun_ends _ _ _ (Begun.let_ t ht) =
    shorter (t ∷ []) (variable_token ∷ []) kind.Let
    (head_ends (t ∷ (variable_token ∷ [])) (head.Let variable_token.text) kind.Let
    (record { depths = _; words = _; spells = SpellsHead.let_block_ t variable_token ht refl; kind_is = refl }))
begun_ends _ _ _ (Begun.let_colon_ t v ht hv) =
    head_ends (t ∷ (v ∷ [])) (head.Let v.text) kind.Let
    (record { depths = _; words = _; spells = SpellsHead.let_block_ t v ht hv; kind_is = refl })
begun_ends _ _ _ (Begun.param_ t ht) =
    shorter (t ∷ []) (name_token ∷ []) kind.Param
    (head_ends (t ∷ (name_token ∷ [])) (head.Param name_token.text) kind.Param
    (record { depths = _; words = _; spells = SpellsHead.param_block_ t name_token _ ht refl; kind_is = refl }))
begun_ends _ _ _ (Begun.param_colon_ t n w ht hn) =
    head_ends (t ∷ (n ∷ [])) (head.Param n.text) kind.Param
    (record { depths = _; words = _; spells = SpellsHead.param_block_ t n w ht hn; kind_is = refl })
begun_ends _ _ _ (Begun.int_first_ t ht) =
    shorter (t ∷ []) (int_token ∷ []) kind.PluralCase
    (ints_end t (int_token ∷ []) _ ht (SpellsInts.one_ int_token refl refl))
begun_ends _ _ _ (Begun.int_next_ t comma us values ht p hc) =
    shorter (t ∷ (us ++ (comma ∷ []))) (int_token ∷ []) kind.PluralCase
    (moved kind.PluralCase (t ∷ (us ++ (comma ∷ (int_token ∷ [])))) (t ∷ ((us ++ (comma ∷ [])) ++ (int_token ∷ [])))
    (ap (λ l. t ∷ l) (sym (append_assoc us (comma ∷ []) (int_token ∷ []))))
    (ints_end t (us ++ (comma ∷ (int_token ∷ []))) _ ht (SpellsInts.more_ us values comma int_token p hc refl refl)))
begun_ends _ _ _ (Begun.after_int_ t us values ht p) = ints_end t us values ht p
begun_ends _ _ _ (Begun.case_word_first_ t ht) =
    shorter (t ∷ []) (string_token ∷ []) kind.SelectCase
    (case_words_end t (string_token ∷ []) _ ht (SpellsCaseWords.one_ string_token refl refl))
begun_ends _ _ _ (Begun.case_word_next_ t comma us values ht p hc) =
    shorter (t ∷ (us ++ (comma ∷ []))) (string_token ∷ []) kind.SelectCase
    (moved kind.SelectCase (t ∷ (us ++ (comma ∷ (string_token ∷ []))))
    (t ∷ ((us ++ (comma ∷ [])) ++ (string_token ∷ [])))
    (ap (λ l. t ∷ l) (sym (append_assoc us (comma ∷ []) (string_token ∷ []))))
    (case_words_end t (us ++ (comma ∷ (string_token ∷ []))) _ ht
    (SpellsCaseWords.more_ us values comma string_token p hc refl refl)))
begun_ends _ _ _ (Begun.after_case_word_ t us values ht p) = case_words_end t us values ht p
begun_ends _ _ _ (Begun.case_ t us vs values r ht b q) = case_ends t us vs values r ht b q
begun_ends _ _ _ (Begun.expr_ us vs of k r u q) = expr_ends us vs of k r u q
begun_ends _ _ _ (Begun.attributes_ ts us h k a of p) = attributes_end ts us h k a of p
begun_ends _ _ _ (Begun.equals_ ts us name h k a n of p hn al) =
    let v = has_value a n in
    let two = equals_token ∷ (value_token v.text ∷ []) in
    shorter (ts ++ (us ++ (name ∷ []))) two k
    (moved k (ts ++ (us ++ (name ∷ two))) ((ts ++ (us ++ (name ∷ []))) ++ two)
    (sym (append_assoc ts (us ++ (name ∷ [])) two ∙ ap (λ l. ts ++ l) (append_assoc us (name ∷ []) two)))
    (attributes_end ts (us ++ (name ∷ two)) h k v.with_it of
    (SpellsAttributes.more_ h us a v.with_it name equals_token (value_token v.text) n p hn al is_equals refl v.is)))
begun_ends _ _ _ (Begun.value_ ts us name equals h k a n of p hn al he) =
    let v = has_value a n in
    let last = value_token v.text ∷ [] in
    shorter (ts ++ (us ++ (name ∷ (equals ∷ [])))) last k
    (moved k (ts ++ (us ++ (name ∷ (equals ∷ last)))) ((ts ++ (us ++ (name ∷ (equals ∷ [])))) ++ last)
    (sym (append_assoc ts (us ++ (name ∷ (equals ∷ []))) last
    ∙ ap (λ l. ts ++ l) (append_assoc us (name ∷ (equals ∷ [])) last)))
    (attributes_end ts (us ++ (name ∷ (equals ∷ last))) h k v.with_it of
    (SpellsAttributes.more_ h us a v.with_it name equals (value_token v.text) n p hn al he refl v.is)))
