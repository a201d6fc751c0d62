-- **What the machine of files holds is spelled**: commands that were read, and the head or attributes in work.
use Rattle.std.proofs.Common.{◌≡◌, ℕ, ℤ, pos, Bool, true, false, List, [], ◌∷◌, ◌++◌, Option, Some, None, refl}
use Rattle.std.proofs.Common.{sym, ◌∙◌, ap, subst, append_assoc, append-nil}
use Rattle.std.specs.Prelude.{if◌then◌else◌}
use Rattle.soy_base.specs.declared.fault.Span.{Span}
use Rattle.soy_lexer.specs.CommandSegment.{number_after}
use Rattle.soy_lexer.specs.LongestToken.{is_int}
use Rattle.soy_lexer.specs.declared.token.Token.{Token}
use Rattle.soy_tree.specs.Formed.{is_case_word}
use Rattle.soy_tree.specs.declared.expr.Expr.{Expr}
use Rattle.expr_parser.specs.declared.operand.Operand.{Operand}
use Rattle.expr_parser.specs.declared.state.ExprState.{ExprState}
use Rattle.expr_parser.specs.ExprSteps.{ExprStep as expr_does}
use Rattle.expr_parser.specs.declared.type_frame.TypeOperand.{TypeOperand}
use Rattle.expr_parser.specs.declared.type_state.TypeState.{TypeState}
use Rattle.expr_parser.specs.ExprRuns.{expr_run, expr_run_from, expr_start}
use Rattle.expr_parser.specs.ExprSteps.{expr_next, expr_step, step_of, whole_expr}
use Rattle.expr_parser.specs.TypeRuns.{type_run, type_run_from, type_start}
use Rattle.expr_parser.specs.TypeSteps.{type_next, type_step, type_step_of, whole_type}
use Rattle.expr_parser.proofs.ExprExact.{whole_expr-SpellsExpr}
use Rattle.expr_parser.proofs.ExprMachine.{next_is}
use Rattle.expr_parser.proofs.ExprRunning as expr_running
use Rattle.expr_parser.proofs.TypeExact.{whole_type-SpellsType}
use Rattle.expr_parser.proofs.TypeRunning as type_running
use Rattle.soy_parser.specs.declared.attributes.AttributeName.{AttributeName}
use Rattle.soy_parser.specs.declared.attributes.Attributes.{Attributes}
use Rattle.soy_parser.specs.declared.block.CommandState.{CommandState}
use Rattle.soy_parser.specs.declared.command.Command.{Command}
use Rattle.soy_parser.specs.declared.command.Middle.TheVariants as middle
use Rattle.soy_parser.specs.declared.command.CommandForm.{CommandForm}
use Rattle.soy_parser.specs.declared.command.CommandForm.TheVariants as says
use Rattle.soy_parser.specs.declared.head.Head.{Head}
use Rattle.soy_parser.specs.declared.head.Head.TheVariants as head
use Rattle.soy_parser.specs.declared.head.HeadKind.{HeadKind}
use Rattle.soy_parser.specs.declared.head.HeadKind.TheVariants as kind
use Rattle.soy_parser.specs.declared.spot.CommandSpot.{CommandSpot}
use Rattle.soy_parser.specs.declared.spot.CommandSpot.TheVariants as where_
use Rattle.soy_parser.specs.declared.spot.DottedUse.{DottedUse}
use Rattle.soy_parser.specs.declared.spot.DottedUse.TheVariants as dotted
use Rattle.soy_parser.specs.declared.spot.FileState.{FileState}
use Rattle.soy_parser.specs.declared.spot.Spot.{Spot}
use Rattle.soy_parser.specs.declared.spot.Spot.TheVariants as spot
use Rattle.soy_parser.specs.declared.spot.Use.{Use}
use Rattle.soy_parser.specs.declared.spot.Use.TheVariants as use_
use Rattle.soy_parser.specs.declared.terminal.CommandTerminal.{CommandTerminal}
use Rattle.soy_parser.specs.declared.terminal.CommandTerminal.TheVariants as terminal
use Rattle.soy_parser.specs.declared.terminal.CommandWord.{CommandWord}
use Rattle.soy_parser.specs.declared.terminal.CommandWord.TheVariants as word
use Rattle.soy_parser.specs.CommandSteps.{command_step, commands_from, command_run, command_start}
use Rattle.soy_parser.specs.CommandTerminals.{command_terminal_of}
use Rattle.soy_parser.specs.FileRuns.{file_run, file_run_from}
use Rattle.soy_parser.specs.FileSteps.{stands, taken, admits, ended_command, attribute_step, attributes_step, head_done}
use Rattle.soy_parser.specs.FileSteps.{with_value}
use Rattle.soy_parser.specs.FileSteps.{value_step, head_of, head_kind, next_value, in_expr, in_type, dotted_head}
use Rattle.soy_parser.specs.FileSteps.{dotted_step, if_word}
use Rattle.soy_parser.specs.FileSteps.{if_variable, if_in, if_colon, if_equals, if_int, if_case_word}
use Rattle.soy_parser.specs.FileSteps.{template_param_step}
use Rattle.soy_parser.specs.FileSteps.{template_param_word_step, template_step, call_step, for_in_step, let_colon_step}
use Rattle.soy_parser.specs.FileSteps.{param_colon_step}
use Rattle.soy_parser.specs.FileSteps.{after_int_step, after_case_word_step, spot_step, opens_if, print_use}
use Rattle.soy_parser.specs.FileSteps.{print_opens, case_opens}
use Rattle.soy_parser.specs.FileSteps.{bare_expr, bare_opens, opened_step, between_step, file_step_at, file_step}
use Rattle.soy_parser.specs.FileSteps.{file_start}
use Rattle.soy_parser.specs.Heads.{no_attributes, attribute_name, allows, with_attribute, SpellsAttributes, form_at}
use Rattle.soy_parser.specs.SpellsCommand.{SpellsCommand}
use Rattle.soy_parser.specs.SpellsHead.{SpellsHead, SpellsDotted, SpellsInts, SpellsCaseWords, SpellsDot}
use Rattle.soy_parser.specs.SpellsHead.{SpellsRequired, SpellsVariables, bare_head}
use Rattle.soy_parser.proofs.OfCommands.CommandRunning as command_running
use Rattle.soy_parser.proofs.OfHeads.HeadsBegun.{UseBegins, CaseBegins, DottedBegins, HeadOf, Begun, use_head, one_value}
use Rattle.soy_parser.proofs.OfHeads.HeadsBegun.{case_values}
use Rattle.soy_parser.proofs.OfHeads.HeadsBegun.{dotted_head_of}
use Rattle.soy_parser.proofs.OfCommands.WrittenTokens.{Speaks, speaks_append, speaks_one}

-- between two commands
pub record Heard (s : CommandState) (ts : List Token) : Type 0 where
  pub commands : List Command
  pub speaks : Speaks ts commands
  pub runs : command_run commands command_start ≡ Some s

-- directly after a `{`
pub record HeldOpened (s : CommandState) (from : Span) (ts : List Token) : Type 0 where
  pub prefix : List Token
  pub begin : Token
  pub whole : ts ≡ prefix ++ (begin ∷ [])
  pub heard : Heard s prefix
  pub begins : command_terminal_of begin ≡ terminal.Begin
  pub starts : begin.span ≡ from

-- further on in a command
pub record HeldInside (s : CommandState) (from : Span) (at : Spot) (ts : List Token) : Type 0 where
  pub prefix : List Token
  pub begin : Token
  pub own : List Token
  pub kind_ : HeadKind
  pub whole : ts ≡ prefix ++ (begin ∷ own)
  pub heard : Heard s prefix
  pub begins : command_terminal_of begin ≡ terminal.Begin
  pub starts : begin.span ≡ from
  pub begun : Begun at own kind_
  pub admitted : admits s kind_ ≡ true

abbrev pub Held_at : CommandSpot → CommandState → List Token → Type 0
Held_at where_.Between s ts = Heard s ts
Held_at (where_.Opened from) s ts = HeldOpened s from ts
Held_at (where_.Inside from at) s ts = HeldInside s from at ts

abbrev pub Held : FileState → List Token → Type 0
Held st ts = Held_at st.spot st.commands ts

abbrev pub Fine : Option FileState → List Token → Type 0
Fine None ts = Unit {0}
Fine (Some st) ts = Held st ts

-- a command has been read
taken_fine : (s : CommandState) (prefix us : List Token) (ds : List ℕ) (ws : List Bool) (c : Command) → Heard s prefix →
    SpellsCommand us ds ws c → Fine (taken (command_step s c)) (prefix ++ us)
taken_fine s prefix us ds ws c h p = over (command_step s c) refl
  where
    over : (to : Option CommandState) → command_step s c ≡ to → Fine (taken to) (prefix ++ us)
    over None e = tt
    over (Some m) e = record {
      commands = h.commands ++ (c ∷ []);
      speaks = speaks_append prefix us h.commands (c ∷ []) h.speaks (speaks_one us ds ws c p);
      runs = command_running.run_append h.commands (c ∷ []) command_start
          ∙ (ap (commands_from (command_run (c ∷ []))) h.runs ∙ ap (commands_from (command_run [])) e);
    }

between_fine : (s : CommandState) (ts : List Token) (t : Token) (m : CommandTerminal) → command_terminal_of t ≡ m →
    Heard s ts → Fine (between_step s t m) (ts ++ (t ∷ []))
between_fine s ts t terminal.Text e h = taken_fine s ts (t ∷ []) _ _ _ h (SpellsCommand.text_ t e)
between_fine s ts t terminal.Begin e h =
    record { prefix = ts; begin = t; whole = refl; heard = h; begins = e; starts = refl }
between_fine s ts t _ e h = tt

-- in a command that was begun
module _ (s : CommandState) (prefix : List Token) (begin : Token) (heard : Heard s prefix)
    (begins : command_terminal_of begin ≡ terminal.Begin) where
  -- a state after these tokens of the command
  abbrev Goes : Option FileState → List Token → Type 0
  Goes o own = Fine o (prefix ++ (begin ∷ own))

  again : (o : Option FileState) (us vs : List Token) → us ≡ vs → Goes o us → Goes o vs
  again o us vs e g = subst (λ l. Fine o (prefix ++ (begin ∷ l))) e g

  stand : (at : Spot) (own : List Token) (k : HeadKind) → Begun at own k → admits s k ≡ true →
      Goes (stands s begin.span at) own
  stand at own k b ok = record {
    prefix = prefix;
    begin = begin;
    own = own;
    kind_ = k;
    whole = refl;
    heard = heard;
    begins = begins;
    starts = refl;
    begun = b;
    admitted = ok;
  }

  if_goes : (b : Bool) (to : Option FileState) (own : List Token) → (b ≡ true → Goes to own) →
      Goes (if b then to else None) own
  if_goes true to own f = f refl
  if_goes false to own f = tt

  -- a token of one kind
  word_goes : (m : CommandTerminal) (to : Option FileState) (own : List Token) →
      ((w : CommandWord) → m ≡ terminal.Word w → Goes to own) → Goes (if_word m to) own
  word_goes (terminal.Word w) to own f = f w refl
  word_goes _ to own f = tt

  variable_goes : (m : CommandTerminal) (to : Option FileState) (own : List Token) →
      (m ≡ terminal.Variable → Goes to own) → Goes (if_variable m to) own
  variable_goes terminal.Variable to own f = f refl
  variable_goes _ to own f = tt

  in_goes : (m : CommandTerminal) (to : Option FileState) (own : List Token) →
      (m ≡ terminal.Word word.In → Goes to own) → Goes (if_in m to) own
  in_goes (terminal.Word word.In) to own f = f refl
  in_goes _ to own f = tt

  colon_goes : (m : CommandTerminal) (to : Option FileState) (own : List Token) →
      (m ≡ terminal.Colon → Goes to own) → Goes (if_colon m to) own
  colon_goes terminal.Colon to own f = f refl
  colon_goes _ to own f = tt

  equals_goes : (m : CommandTerminal) (to : Option FileState) (own : List Token) →
      (m ≡ terminal.Equals → Goes to own) → Goes (if_equals m to) own
  equals_goes terminal.Equals to own f = f refl
  equals_goes _ to own f = tt

  int_goes : (m : CommandTerminal) (text : List ℕ) (to : Option FileState) (own : List Token) →
      (m ≡ terminal.Int → is_int text ≡ true → Goes to own) → Goes (if_int m text to) own
  int_goes terminal.Int text to own f = if_goes (is_int text) to own (λ e. f refl e)
  int_goes _ text to own f = tt

  case_word_goes : (m : CommandTerminal) (text : List ℕ) (to : Option FileState) (own : List Token) →
      (m ≡ terminal.Str → is_case_word text ≡ true → Goes to own) → Goes (if_case_word m text to) own
  case_word_goes terminal.Str text to own f = if_goes (is_case_word text) to own (λ e. f refl e)
  case_word_goes _ text to own f = tt

  -- a head with attributes, and a further token
  module _ (ts : List Token) (h : Head) (k : HeadKind) (of : HeadOf ts h k) (ok : admits s k ≡ true) where
    attributes_fine : (us : List Token) (a : Attributes) (t : Token) → SpellsAttributes h us a →
        Goes (attributes_step s begin.span h a t) (ts ++ (us ++ (t ∷ [])))
    attributes_fine us a t p = over (attribute_name (command_terminal_of t)) refl
      where
        ends : (o : Option CommandForm) → form_at h a (command_terminal_of t) ≡ o →
            Goes (ended_command s begin.span o t) (ts ++ (us ++ (t ∷ [])))
        ends None e = tt
        ends (Some said) e =
            taken_fine s prefix (begin ∷ (ts ++ (us ++ (t ∷ [])))) _ _ _ heard
            (SpellsCommand.command_ begin t ts us of.depths of.words h a said begins of.spells p e)

        over : (o : Option AttributeName) → attribute_name (command_terminal_of t) ≡ o →
            Goes (attribute_step s begin.span h a o t) (ts ++ (us ++ (t ∷ [])))
        over (Some n) e =
            if_goes (allows h a n) (stands s begin.span (spot.Equals h a n)) (ts ++ (us ++ (t ∷ [])))
            (λ al. stand (spot.Equals h a n) (ts ++ (us ++ (t ∷ []))) k (Begun.equals_ ts us t h k a n of p e al) ok)
        over None e = ends (form_at h a (command_terminal_of t)) refl

    done_fine : (t : Token) → Goes (head_done s begin.span h t) (ts ++ (t ∷ []))
    done_fine t = attributes_fine [] no_attributes t (SpellsAttributes.none_ h)

    value_fine : (us : List Token) (a : Attributes) (n : AttributeName) (name equals t : Token) (m : CommandTerminal) →
        command_terminal_of t ≡ m → SpellsAttributes h us a → attribute_name (command_terminal_of name) ≡ Some n →
        allows h a n ≡ true → command_terminal_of equals ≡ terminal.Equals →
        Goes (value_step s begin.span h a n t m) (ts ++ (us ++ (name ∷ (equals ∷ (t ∷ [])))))
    value_fine us a n name equals t terminal.Attribute e p hn al he = over (with_attribute a n t.text) refl
      where
        over : (o : Option Attributes) → with_attribute a n t.text ≡ o →
            Goes (with_value s begin.span h o) (ts ++ (us ++ (name ∷ (equals ∷ (t ∷ [])))))
        over None w = tt
        over (Some b) w =
            stand (spot.Attributes h b) (ts ++ (us ++ (name ∷ (equals ∷ (t ∷ []))))) k
            (Begun.attributes_ ts (us ++ (name ∷ (equals ∷ (t ∷ [])))) h k b of
            (SpellsAttributes.more_ h us a b name equals t n p hn al he e w)) ok
    value_fine us a n name equals t _ e p hn al he = tt

  -- tokens at the end of two lists
  last_of_two : (ts us vs : List Token) → ts ++ (us ++ vs) ≡ (ts ++ us) ++ vs
  last_of_two ts us vs = sym (append_assoc ts us vs)

  -- at the head of a template

  template_param_fine : (t sign : Token) (m : CommandTerminal) → command_terminal_of t ≡ m →
      command_terminal_of sign ≡ terminal.At → admits s kind.TemplateParam ≡ true →
      Goes (template_param_step s begin.span m) (sign ∷ (t ∷ []))
  template_param_fine t sign (terminal.Word word.Param) e hs ok =
      stand spot.TemplateParamWord _ kind.TemplateParam (Begun.template_param_word_ sign t hs e) ok
  template_param_fine t sign _ e hs ok = tt

  template_param_word_fine : (t sign u : Token) (m : CommandTerminal) → command_terminal_of t ≡ m →
      command_terminal_of sign ≡ terminal.At → command_terminal_of u ≡ terminal.Word word.Param →
      admits s kind.TemplateParam ≡ true → Goes (template_param_word_step s begin.span t m) (sign ∷ (u ∷ (t ∷ [])))
  template_param_word_fine t sign u terminal.Question e hs hu ok =
      stand spot.TemplateParamName _ kind.TemplateParam (Begun.template_param_name_ sign u t hs hu e) ok
  template_param_word_fine t sign u (terminal.Word w) e hs hu ok =
      stand (spot.TemplateParamColon t.text true) _ kind.TemplateParam
      (Begun.template_param_colon_ sign u t w [] true hs hu SpellsRequired.required_ e) ok
  template_param_word_fine t sign u _ e hs hu ok = tt

  -- names

  template_opening : (t n : Token) (w : CommandWord) (ts : List Token)
      → command_terminal_of t ≡ terminal.Word word.Template →
      SpellsDot ts → command_terminal_of n ≡ terminal.Word w → admits s kind.Template ≡ true →
      Goes (stands s begin.span (spot.Attributes (head.Template n.text) no_attributes)) (t ∷ (ts ++ (n ∷ [])))
  template_opening t n w ts ht d hn ok =
      again (stands s begin.span (spot.Attributes (head.Template n.text) no_attributes)) _ _
      (append-nil (t ∷ (ts ++ (n ∷ []))))
      (stand (spot.Attributes (head.Template n.text) no_attributes) ((t ∷ (ts ++ (n ∷ []))) ++ []) kind.Template
      (Begun.attributes_ (t ∷ (ts ++ (n ∷ []))) [] (head.Template n.text) kind.Template no_attributes
      (record { depths = _; words = _; spells = SpellsHead.template_ t n w ts ht d hn; kind_is = refl })
      (SpellsAttributes.none_ (head.Template n.text))) ok)

  template_fine : (t u : Token) (m : CommandTerminal) → command_terminal_of t ≡ m →
      command_terminal_of u ≡ terminal.Word word.Template → admits s kind.Template ≡ true →
      Goes (template_step s begin.span t m) (u ∷ (t ∷ []))
  template_fine t u terminal.Dot e hu ok = stand spot.TemplateName _ kind.Template (Begun.template_name_ u t hu e) ok
  template_fine t u (terminal.Word w) e hu ok = template_opening u t w [] hu SpellsDot.without_ e ok
  template_fine t u _ e hu ok = tt

  call_fine : (t u : Token) (m : CommandTerminal) → command_terminal_of t ≡ m →
      command_terminal_of u ≡ terminal.Word word.Call → admits s kind.Call ≡ true →
      Goes (call_step s begin.span t m) (u ∷ (t ∷ []))
  call_fine t u terminal.Dot e hu ok =
      stand (spot.DottedName dotted.Call []) _ kind.Call
      (Begun.dotted_first_ (u ∷ (t ∷ [])) dotted.Call kind.Call
      (DottedBegins.call_ u (t ∷ []) hu (SpellsDot.with_ t e))) ok
  call_fine t u (terminal.Word w) e hu ok =
      stand (spot.Dotted dotted.Call t.text) _ kind.Call
      (Begun.dotted_ (u ∷ []) (t ∷ []) dotted.Call kind.Call t.text (DottedBegins.call_ u [] hu SpellsDot.without_)
      (SpellsDotted.one_ t w e)) ok
  call_fine t u _ e hu ok = tt

  dotted_fine : (t : Token) (ts us : List Token) (of : DottedUse) (k : HeadKind) (text : List ℕ) (m : CommandTerminal) →
      command_terminal_of t ≡ m → DottedBegins of ts k → SpellsDotted us text → admits s k ≡ true →
      Goes (dotted_step s begin.span of text t m) (ts ++ (us ++ (t ∷ [])))
  dotted_fine t ts us of k text terminal.Dot e d p ok =
      stand (spot.DottedName of (text ++ (46 ∷ []))) _ k (Begun.dotted_next_ ts us of k text t d p e) ok
  dotted_fine t ts us of k text m e d p ok =
      again (head_done s begin.span (dotted_head of text) t) _ _ (append_assoc ts us (t ∷ []))
      (done_fine (ts ++ us) (dotted_head of text) k (dotted_head_of of ts k d us text p) ok t)

  -- a loop, a let and a param

  for_in_fine : (t u v : Token) (m : CommandTerminal) → command_terminal_of t ≡ m →
      command_terminal_of u ≡ terminal.Word word.For → command_terminal_of v ≡ terminal.Variable
      → admits s kind.For ≡ true →
      Goes (for_in_step s begin.span v.text m) (u ∷ (v ∷ (t ∷ [])))
  for_in_fine t u v terminal.Comma e hu hv ok =
      stand (spot.ForIndex v.text) _ kind.For (Begun.for_index_ u v t hu hv e) ok
  for_in_fine t u v (terminal.Word word.In) e hu hv ok =
      stand (spot.Expr (use_.For v.text None) expr_start) _ kind.For
      (Begun.expr_ (u ∷ (v ∷ (t ∷ []))) [] (use_.For v.text None) kind.For expr_start
      (UseBegins.for_ u t (v ∷ []) v.text None hu (SpellsVariables.one_ v hv) e) refl) ok
  for_in_fine t u v _ e hu hv ok = tt

  let_colon_fine : (t u v : Token) (m : CommandTerminal) → command_terminal_of t ≡ m →
      command_terminal_of u ≡ terminal.Word word.Let → command_terminal_of v ≡ terminal.Variable
      → admits s kind.Let ≡ true →
      Goes (let_colon_step s begin.span v.text t m) (u ∷ (v ∷ (t ∷ [])))
  let_colon_fine t u v terminal.Colon e hu hv ok =
      stand (spot.Expr (use_.Let v.text) expr_start) _ kind.Let
      (Begun.expr_ (u ∷ (v ∷ (t ∷ []))) [] (use_.Let v.text) kind.Let expr_start (UseBegins.let_ u v t hu hv e) refl) ok
  let_colon_fine t u v m e hu hv ok =
      done_fine (u ∷ (v ∷ [])) (head.Let v.text) kind.Let
      (record { depths = _; words = _; spells = SpellsHead.let_block_ u v hu hv; kind_is = refl }) ok t

  param_colon_fine : (t u n : Token) (w : CommandWord) (m : CommandTerminal) → command_terminal_of t ≡ m →
      command_terminal_of u ≡ terminal.Word word.Param → command_terminal_of n ≡ terminal.Word w
      → admits s kind.Param ≡ true →
      Goes (param_colon_step s begin.span n.text t m) (u ∷ (n ∷ (t ∷ [])))
  param_colon_fine t u n w terminal.Colon e hu hn ok =
      stand (spot.Expr (use_.Param n.text) expr_start) _ kind.Param
      (Begun.expr_ (u ∷ (n ∷ (t ∷ []))) [] (use_.Param n.text) kind.Param expr_start
      (UseBegins.param_ u n t w hu hn e) refl) ok
  param_colon_fine t u n w m e hu hn ok =
      done_fine (u ∷ (n ∷ [])) (head.Param n.text) kind.Param
      (record { depths = _; words = _; spells = SpellsHead.param_block_ u n w hu hn; kind_is = refl }) ok t

  -- the values of a case

  after_int_fine : (t u : Token) (us : List Token) (values : List ℤ) (m : CommandTerminal) → command_terminal_of t ≡ m →
      command_terminal_of u ≡ terminal.Word word.Case → SpellsInts us values → admits s kind.PluralCase ≡ true →
      Goes (after_int_step s begin.span values t m) (u ∷ (us ++ (t ∷ [])))
  after_int_fine t u us values terminal.Comma e hu p ok =
      stand (spot.IntValue values) _ kind.PluralCase (Begun.int_next_ u t us values hu p e) ok
  after_int_fine t u us values m e hu p ok =
      done_fine (u ∷ us) (head.Whole (says.GoesOn (middle.PluralCase values))) kind.PluralCase
      (record { depths = _; words = _; spells = SpellsHead.plural_case_ u us values hu p; kind_is = refl }) ok t

  after_case_word_fine : (t u : Token) (us : List Token) (values : List (List ℕ)) (m : CommandTerminal) →
      command_terminal_of t ≡ m → command_terminal_of u ≡ terminal.Word word.Case → SpellsCaseWords us values →
      admits s kind.SelectCase ≡ true → Goes (after_case_word_step s begin.span values t m) (u ∷ (us ++ (t ∷ [])))
  after_case_word_fine t u us values terminal.Comma e hu p ok =
      stand (spot.CaseWord values) _ kind.SelectCase (Begun.case_word_next_ u t us values hu p e) ok
  after_case_word_fine t u us values m e hu p ok =
      done_fine (u ∷ us) (head.Whole (says.GoesOn (middle.SelectCase values))) kind.SelectCase
      (record { depths = _; words = _; spells = SpellsHead.select_case_ u us values hu p; kind_is = refl }) ok t

  -- expressions and types

  on_expr : (vs : List Token) (t : Token) (r m : ExprState) → expr_run vs expr_start ≡ Some r → expr_next r t ≡ Some m →
      expr_run (vs ++ (t ∷ [])) expr_start ≡ Some m
  on_expr vs t r m q e = expr_running.run_append vs (t ∷ []) expr_start
      ∙ (ap (expr_run_from (expr_run (t ∷ []))) q ∙ ap (expr_run_from (expr_run [])) e)

  expr_fine : (t : Token) (us vs : List Token) (of : Use) (k : HeadKind) (r : ExprState) → UseBegins of us k →
      expr_run vs expr_start ≡ Some r → admits s k ≡ true →
      Goes (in_expr s begin.span of t (expr_step r t)) (us ++ (vs ++ (t ∷ [])))
  expr_fine t us vs of k r u q ok =
      subst (λ o. Goes (in_expr s begin.span of t o) (us ++ (vs ++ (t ∷ [])))) (sym (next_is r.expected r.frames t))
      (over (expr_next r t) refl)
    where
      ends : (o : Option Operand) → whole_expr r ≡ o →
          Goes (in_expr s begin.span of t (expr_does.End o)) (us ++ (vs ++ (t ∷ [])))
      ends None e = tt
      ends (Some x) e =
          let p = whole_expr-SpellsExpr vs r x q e in
          subst (λ o. Goes o (us ++ (vs ++ (t ∷ []))))
          (sym (one_value of us k u s begin.span x t (command_terminal_of t)))
          (again (head_done s begin.span (head_of of x) t) _ _ (append_assoc us vs (t ∷ []))
          (done_fine (us ++ vs) (head_of of x) k (use_head of us k u vs p.depths x p.spells) ok t))

      over : (to : Option ExprState) → expr_next r t ≡ to →
          Goes (in_expr s begin.span of t (step_of to (whole_expr r))) (us ++ (vs ++ (t ∷ [])))
      over (Some m) e =
          stand (spot.Expr of m) (us ++ (vs ++ (t ∷ []))) k
          (Begun.expr_ us (vs ++ (t ∷ [])) of k m u (on_expr vs t r m q e)) ok
      over None e = ends (whole_expr r) refl

  value_in_case : (t c : Token) (us vs : List Token) (values : List Expr) (r : ExprState) (x : Operand)
      (m : CommandTerminal) →
      command_terminal_of t ≡ m → command_terminal_of c ≡ terminal.Word word.Case → CaseBegins us values →
      expr_run vs expr_start ≡ Some r → whole_expr r ≡ Some x → admits s kind.Case ≡ true →
      Goes (next_value s begin.span (use_.Case values) x t m) (c ∷ (us ++ (vs ++ (t ∷ []))))
  value_in_case t c us vs values r x terminal.Comma e hc b q w ok =
      let p = whole_expr-SpellsExpr vs r x q w in
      let g = case_values us values b vs p.depths x p.spells in
      let next = values ++ (x.expr ∷ []) in
      again (stands s begin.span (spot.Expr (use_.Case next) expr_start)) (c ∷ (((us ++ vs) ++ (t ∷ [])) ++ [])) _
      (ap (λ l. c ∷ l) (append-nil ((us ++ vs) ++ (t ∷ [])) ∙ append_assoc us vs (t ∷ [])))
      (stand (spot.Expr (use_.Case next) expr_start) (c ∷ (((us ++ vs) ++ (t ∷ [])) ++ [])) kind.Case
      (Begun.case_ c ((us ++ vs) ++ (t ∷ [])) [] next expr_start hc
      (CaseBegins.next_ (us ++ vs) g.depths next t g.spells e) refl) ok)
  value_in_case t c us vs values r x m e hc b q w ok =
      let p = whole_expr-SpellsExpr vs r x q w in
      let g = case_values us values b vs p.depths x p.spells in
      again (head_done s begin.span (head_of (use_.Case values) x) t) (c ∷ ((us ++ vs) ++ (t ∷ []))) _
      (ap (λ l. c ∷ l) (append_assoc us vs (t ∷ [])))
      (done_fine (c ∷ (us ++ vs)) (head_of (use_.Case values) x) kind.Case
      (record {
        depths = _;
        words = _;
        spells = SpellsHead.case_ c (us ++ vs) g.depths (values ++ (x.expr ∷ [])) hc g.spells;
        kind_is = refl;
      }) ok t)

  case_fine : (t c : Token) (us vs : List Token) (values : List Expr) (r : ExprState) →
      command_terminal_of c ≡ terminal.Word word.Case → CaseBegins us values → expr_run vs expr_start ≡ Some r →
      admits s kind.Case ≡ true →
      Goes (in_expr s begin.span (use_.Case values) t (expr_step r t)) (c ∷ (us ++ (vs ++ (t ∷ []))))
  case_fine t c us vs values r hc b q ok =
      subst (λ o. Goes (in_expr s begin.span (use_.Case values) t o) (c ∷ (us ++ (vs ++ (t ∷ [])))))
      (sym (next_is r.expected r.frames t)) (over (expr_next r t) refl)
    where
      ends : (o : Option Operand) → whole_expr r ≡ o →
          Goes (in_expr s begin.span (use_.Case values) t (expr_does.End o)) (c ∷ (us ++ (vs ++ (t ∷ []))))
      ends None e = tt
      ends (Some x) e = value_in_case t c us vs values r x (command_terminal_of t) refl hc b q e ok

      over : (to : Option ExprState) → expr_next r t ≡ to →
          Goes (in_expr s begin.span (use_.Case values) t (step_of to (whole_expr r))) (c ∷ (us ++ (vs ++ (t ∷ []))))
      over (Some m) e =
          stand (spot.Expr (use_.Case values) m) (c ∷ (us ++ (vs ++ (t ∷ [])))) kind.Case
          (Begun.case_ c us (vs ++ (t ∷ [])) values m hc b (on_expr vs t r m q e)) ok
      over None e = ends (whole_expr r) refl

  on_type : (vs : List Token) (t : Token) (r m : TypeState) → type_run vs type_start ≡ Some r → type_next r t ≡ Some m →
      type_run (vs ++ (t ∷ [])) type_start ≡ Some m
  on_type vs t r m q e = type_running.run_append vs (t ∷ []) type_start
      ∙ (ap (type_run_from (type_run (t ∷ []))) q ∙ ap (type_run_from (type_run [])) e)

  type_fine : (t sign u n colon : Token) (w : CommandWord) (ts us : List Token) (required : Bool) (r : TypeState) →
      command_terminal_of sign ≡ terminal.At → command_terminal_of u ≡ terminal.Word word.Param
      → SpellsRequired ts required →
      command_terminal_of n ≡ terminal.Word w → command_terminal_of colon ≡ terminal.Colon →
      type_run us type_start ≡ Some r → admits s kind.TemplateParam ≡ true →
      Goes (in_type s begin.span n.text required t (type_step r t))
      (sign ∷ (u ∷ (ts ++ (n ∷ (colon ∷ (us ++ (t ∷ [])))))))
  type_fine t sign u n colon w ts us required r hs hu hq hn hc q ok = over (type_next r t) refl
    where
      ends : (o : Option TypeOperand) → whole_type r ≡ o →
          Goes (in_type s begin.span n.text required t (type_step_of None o))
          (sign ∷ (u ∷ (ts ++ (n ∷ (colon ∷ (us ++ (t ∷ [])))))))
      ends None e = tt
      ends (Some x) e =
          let p = whole_type-SpellsType us r x q e in
          again (head_done s begin.span (head.Whole (says.TemplateParam n.text required x.of)) t) _ _
          (ap (λ l. sign ∷ (u ∷ l)) (append_assoc ts (n ∷ (colon ∷ us)) (t ∷ [])))
          (done_fine (sign ∷ (u ∷ (ts ++ (n ∷ (colon ∷ us))))) (head.Whole (says.TemplateParam n.text required x.of))
          kind.TemplateParam
          (record {
            depths = _;
            words = _;
            spells = SpellsHead.template_param_ sign u n colon w ts us p.depths p.words required x hs hu hq
                hn hc p.spells;
            kind_is = refl;
          }) ok t)

      over : (to : Option TypeState) → type_next r t ≡ to →
          Goes (in_type s begin.span n.text required t (type_step_of to (whole_type r)))
          (sign ∷ (u ∷ (ts ++ (n ∷ (colon ∷ (us ++ (t ∷ [])))))))
      over (Some m) e =
          stand (spot.Type n.text required m) _ kind.TemplateParam
          (Begun.type_ sign u n colon w ts (us ++ (t ∷ [])) required m hs hu hq hn hc (on_type us t r m q e)) ok
      over None e = ends (whole_type r) refl

  -- **A token in a command keeps what was read.**
  spot_fine : (at : Spot) (own : List Token) (k : HeadKind) (t : Token) → Begun at own k → admits s k ≡ true →
      Goes (spot_step s begin.span at t (command_terminal_of t)) (own ++ (t ∷ []))
  spot_fine _ _ _ t (Begun.template_param_ sign hs) ok = template_param_fine t sign (command_terminal_of t) refl hs ok
  spot_fine _ _ _ t (Begun.template_param_word_ sign u hs hu) ok =
      template_param_word_fine t sign u (command_terminal_of t) refl hs hu ok
  spot_fine _ _ _ t (Begun.template_param_name_ sign u q hs hu hq) ok =
      word_goes (command_terminal_of t) _ _
      (λ w e. stand (spot.TemplateParamColon t.text false) _ kind.TemplateParam
      (Begun.template_param_colon_ sign u t w (q ∷ []) false hs hu (SpellsRequired.optional_ q hq) e) ok)
  spot_fine _ _ _ t (Begun.template_param_colon_ sign u n w ts required hs hu hq hn) ok =
      again (if_colon (command_terminal_of t) (stands s begin.span (spot.Type n.text required type_start))) _ _
      (sym (ap (λ l. sign ∷ (u ∷ l)) (append_assoc ts (n ∷ []) (t ∷ []))))
      (colon_goes (command_terminal_of t) (stands s begin.span (spot.Type n.text required type_start))
      (sign ∷ (u ∷ (ts ++ (n ∷ (t ∷ [])))))
      (λ e. stand (spot.Type n.text required type_start) (sign ∷ (u ∷ (ts ++ (n ∷ (t ∷ []))))) kind.TemplateParam
      (Begun.type_ sign u n t w ts [] required type_start hs hu hq hn e refl) ok))
  spot_fine _ _ _ t (Begun.type_ sign u n colon w ts us required r hs hu hq hn hc q) ok =
      again (in_type s begin.span n.text required t (type_step r t)) _ _
      (sym (ap (λ l. sign ∷ (u ∷ l)) (append_assoc ts (n ∷ (colon ∷ us)) (t ∷ []))))
      (type_fine t sign u n colon w ts us required r hs hu hq hn hc q ok)
  spot_fine _ _ _ t (Begun.template_ u hu) ok = template_fine t u (command_terminal_of t) refl hu ok
  spot_fine _ _ _ t (Begun.template_name_ u d hu hd) ok =
      word_goes (command_terminal_of t) _ _ (λ w e. template_opening u t w (d ∷ []) hu (SpellsDot.with_ d hd) e ok)
  spot_fine _ _ _ t (Begun.call_ u hu) ok = call_fine t u (command_terminal_of t) refl hu ok
  spot_fine _ _ _ t (Begun.dotted_first_ ts of k d) ok =
      word_goes (command_terminal_of t) _ _
      (λ w e. stand (spot.Dotted of t.text) (ts ++ (t ∷ [])) k
      (Begun.dotted_ ts (t ∷ []) of k t.text d (SpellsDotted.one_ t w e)) ok)
  spot_fine _ _ _ t (Begun.dotted_next_ ts us of k text dot d p hd) ok =
      let to = stands s begin.span (spot.Dotted of ((text ++ (46 ∷ [])) ++ t.text)) in
      again (if_word (command_terminal_of t) to) _ _
      (sym (append_assoc ts (us ++ (dot ∷ [])) (t ∷ []) ∙ ap (λ l. ts ++ l) (append_assoc us (dot ∷ []) (t ∷ []))))
      (word_goes (command_terminal_of t) to (ts ++ (us ++ (dot ∷ (t ∷ []))))
      (λ w e. subst (λ l. Goes (stands s begin.span (spot.Dotted of l)) (ts ++ (us ++ (dot ∷ (t ∷ [])))))
      (sym (append_assoc text (46 ∷ []) t.text))
      (stand (spot.Dotted of (text ++ (46 ∷ t.text))) (ts ++ (us ++ (dot ∷ (t ∷ [])))) k
      (Begun.dotted_ ts (us ++ (dot ∷ (t ∷ []))) of k (text ++ (46 ∷ t.text)) d
      (SpellsDotted.more_ us text dot t w p hd e)) ok)))
  spot_fine _ _ _ t (Begun.dotted_ ts us of k text d p) ok =
      again (dotted_step s begin.span of text t (command_terminal_of t)) _ _ (last_of_two ts us (t ∷ []))
      (dotted_fine t ts us of k text (command_terminal_of t) refl d p ok)
  spot_fine _ _ _ t (Begun.for_ u hu) ok =
      variable_goes (command_terminal_of t) _ _
      (λ e. stand (spot.ForIn t.text) _ kind.For (Begun.for_in_ u t hu e) ok)
  spot_fine _ _ _ t (Begun.for_in_ u v hu hv) ok = for_in_fine t u v (command_terminal_of t) refl hu hv ok
  spot_fine _ _ _ t (Begun.for_index_ u v c hu hv hc) ok =
      variable_goes (command_terminal_of t) _ _
      (λ e. stand (spot.ForIndexIn v.text t.text) _ kind.For (Begun.for_index_in_ u v c t hu hv hc e) ok)
  spot_fine _ _ _ t (Begun.for_index_in_ u v c i hu hv hc hi) ok =
      in_goes (command_terminal_of t) _ _
      (λ e. stand (spot.Expr (use_.For v.text (Some i.text)) expr_start) _ kind.For
      (Begun.expr_ (u ∷ (v ∷ (c ∷ (i ∷ (t ∷ []))))) [] (use_.For v.text (Some i.text)) kind.For expr_start
      (UseBegins.for_ u t (v ∷ (c ∷ (i ∷ []))) v.text (Some i.text) hu (SpellsVariables.two_ v c i hv hc hi) e) refl)
      ok)
  spot_fine _ _ _ t (Begun.let_ u hu) ok =
      variable_goes (command_terminal_of t) _ _
      (λ e. stand (spot.LetColon t.text) _ kind.Let (Begun.let_colon_ u t hu e) ok)
  spot_fine _ _ _ t (Begun.let_colon_ u v hu hv) ok = let_colon_fine t u v (command_terminal_of t) refl hu hv ok
  spot_fine _ _ _ t (Begun.param_ u hu) ok =
      word_goes (command_terminal_of t) _ _
      (λ w e. stand (spot.ParamColon t.text) _ kind.Param (Begun.param_colon_ u t w hu e) ok)
  spot_fine _ _ _ t (Begun.param_colon_ u n w hu hn) ok = param_colon_fine t u n w (command_terminal_of t) refl hu hn ok
  spot_fine _ _ _ t (Begun.int_first_ u hu) ok =
      int_goes (command_terminal_of t) t.text _ _
      (λ e f. stand (spot.AfterInt (pos (number_after 0 t.text) ∷ [])) _ kind.PluralCase
      (Begun.after_int_ u (t ∷ []) (pos (number_after 0 t.text) ∷ []) hu (SpellsInts.one_ t e f)) ok)
  spot_fine _ _ _ t (Begun.int_next_ u c us values hu p hc) ok =
      let next = values ++ (pos (number_after 0 t.text) ∷ []) in
      again (if_int (command_terminal_of t) t.text (stands s begin.span (spot.AfterInt next))) _ _
      (sym (ap (λ l. u ∷ l) (append_assoc us (c ∷ []) (t ∷ []))))
      (int_goes (command_terminal_of t) t.text (stands s begin.span (spot.AfterInt next)) (u ∷ (us ++ (c ∷ (t ∷ []))))
      (λ e f. stand (spot.AfterInt next) (u ∷ (us ++ (c ∷ (t ∷ [])))) kind.PluralCase
      (Begun.after_int_ u (us ++ (c ∷ (t ∷ []))) next hu (SpellsInts.more_ us values c t p hc e f)) ok))
  spot_fine _ _ _ t (Begun.after_int_ u us values hu p) ok = after_int_fine t u us values (command_terminal_of t) refl
      hu p ok
  spot_fine _ _ _ t (Begun.case_word_first_ u hu) ok =
      case_word_goes (command_terminal_of t) t.text _ _
      (λ e f. stand (spot.AfterCaseWord (t.text ∷ [])) _ kind.SelectCase
      (Begun.after_case_word_ u (t ∷ []) (t.text ∷ []) hu (SpellsCaseWords.one_ t e f)) ok)
  spot_fine _ _ _ t (Begun.case_word_next_ u c us values hu p hc) ok =
      let next = values ++ (t.text ∷ []) in
      again (if_case_word (command_terminal_of t) t.text (stands s begin.span (spot.AfterCaseWord next))) _ _
      (sym (ap (λ l. u ∷ l) (append_assoc us (c ∷ []) (t ∷ []))))
      (case_word_goes (command_terminal_of t) t.text (stands s begin.span (spot.AfterCaseWord next))
      (u ∷ (us ++ (c ∷ (t ∷ []))))
      (λ e f. stand (spot.AfterCaseWord next) (u ∷ (us ++ (c ∷ (t ∷ [])))) kind.SelectCase
      (Begun.after_case_word_ u (us ++ (c ∷ (t ∷ []))) next hu (SpellsCaseWords.more_ us values c t p hc e f)) ok))
  spot_fine _ _ _ t (Begun.after_case_word_ u us values hu p) ok =
      after_case_word_fine t u us values (command_terminal_of t) refl hu p ok
  spot_fine _ _ _ t (Begun.case_ u us vs values r hu b q) ok =
      again (in_expr s begin.span (use_.Case values) t (expr_step r t)) _ _
      (ap (λ l. u ∷ l) (last_of_two us vs (t ∷ []))) (case_fine t u us vs values r hu b q ok)
  spot_fine _ _ _ t (Begun.expr_ us vs of k r u q) ok =
      again (in_expr s begin.span of t (expr_step r t)) _ _ (last_of_two us vs (t ∷ []))
      (expr_fine t us vs of k r u q ok)
  spot_fine _ _ _ t (Begun.attributes_ ts us h k a of p) ok =
      again (attributes_step s begin.span h a t) _ _ (last_of_two ts us (t ∷ []))
      (attributes_fine ts h k of ok us a t p)
  spot_fine _ _ _ t (Begun.equals_ ts us n h k a name of p hn al) ok =
      again (if_equals (command_terminal_of t) (stands s begin.span (spot.Value h a name))) _ _
      (sym (append_assoc ts (us ++ (n ∷ [])) (t ∷ []) ∙ ap (λ l. ts ++ l) (append_assoc us (n ∷ []) (t ∷ []))))
      (equals_goes (command_terminal_of t) (stands s begin.span (spot.Value h a name)) (ts ++ (us ++ (n ∷ (t ∷ []))))
      (λ e. stand (spot.Value h a name) (ts ++ (us ++ (n ∷ (t ∷ [])))) k
      (Begun.value_ ts us n t h k a name of p hn al e) ok))
  spot_fine _ _ _ t (Begun.value_ ts us n q h k a name of p hn al he) ok =
      again (value_step s begin.span h a name t (command_terminal_of t)) _ _
      (sym (append_assoc ts (us ++ (n ∷ (q ∷ []))) (t ∷ [])
      ∙ ap (λ l. ts ++ l) (append_assoc us (n ∷ (q ∷ [])) (t ∷ []))))
      (value_fine ts h k of ok us a name n q t (command_terminal_of t) refl p hn al he)

  -- the first token after the `{`

  opens_fine : (k : HeadKind) (at : Spot) (own : List Token) → Begun at own k → Goes (opens_if s begin.span k at) own
  opens_fine k at own b = if_goes (admits s k) (stands s begin.span at) own (λ ok. stand at own k b ok)

  -- an expression with this use, which is admitted
  use_opens : (of : Use) (k : HeadKind) (us : List Token) → UseBegins of us k →
      Goes (opens_if s begin.span k (spot.Expr of expr_start)) us
  use_opens of k us u =
      if_goes (admits s k) (stands s begin.span (spot.Expr of expr_start)) us
      (λ ok. again (stands s begin.span (spot.Expr of expr_start)) _ _ (append-nil us)
      (stand (spot.Expr of expr_start) (us ++ []) k (Begun.expr_ us [] of k expr_start u refl) ok))

  print_fine : (t : Token) → command_terminal_of t ≡ terminal.Word word.Print →
      Goes (print_opens s begin.span (print_use s)) (t ∷ [])
  print_fine t e = over (admits s kind.Print) (admits s kind.MessagePrint) refl refl
    where
      over : (a b : Bool) → admits s kind.Print ≡ a → admits s kind.MessagePrint ≡ b →
          Goes (print_opens s begin.span
          (if a then Some use_.Print else (if b then Some use_.MessagePrint else None))) (t ∷ [])
      over true b p q =
          stand (spot.Expr use_.Print expr_start) (t ∷ []) kind.Print
          (Begun.expr_ (t ∷ []) [] use_.Print kind.Print expr_start (UseBegins.print_word_ t e) refl) p
      over false true p q =
          stand (spot.Expr use_.MessagePrint expr_start) (t ∷ []) kind.MessagePrint
          (Begun.expr_ (t ∷ []) [] use_.MessagePrint kind.MessagePrint expr_start (UseBegins.message_print_word_ t e)
          refl) q
      over false false p q = tt

  bare_expr_fine : (t : Token) → Goes (bare_expr s begin.span (print_use s) (expr_step expr_start t)) (t ∷ [])
  bare_expr_fine t =
      subst (λ o. Goes (bare_expr s begin.span (print_use s) o) (t ∷ []))
      (sym (next_is expr_start.expected expr_start.frames t))
      (over (expr_next expr_start t) (admits s kind.Print) (admits s kind.MessagePrint) refl refl refl)
    where
      over : (to : Option ExprState) (a b : Bool) → expr_next expr_start t ≡ to → admits s kind.Print ≡ a →
          admits s kind.MessagePrint ≡ b →
          Goes (bare_expr s begin.span (if a then Some use_.Print else (if b then Some use_.MessagePrint else None))
          (step_of to (whole_expr expr_start))) (t ∷ [])
      over (Some r) true b e p q =
          stand (spot.Expr use_.Print r) (t ∷ []) kind.Print
          (Begun.expr_ [] (t ∷ []) use_.Print kind.Print r UseBegins.print_ (ap (expr_run_from (expr_run [])) e)) p
      over (Some r) false true e p q =
          stand (spot.Expr use_.MessagePrint r) (t ∷ []) kind.MessagePrint
          (Begun.expr_ [] (t ∷ []) use_.MessagePrint kind.MessagePrint r UseBegins.message_print_
          (ap (expr_run_from (expr_run [])) e)) q
      over (Some r) false false e p q = tt
      over None true b e p q = tt
      over None false true e p q = tt
      over None false false e p q = tt

  case_opened_fine : (t : Token) → command_terminal_of t ≡ terminal.Word word.Case →
      Goes (case_opens s begin.span) (t ∷ [])
  case_opened_fine t e = over (admits s kind.Case) (admits s kind.PluralCase) refl refl
    where
      over : (a b : Bool) → admits s kind.Case ≡ a → admits s kind.PluralCase ≡ b →
          Goes (if a then stands s begin.span (spot.Expr (use_.Case []) expr_start) else
          (if b then stands s begin.span (spot.IntValue [])
          else opens_if s begin.span kind.SelectCase (spot.CaseWord [])))
          (t ∷ [])
      over true b p q =
          stand (spot.Expr (use_.Case []) expr_start) (t ∷ []) kind.Case
          (Begun.case_ t [] [] [] expr_start e CaseBegins.first_ refl) p
      over false true p q = stand (spot.IntValue []) (t ∷ []) kind.PluralCase (Begun.int_first_ t e) q
      over false false p q = opens_fine kind.SelectCase (spot.CaseWord []) (t ∷ []) (Begun.case_word_first_ t e)

  bare_fine : (t : Token) (o : Option Head) → bare_head (command_terminal_of t) ≡ o →
      Goes (bare_opens s begin.span o t) (t ∷ [])
  bare_fine t (Some h) e =
      opens_fine (head_kind h) (spot.Attributes h no_attributes) (t ∷ [])
      (Begun.attributes_ (t ∷ []) [] h (head_kind h) no_attributes
      (record { depths = _; words = _; spells = SpellsHead.bare_ t h e; kind_is = refl }) (SpellsAttributes.none_ h))
  bare_fine t None e = bare_expr_fine t

  opened_fine : (t : Token) (m : CommandTerminal) → command_terminal_of t ≡ m
      → Goes (opened_step s begin.span t m) (t ∷ [])
  opened_fine t terminal.At e = opens_fine kind.TemplateParam spot.TemplateParam (t ∷ []) (Begun.template_param_ t e)
  opened_fine t (terminal.Word word.Namespace) e =
      opens_fine kind.Namespace (spot.DottedName dotted.Namespace []) (t ∷ [])
      (Begun.dotted_first_ (t ∷ []) dotted.Namespace kind.Namespace (DottedBegins.namespace_ t e))
  opened_fine t (terminal.Word word.Template) e = opens_fine kind.Template spot.Template (t ∷ []) (Begun.template_ t e)
  opened_fine t (terminal.Word word.Print) e = print_fine t e
  opened_fine t (terminal.Word word.If) e = use_opens use_.If kind.If (t ∷ []) (UseBegins.if_ t e)
  opened_fine t (terminal.Word word.ElseIf) e = use_opens use_.ElseIf kind.ElseIf (t ∷ []) (UseBegins.else_if_ t e)
  opened_fine t (terminal.Word word.Switch) e = use_opens use_.Switch kind.Switch (t ∷ []) (UseBegins.switch_ t e)
  opened_fine t (terminal.Word word.Plural) e = use_opens use_.Plural kind.Plural (t ∷ []) (UseBegins.plural_ t e)
  opened_fine t (terminal.Word word.Select) e = use_opens use_.Select kind.Select (t ∷ []) (UseBegins.select_ t e)
  opened_fine t (terminal.Word word.Case) e = case_opened_fine t e
  opened_fine t (terminal.Word word.For) e = opens_fine kind.For spot.For (t ∷ []) (Begun.for_ t e)
  opened_fine t (terminal.Word word.Let) e = opens_fine kind.Let spot.Let (t ∷ []) (Begun.let_ t e)
  opened_fine t (terminal.Word word.Call) e = opens_fine kind.Call spot.Call (t ∷ []) (Begun.call_ t e)
  opened_fine t (terminal.Word word.Param) e = opens_fine kind.Param spot.Param (t ∷ []) (Begun.param_ t e)
  opened_fine t m e = bare_fine t (bare_head m) (ap bare_head e)

-- **A token keeps what was read.**
pub step_fine : (at : CommandSpot) (s : CommandState) (ts : List Token) (t : Token) → Held_at at s ts →
    Fine (file_step_at at s t (command_terminal_of t)) (ts ++ (t ∷ []))
step_fine where_.Between s ts t h = between_fine s ts t (command_terminal_of t) refl h
step_fine (where_.Opened from) s ts t h =
    subst (λ f. Fine (opened_step s f t (command_terminal_of t)) (ts ++ (t ∷ []))) h.starts
    (subst (λ l. Fine (opened_step s h.begin.span t (command_terminal_of t)) l)
    (sym (ap (λ l. l ++ (t ∷ [])) h.whole ∙ append_assoc h.prefix (h.begin ∷ []) (t ∷ [])))
    (opened_fine s h.prefix h.begin h.heard h.begins t (command_terminal_of t) refl))
step_fine (where_.Inside from at) s ts t h =
    subst (λ f. Fine (spot_step s f at t (command_terminal_of t)) (ts ++ (t ∷ []))) h.starts
    (subst (λ l. Fine (spot_step s h.begin.span at t (command_terminal_of t)) l)
    (sym (ap (λ l. l ++ (t ∷ [])) h.whole ∙ append_assoc h.prefix (h.begin ∷ h.own) (t ∷ [])))
    (spot_fine s h.prefix h.begin h.heard h.begins at h.own h.kind_ t h.begun h.admitted))

-- so do tokens one after the other
pub run_held : (ts us : List Token) (st st' : FileState) → Held st us → file_run ts st ≡ Some st' → Held st' (us ++ ts)
run_held [] us st st' h e =
    subst (λ l. Held st' l) (sym (append-nil us)) (subst (λ o. Fine o us) e h)
run_held (t ∷ ts) us st st' h e =
    subst (λ l. Held st' l) (append_assoc us (t ∷ []) ts)
    (over (file_step st t) e (step_fine st.spot st.commands us t h) (λ m. run_held ts (us ++ (t ∷ [])) m st'))
  where
    over : (to : Option FileState) → file_run_from (file_run ts) to ≡ Some st' → Fine to (us ++ (t ∷ [])) →
        ((m : FileState) → Held m (us ++ (t ∷ [])) → file_run ts m ≡ Some st' → Held st' ((us ++ (t ∷ [])) ++ ts)) →
        Held st' ((us ++ (t ∷ [])) ++ ts)
    over None q f inside_ = absurd (cc q)
    over (Some m) q f inside_ = inside_ m f q

-- **What is held after tokens is what they spell.**
pub start_run_held : (ts : List Token) (st : FileState) → file_run ts file_start ≡ Some st → Held st ts
start_run_held ts st e =
    run_held ts [] file_start st (record { commands = []; speaks = Speaks.none_; runs = refl }) e
