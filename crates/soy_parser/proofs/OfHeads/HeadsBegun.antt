-- What the tokens after a `{` have led to: at each spot a part of a head or of attributes, as the grammar has it.
use Rattle.std.proofs.Common.{◌≡◌, ℕ, ℤ, Bool, true, List, [], ◌∷◌, ◌++◌, Option, Some, refl, sym, ap}
use Rattle.std.proofs.Common.{subst, append_assoc}
use Rattle.soy_lexer.specs.declared.token.Token.{Token}
use Rattle.soy_tree.specs.declared.expr.Expr.{Expr}
use Rattle.expr_parser.specs.declared.operand.Operand.{Operand}
use Rattle.expr_parser.specs.declared.state.ExprState.{ExprState}
use Rattle.expr_parser.specs.declared.type_state.TypeState.{TypeState}
use Rattle.expr_parser.specs.ExprRuns.{expr_run, expr_start}
use Rattle.expr_parser.specs.SpellsExpr.{SpellsExpr}
use Rattle.expr_parser.specs.TypeRuns.{type_run, type_start}
use Rattle.soy_base.specs.declared.fault.Span.{Span}
use Rattle.soy_parser.specs.declared.attributes.AttributeName.{AttributeName}
use Rattle.soy_parser.specs.declared.attributes.Attributes.{Attributes}
use Rattle.soy_parser.specs.declared.block.CommandState.{CommandState}
use Rattle.soy_parser.specs.declared.head.Head.{Head}
use Rattle.soy_parser.specs.declared.head.HeadKind.{HeadKind}
use Rattle.soy_parser.specs.declared.head.HeadKind.TheVariants as kind
use Rattle.soy_parser.specs.declared.spot.DottedUse.{DottedUse}
use Rattle.soy_parser.specs.declared.spot.DottedUse.TheVariants as dotted
use Rattle.soy_parser.specs.declared.spot.Spot.{Spot}
use Rattle.soy_parser.specs.declared.spot.Spot.TheVariants as spot
use Rattle.soy_parser.specs.declared.spot.Use.{Use}
use Rattle.soy_parser.specs.declared.spot.Use.TheVariants as use_
use Rattle.soy_parser.specs.declared.terminal.CommandTerminal.{CommandTerminal}
use Rattle.soy_parser.specs.declared.terminal.CommandTerminal.TheVariants as terminal
use Rattle.soy_parser.specs.declared.terminal.CommandWord.{CommandWord}
use Rattle.soy_parser.specs.declared.terminal.CommandWord.TheVariants as word
use Rattle.soy_parser.specs.CommandTerminals.{command_terminal_of}
use Rattle.soy_parser.specs.Depth.{none_deep}
use Rattle.soy_parser.specs.TypeWords.{no_words}
use Rattle.soy_parser.specs.FileSteps.{head_kind, head_of, head_done, next_value, dotted_head}
use Rattle.soy_parser.specs.Heads.{SpellsAttributes, allows, attribute_name}
use Rattle.soy_parser.specs.SpellsHead.{SpellsHead, SpellsDotted, SpellsValues, SpellsInts, SpellsCaseWords, SpellsDot}
use Rattle.soy_parser.specs.SpellsHead.{SpellsRequired, SpellsVariables, expr_head}

-- the tokens before an expression, by its use
pub data UseBegins : Use → List Token → HeadKind → Type 0 where
  print_ : UseBegins use_.Print [] kind.Print
  print_word_ : (t : Token) → command_terminal_of t ≡ terminal.Word word.Print
      → UseBegins use_.Print (t ∷ []) kind.Print
  message_print_ : UseBegins use_.MessagePrint [] kind.MessagePrint
  message_print_word_ : (t : Token) → command_terminal_of t ≡ terminal.Word word.Print
      → UseBegins use_.MessagePrint (t ∷ []) kind.MessagePrint
  if_ : (t : Token) → command_terminal_of t ≡ terminal.Word word.If → UseBegins use_.If (t ∷ []) kind.If
  else_if_ : (t : Token) → command_terminal_of t ≡ terminal.Word word.ElseIf
      → UseBegins use_.ElseIf (t ∷ []) kind.ElseIf
  switch_ : (t : Token) → command_terminal_of t ≡ terminal.Word word.Switch → UseBegins use_.Switch (t ∷ []) kind.Switch
  plural_ : (t : Token) → command_terminal_of t ≡ terminal.Word word.Plural → UseBegins use_.Plural (t ∷ []) kind.Plural
  select_ : (t : Token) → command_terminal_of t ≡ terminal.Word word.Select → UseBegins use_.Select (t ∷ []) kind.Select
  for_ : (t i : Token) (ts : List Token) (n : List ℕ) (index : Option (List ℕ))
      → command_terminal_of t ≡ terminal.Word word.For → SpellsVariables ts n index
      → command_terminal_of i ≡ terminal.Word word.In → UseBegins (use_.For n index) (t ∷ (ts ++ (i ∷ []))) kind.For
  let_ : (t v colon : Token) → command_terminal_of t ≡ terminal.Word word.Let
      → command_terminal_of v ≡ terminal.Variable
      → command_terminal_of colon ≡ terminal.Colon → UseBegins (use_.Let v.text) (t ∷ (v ∷ (colon ∷ []))) kind.Let
  param_ : (t n colon : Token) (w : CommandWord) → command_terminal_of t ≡ terminal.Word word.Param
      → command_terminal_of n ≡ terminal.Word w → command_terminal_of colon ≡ terminal.Colon
      → UseBegins (use_.Param n.text) (t ∷ (n ∷ (colon ∷ []))) kind.Param

-- the tokens before a further value of a case, after its word
pub data CaseBegins : List Token → List Expr → Type 0 where
  first_ : CaseBegins [] []
  next_ : (ts : List Token) (ds : List ℕ) (values : List Expr) (comma : Token) → SpellsValues ts ds values
      → command_terminal_of comma ≡ terminal.Comma → CaseBegins (ts ++ (comma ∷ [])) values

-- the tokens before a name joined by dots
pub data DottedBegins : DottedUse → List Token → HeadKind → Type 0 where
  namespace_ : (t : Token) → command_terminal_of t ≡ terminal.Word word.Namespace
      → DottedBegins dotted.Namespace (t ∷ []) kind.Namespace
  call_ : (t : Token) (ts : List Token) → command_terminal_of t ≡ terminal.Word word.Call → SpellsDot ts
      → DottedBegins dotted.Call (t ∷ ts) kind.Call

-- a head that is spelled
pub record HeadOf (ts : List Token) (h : Head) (k : HeadKind) : Type 0 where
  pub depths : List ℕ
  pub words : List Bool
  pub spells : SpellsHead ts depths words h
  pub kind_is : head_kind h ≡ k

-- the tokens after a `{` lead to this spot, in a head of this kind
pub data Begun : Spot → List Token → HeadKind → Type 0 where
  template_param_ : (sign : Token) → command_terminal_of sign ≡ terminal.At
      → Begun spot.TemplateParam (sign ∷ []) kind.TemplateParam
  template_param_word_ : (sign t : Token) → command_terminal_of sign ≡ terminal.At
      → command_terminal_of t ≡ terminal.Word word.Param
      → Begun spot.TemplateParamWord (sign ∷ (t ∷ [])) kind.TemplateParam
  template_param_name_ : (sign t q : Token) → command_terminal_of sign ≡ terminal.At
      → command_terminal_of t ≡ terminal.Word word.Param → command_terminal_of q ≡ terminal.Question
      → Begun spot.TemplateParamName (sign ∷ (t ∷ (q ∷ []))) kind.TemplateParam
  template_param_colon_ : (sign t n : Token) (w : CommandWord) (ts : List Token) (required : Bool)
      → command_terminal_of sign ≡ terminal.At → command_terminal_of t ≡ terminal.Word word.Param
      → SpellsRequired ts required → command_terminal_of n ≡ terminal.Word w
      → Begun (spot.TemplateParamColon n.text required) (sign ∷ (t ∷ (ts ++ (n ∷ [])))) kind.TemplateParam
  type_ : (sign t n colon : Token) (w : CommandWord) (ts us : List Token) (required : Bool) (r : TypeState)
      → command_terminal_of sign ≡ terminal.At → command_terminal_of t ≡ terminal.Word word.Param
      → SpellsRequired ts required → command_terminal_of n ≡ terminal.Word w
      → command_terminal_of colon ≡ terminal.Colon
      → type_run us type_start ≡ Some r
      → Begun (spot.Type n.text required r) (sign ∷ (t ∷ (ts ++ (n ∷ (colon ∷ us))))) kind.TemplateParam
  template_ : (t : Token) → command_terminal_of t ≡ terminal.Word word.Template
      → Begun spot.Template (t ∷ []) kind.Template
  template_name_ : (t d : Token) → command_terminal_of t ≡ terminal.Word word.Template
      → command_terminal_of d ≡ terminal.Dot
      → Begun spot.TemplateName (t ∷ (d ∷ [])) kind.Template
  call_ : (t : Token) → command_terminal_of t ≡ terminal.Word word.Call → Begun spot.Call (t ∷ []) kind.Call
  dotted_first_ : (ts : List Token) (of : DottedUse) (k : HeadKind) → DottedBegins of ts k
      → Begun (spot.DottedName of []) ts k
  dotted_next_ : (ts us : List Token) (of : DottedUse) (k : HeadKind) (text : List ℕ) (dot : Token)
      → DottedBegins of ts k → SpellsDotted us text → command_terminal_of dot ≡ terminal.Dot
      → Begun (spot.DottedName of (text ++ (46 ∷ []))) (ts ++ (us ++ (dot ∷ []))) k
  dotted_ : (ts us : List Token) (of : DottedUse) (k : HeadKind) (text : List ℕ) → DottedBegins of ts k
      → SpellsDotted us text → Begun (spot.Dotted of text) (ts ++ us) k
  for_ : (t : Token) → command_terminal_of t ≡ terminal.Word word.For → Begun spot.For (t ∷ []) kind.For
  for_in_ : (t v : Token) → command_terminal_of t ≡ terminal.Word word.For → command_terminal_of v ≡ terminal.Variable
      → Begun (spot.ForIn v.text) (t ∷ (v ∷ [])) kind.For
  for_index_ : (t v comma : Token) → command_terminal_of t ≡ terminal.Word word.For
      → command_terminal_of v ≡ terminal.Variable → command_terminal_of comma ≡ terminal.Comma
      → Begun (spot.ForIndex v.text) (t ∷ (v ∷ (comma ∷ []))) kind.For
  for_index_in_ : (t v comma i : Token) → command_terminal_of t ≡ terminal.Word word.For
      → command_terminal_of v ≡ terminal.Variable → command_terminal_of comma ≡ terminal.Comma
      → command_terminal_of i ≡ terminal.Variable
      → Begun (spot.ForIndexIn v.text i.text) (t ∷ (v ∷ (comma ∷ (i ∷ [])))) kind.For
  let_ : (t : Token) → command_terminal_of t ≡ terminal.Word word.Let → Begun spot.Let (t ∷ []) kind.Let
  let_colon_ : (t v : Token) → command_terminal_of t ≡ terminal.Word word.Let
      → command_terminal_of v ≡ terminal.Variable
      → Begun (spot.LetColon v.text) (t ∷ (v ∷ [])) kind.Let
  param_ : (t : Token) → command_terminal_of t ≡ terminal.Word word.Param → Begun spot.Param (t ∷ []) kind.Param
  param_colon_ : (t n : Token) (w : CommandWord) → command_terminal_of t ≡ terminal.Word word.Param
      → command_terminal_of n ≡ terminal.Word w → Begun (spot.ParamColon n.text) (t ∷ (n ∷ [])) kind.Param
  int_first_ : (t : Token) → command_terminal_of t ≡ terminal.Word word.Case
      → Begun (spot.IntValue []) (t ∷ []) kind.PluralCase
  int_next_ : (t comma : Token) (us : List Token) (values : List ℤ) → command_terminal_of t ≡ terminal.Word word.Case
      → SpellsInts us values → command_terminal_of comma ≡ terminal.Comma
      → Begun (spot.IntValue values) (t ∷ (us ++ (comma ∷ []))) kind.PluralCase
  after_int_ : (t : Token) (us : List Token) (values : List ℤ) → command_terminal_of t ≡ terminal.Word word.Case
      → SpellsInts us values → Begun (spot.AfterInt values) (t ∷ us) kind.PluralCase
  case_word_first_ : (t : Token) → command_terminal_of t ≡ terminal.Word word.Case
      → Begun (spot.CaseWord []) (t ∷ []) kind.SelectCase
  case_word_next_ : (t comma : Token) (us : List Token) (values : List (List ℕ))
      → command_terminal_of t ≡ terminal.Word word.Case → SpellsCaseWords us values
      → command_terminal_of comma ≡ terminal.Comma
      → Begun (spot.CaseWord values) (t ∷ (us ++ (comma ∷ []))) kind.SelectCase
  after_case_word_ : (t : Token) (us : List Token) (values : List (List ℕ))
      → command_terminal_of t ≡ terminal.Word word.Case → SpellsCaseWords us values
      → Begun (spot.AfterCaseWord values) (t ∷ us) kind.SelectCase
  case_ : (t : Token) (us vs : List Token) (values : List Expr) (r : ExprState)
      → command_terminal_of t ≡ terminal.Word word.Case → CaseBegins us values → expr_run vs expr_start ≡ Some r
      → Begun (spot.Expr (use_.Case values) r) (t ∷ (us ++ vs)) kind.Case
  expr_ : (us vs : List Token) (of : Use) (k : HeadKind) (r : ExprState) → UseBegins of us k
      → expr_run vs expr_start ≡ Some r → Begun (spot.Expr of r) (us ++ vs) k
  attributes_ : (ts us : List Token) (h : Head) (k : HeadKind) (a : Attributes) → HeadOf ts h k
      → SpellsAttributes h us a
      → Begun (spot.Attributes h a) (ts ++ us) k
  equals_ : (ts us : List Token) (name : Token) (h : Head) (k : HeadKind) (a : Attributes) (n : AttributeName)
      → HeadOf ts h k → SpellsAttributes h us a → attribute_name (command_terminal_of name) ≡ Some n
      → allows h a n ≡ true → Begun (spot.Equals h a n) (ts ++ (us ++ (name ∷ []))) k
  value_ : (ts us : List Token) (name equals : Token) (h : Head) (k : HeadKind) (a : Attributes) (n : AttributeName)
      → HeadOf ts h k → SpellsAttributes h us a → attribute_name (command_terminal_of name) ≡ Some n
      → allows h a n ≡ true → command_terminal_of equals ≡ terminal.Equals
      → Begun (spot.Value h a n) (ts ++ (us ++ (name ∷ (equals ∷ [])))) k

-- with an expression they are a head
pub use_head : (of : Use) (us : List Token) (k : HeadKind) → UseBegins of us k → (vs : List Token) (ds : List ℕ)
    (x : Operand) → SpellsExpr 9 vs ds x → HeadOf (us ++ vs) (head_of of x) k
use_head _ _ _ UseBegins.print_ vs ds x p =
    record { depths = _; words = _; spells = SpellsHead.printed_ vs ds x p; kind_is = refl }
use_head _ _ _ (UseBegins.print_word_ t h) vs ds x p =
    record {
      depths = _;
      words = _;
      spells = SpellsHead.expression_ t vs ds x (head_of use_.Print x) p
          (ap (λ m. expr_head m x.expr) h);
      kind_is = refl;
    }
use_head _ _ _ UseBegins.message_print_ vs ds x p =
    record { depths = _; words = _; spells = SpellsHead.message_printed_ vs ds x p; kind_is = refl }
use_head _ _ _ (UseBegins.message_print_word_ t h) vs ds x p =
    record { depths = _; words = _; spells = SpellsHead.message_print_ t vs ds x h p; kind_is = refl }
use_head _ _ _ (UseBegins.if_ t h) vs ds x p =
    record {
      depths = _;
      words = _;
      spells = SpellsHead.expression_ t vs ds x (head_of use_.If x) p
          (ap (λ m. expr_head m x.expr) h);
      kind_is = refl;
    }
use_head _ _ _ (UseBegins.else_if_ t h) vs ds x p =
    record {
      depths = _;
      words = _;
      spells = SpellsHead.expression_ t vs ds x (head_of use_.ElseIf x) p
          (ap (λ m. expr_head m x.expr) h);
      kind_is = refl;
    }
use_head _ _ _ (UseBegins.switch_ t h) vs ds x p =
    record {
      depths = _;
      words = _;
      spells = SpellsHead.expression_ t vs ds x (head_of use_.Switch x) p
          (ap (λ m. expr_head m x.expr) h);
      kind_is = refl;
    }
use_head _ _ _ (UseBegins.plural_ t h) vs ds x p =
    record {
      depths = _;
      words = _;
      spells = SpellsHead.expression_ t vs ds x (head_of use_.Plural x) p
          (ap (λ m. expr_head m x.expr) h);
      kind_is = refl;
    }
use_head _ _ _ (UseBegins.select_ t h) vs ds x p =
    record {
      depths = _;
      words = _;
      spells = SpellsHead.expression_ t vs ds x (head_of use_.Select x) p
          (ap (λ m. expr_head m x.expr) h);
      kind_is = refl;
    }
use_head _ _ _ (UseBegins.for_ t i ts n index h v k) vs ds x p =
    record {
      depths = _;
      words = _;
      spells = subst (λ l. SpellsHead l (none_deep (t ∷ ts) ++ (0 ∷ ds)) (no_words (t ∷ (ts ++ (i ∷ vs))))
          (head_of (use_.For n index) x)) (sym (ap (λ l. t ∷ l) (append_assoc ts (i ∷ []) vs)))
          (SpellsHead.for_ t i ts vs ds n index x h v k p);
      kind_is = refl;
    }
use_head _ _ _ (UseBegins.let_ t v colon ht hv hc) vs ds x p =
    record { depths = _; words = _; spells = SpellsHead.let_ t v colon vs ds x ht hv hc p; kind_is = refl }
use_head _ _ _ (UseBegins.param_ t n colon w ht hn hc) vs ds x p =
    record { depths = _; words = _; spells = SpellsHead.param_ t n colon w vs ds x ht hn hc p; kind_is = refl }

-- no further value follows
pub one_value : (of : Use) (us : List Token) (k : HeadKind) → UseBegins of us k
    → (s : CommandState) (from : Span) (x : Operand)
    (t : Token) (m : CommandTerminal) → next_value s from of x t m ≡ head_done s from (head_of of x) t
one_value _ _ _ UseBegins.print_ s from x t m = refl
one_value _ _ _ (UseBegins.print_word_ u h) s from x t m = refl
one_value _ _ _ UseBegins.message_print_ s from x t m = refl
one_value _ _ _ (UseBegins.message_print_word_ u h) s from x t m = refl
one_value _ _ _ (UseBegins.if_ u h) s from x t m = refl
one_value _ _ _ (UseBegins.else_if_ u h) s from x t m = refl
one_value _ _ _ (UseBegins.switch_ u h) s from x t m = refl
one_value _ _ _ (UseBegins.plural_ u h) s from x t m = refl
one_value _ _ _ (UseBegins.select_ u h) s from x t m = refl
one_value _ _ _ (UseBegins.for_ u i ts n index h v j) s from x t m = refl
one_value _ _ _ (UseBegins.let_ u v colon hu hv hc) s from x t m = refl
one_value _ _ _ (UseBegins.param_ u n colon w hu hn hc) s from x t m = refl

-- a case with its values is a head
pub record SpelledValues (ts : List Token) (values : List Expr) : Type 0 where
  pub depths : List ℕ
  pub spells : SpellsValues ts depths values

pub case_values : (us : List Token) (values : List Expr) → CaseBegins us values
    → (vs : List Token) (ds : List ℕ) (x : Operand) →
    SpellsExpr 9 vs ds x → SpelledValues (us ++ vs) (values ++ (x.expr ∷ []))
case_values _ _ CaseBegins.first_ vs ds x p = record { depths = ds; spells = SpellsValues.one_ vs ds x p }
case_values _ _ (CaseBegins.next_ ts es values comma w hc) vs ds x p = record {
  depths = es ++ (0 ∷ ds);
  spells = subst (λ l. SpellsValues l (es ++ (0 ∷ ds)) (values ++ (x.expr ∷ [])))
      (sym (append_assoc ts (comma ∷ []) vs))
      (SpellsValues.more_ ts vs es ds values comma x w hc p);
}

pub dotted_head_of : (of : DottedUse) (ts : List Token) (k : HeadKind) → DottedBegins of ts k → (us : List Token)
    (text : List ℕ) → SpellsDotted us text → HeadOf (ts ++ us) (dotted_head of text) k
dotted_head_of _ _ _ (DottedBegins.namespace_ t h) us text p =
    record { depths = _; words = _; spells = SpellsHead.namespace_ t us text h p; kind_is = refl }
dotted_head_of _ _ _ (DottedBegins.call_ t ts h d) us text p =
    record { depths = _; words = _; spells = SpellsHead.call_ t ts us text h d p; kind_is = refl }
