-- What the tokens of a command spell is formed, where their words and variables are names.
use Rattle.std.proofs.Common.{◌≡◌, ℕ, ℤ, ◌+◌, ◌==◌, Bool, true, false, ◌&&◌, List, [], ◌∷◌, ◌++◌}
use Rattle.std.proofs.Common.{Option, Some, None, refl, subst, arith}
use Rattle.std.specs.Prelude.{codes, encode_utf8_all, if◌then◌else◌, option_map, unwrap_or}
use Rattle.std.specs.Str.{bytes_eq}
use Rattle.std.specs.Char.{is_ascii_digit}
use Rattle.std.specs.Prelude.{nat_le, pos}
use Rattle.std.specs.List.{list_all}
use Rattle.std.proofs.lemmas.Bool.Decides.{nat_tests}
use Rattle.soy_base.specs.Cuts.{is_nil}
use Rattle.soy_base.specs.Names.{is_name, is_dotted_name}
use Rattle.soy_base.specs.declared.kind.Kind.{Kind}
use Rattle.soy_lexer.specs.CommandSegment.{number_after}
use Rattle.soy_lexer.specs.LongestToken.{is_int}
use Rattle.soy_lexer.specs.declared.token.Token.{Token}
use Rattle.soy_lexer.specs.declared.token.TokenKind.{TokenKind}
use Rattle.soy_lexer.specs.declared.token.TokenKind.TheVariants as kind
use Rattle.soy_tree.specs.Formed.{is_formed_int, is_formed_expr, is_formed_type, is_case_word, if_there}
use Rattle.soy_base.specs.Limits.{largest}
use Rattle.soy_tree.specs.ViewExpressions.{view_expr, view_exprs}
use Rattle.soy_tree.specs.ViewTypes.{view_type}
use Rattle.soy_tree.specs.declared.expr.Expr.{Expr}
use Rattle.expr_parser.specs.AreNamed.{IsNamed, AreNamed}
use Rattle.expr_parser.proofs.ExprForms.{formed}
use Rattle.expr_parser.proofs.TypeForms.{formed_type}
use Rattle.soy_parser.specs.declared.attributes.AttributeName.{AttributeName}
use Rattle.soy_parser.specs.declared.attributes.AttributeName.TheVariants as attribute
use Rattle.soy_parser.specs.declared.attributes.Attributes.{Attributes}
use Rattle.soy_parser.specs.declared.command.Command.{Command}
use Rattle.soy_parser.specs.declared.command.CommandForm.{CommandForm}
use Rattle.soy_parser.specs.declared.command.CommandForm.TheVariants as says
use Rattle.soy_parser.specs.declared.command.Middle.{Middle}
use Rattle.soy_parser.specs.declared.command.Middle.TheVariants as middle
use Rattle.soy_parser.specs.declared.command.Opening.{Opening}
use Rattle.soy_parser.specs.declared.command.Opening.TheVariants as opening
use Rattle.soy_parser.specs.declared.command.Single.{Single}
use Rattle.soy_parser.specs.declared.command.Single.TheVariants as single
use Rattle.soy_parser.specs.declared.head.Head.{Head}
use Rattle.soy_parser.specs.declared.head.Head.TheVariants as head
use Rattle.soy_parser.specs.declared.terminal.BlockName.TheVariants as block
use Rattle.soy_parser.specs.declared.terminal.CommandTerminal.{CommandTerminal}
use Rattle.soy_parser.specs.declared.terminal.CommandTerminal.TheVariants as terminal
use Rattle.soy_parser.specs.declared.terminal.CommandWord.{CommandWord}
use Rattle.soy_parser.specs.declared.terminal.CommandWord.TheVariants as word
use Rattle.soy_parser.specs.CommandTerminals.{command_terminal, command_terminal_of, command_symbol}
use Rattle.soy_parser.specs.Heads.{SpellsAttributes, with_attribute, with_kind}
use Rattle.soy_parser.specs.Heads.{kind_named, form_at, plain_form, slash_form}
use Rattle.soy_parser.specs.SpellsCommand.{SpellsCommand, SpellsCommands}
use Rattle.soy_parser.specs.SpellsHead.{bare_head, expr_head, SpellsDotted, SpellsValues, SpellsInts, SpellsCaseWords}
use Rattle.soy_parser.specs.SpellsHead.{SpellsVariables, SpellsHead}
use Rattle.soy_parser.proofs.DottedNames.{both, all_append, first_of, second_of, one_name, more_names}

abbrev IsFormedExpr : Expr → Type 0
IsFormedExpr e = is_formed_expr (view_expr e) ≡ true

abbrev FormedSingle : Single → Type 0
FormedSingle (single.Print e) = IsFormedExpr e
FormedSingle (single.MessagePrint e phname) = IsFormedExpr e × (if_there is_name phname ≡ true)
FormedSingle (single.Let n e) = (is_name n ≡ true) × IsFormedExpr e
FormedSingle (single.Call n all) = is_dotted_name n ≡ true
FormedSingle (single.Param n e) = (is_name n ≡ true) × IsFormedExpr e

abbrev FormedOpening : Opening → Type 0
FormedOpening (opening.Template t) = is_name t.name ≡ true
FormedOpening (opening.If e) = IsFormedExpr e
FormedOpening (opening.Switch e) = IsFormedExpr e
FormedOpening (opening.For n index e) = (is_name n ≡ true) × (if_there is_name index ≡ true) × IsFormedExpr e
FormedOpening (opening.Let n k) = is_name n ≡ true
FormedOpening (opening.Call n all) = is_dotted_name n ≡ true
FormedOpening (opening.Param n k) = is_name n ≡ true
FormedOpening (opening.Message desc meaning) = Unit {0}
FormedOpening (opening.Plural e offset) = IsFormedExpr e × (nat_le offset largest ≡ true)
FormedOpening (opening.Select e) = IsFormedExpr e

abbrev FormedMiddle : Middle → Type 0
FormedMiddle (middle.ElseIf e) = IsFormedExpr e
FormedMiddle middle.Else = Unit {0}
FormedMiddle (middle.Case values) = list_all is_formed_expr (view_exprs values) ≡ true
FormedMiddle (middle.PluralCase values) = list_all is_formed_int values ≡ true
FormedMiddle (middle.SelectCase values) = list_all is_case_word values ≡ true
FormedMiddle middle.Default = Unit {0}
FormedMiddle (middle.Fallback desc meaning) = Unit {0}

-- what a command says is formed
abbrev pub FormedForm : CommandForm → Type 0
FormedForm (says.Text text) = Unit {0}
FormedForm (says.Character text) = Unit {0}
FormedForm (says.Namespace n) = is_dotted_name n ≡ true
FormedForm (says.TemplateParam n required of) = (is_name n ≡ true) × (is_formed_type (view_type of) ≡ true)
FormedForm (says.Single of) = FormedSingle of
FormedForm (says.Opens of) = FormedOpening of
FormedForm (says.GoesOn m) = FormedMiddle m
FormedForm (says.Closes n) = Unit {0}

abbrev FormedHead : Head → Type 0
FormedHead (head.Whole of) = FormedForm of
FormedHead (head.Alone of) = FormedSingle of
FormedHead (head.Template n) = is_name n ≡ true
FormedHead (head.MessagePrint e) = IsFormedExpr e
FormedHead (head.Let n) = is_name n ≡ true
FormedHead (head.Param n) = is_name n ≡ true
FormedHead (head.Call n) = is_dotted_name n ≡ true
FormedHead head.Message = Unit {0}
FormedHead head.Fallback = Unit {0}
FormedHead (head.Plural e) = IsFormedExpr e

-- names among tokens

named_left : (ts us : List Token) → AreNamed (ts ++ us) → AreNamed ts
named_left [] us h = tt
named_left (t ∷ ts) us h = (h.0, named_left ts us h.1)

named_right : (ts us : List Token) → AreNamed (ts ++ us) → AreNamed us
named_right [] us h = h
named_right (t ∷ ts) us h = named_right ts us h.1

abbrev NameOf : List ℕ → CommandTerminal → Type 0
NameOf name (terminal.Word w) = is_name name ≡ true
NameOf name terminal.Variable = is_name name ≡ true
NameOf name _ = Unit {0}

record HasName (name : List ℕ) (m : CommandTerminal) : Type 0 where
  pub has : NameOf name m

picked : (name : List ℕ) (b : Bool) (x y : CommandTerminal) → HasName name x → HasName name y →
    HasName name (if b then x else y)
picked name true x y p q = p
picked name false x y p q = q

symbol_name : (name text : List ℕ) → HasName name (command_symbol text)
symbol_name name text =
    picked name (bytes_eq text (codes ".")) terminal.Dot _ (record { has = tt })
    (picked name (bytes_eq text (codes ",")) terminal.Comma _ (record { has = tt })
    (picked name (bytes_eq text (codes ":")) terminal.Colon _ (record { has = tt })
    (picked name (bytes_eq text (codes "?")) terminal.Question _ (record { has = tt })
    (picked name (bytes_eq text (codes "=")) terminal.Equals _ (record { has = tt })
    (picked name (bytes_eq text (codes "@")) terminal.At _ (record { has = tt })
    (picked name (bytes_eq text (codes "\\n")) terminal.LineFeed _ (record { has = tt })
    (picked name (bytes_eq text (codes "\\r")) terminal.CarriageReturn _ (record { has = tt })
    (picked name (bytes_eq text (codes "\\t")) terminal.Tab _ (record { has = tt })
    (record { has = tt })))))))))

token_name : (k : TokenKind) (name text : List ℕ) → IsNamed k name → NameOf name (command_terminal k text)
token_name kind.Word name text i = i
token_name kind.Variable name text i = i
token_name kind.Symbol name text i = (symbol_name name text).has
token_name _ name text i = tt

name_by : (t : Token) (m : CommandTerminal) → command_terminal_of t ≡ m → IsNamed t.kind t.text → NameOf t.text m
name_by t m e i = subst (NameOf t.text) e (token_name t.kind t.text (encode_utf8_all t.text) i)

word_name : (t : Token) (w : CommandWord) → command_terminal_of t ≡ terminal.Word w → IsNamed t.kind t.text →
    is_name t.text ≡ true
word_name t w e i = name_by t (terminal.Word w) e i

variable_name : (t : Token) → command_terminal_of t ≡ terminal.Variable → IsNamed t.kind t.text →
    is_name t.text ≡ true
variable_name t e i = name_by t terminal.Variable e i

-- ints

no_digits : (cs : List ℕ) → is_nil cs ≡ true → nat_le (number_after 0 cs) largest ≡ true
no_digits [] h = refl
no_digits (c ∷ cs) h = absurd (cc h)

zero_alone : (c : ℕ) (cs : List ℕ) → (c == 48) ≡ true → is_nil cs ≡ true →
    nat_le (number_after 0 (c ∷ cs)) largest ≡ true
zero_alone c [] e h = let z : c ≡ 48 = grind (arith, nat_tests, e) in rw z refl
zero_alone c (d ∷ cs) e h = absurd (cc h)

int_within : (text : List ℕ) → is_int text ≡ true → nat_le (number_after 0 text) largest ≡ true
int_within [] h = absurd (cc h)
int_within (c ∷ cs) h = over (c == 48) refl h
  where
    over : (b : Bool) → (c == 48) ≡ b →
        (if b then is_nil cs else (list_all is_ascii_digit (c ∷ cs) && nat_le
        (number_after 0 (c ∷ cs)) largest)) ≡ true →
        nat_le (number_after 0 (c ∷ cs)) largest ≡ true
    over true e h = zero_alone c cs e h
    over false e h =
        second_of (list_all is_ascii_digit (c ∷ cs)) (nat_le (number_after 0 (c ∷ cs)) largest) h

-- the parts of heads

dotted_formed : (ts : List Token) (text : List ℕ) → AreNamed ts → SpellsDotted ts text → is_dotted_name text ≡ true
dotted_formed _ _ h (SpellsDotted.one_ name w e) = one_name name.text (word_name name w e h.0)
dotted_formed _ _ h (SpellsDotted.more_ ts text dot name w s d e) =
    more_names text name.text (dotted_formed ts text (named_left ts (dot ∷ (name ∷ [])) h) s)
    (word_name name w e (named_right ts (dot ∷ (name ∷ [])) h).1.0)

exprs_append : (values : List Expr) (e : Expr) → list_all is_formed_expr (view_exprs values) ≡ true → IsFormedExpr e →
    list_all is_formed_expr (view_exprs (values ++ (e ∷ []))) ≡ true
exprs_append [] e h k = both (is_formed_expr (view_expr e)) true k refl
exprs_append (v ∷ values) e h k =
    let rest = list_all is_formed_expr (view_exprs values) in
    both (is_formed_expr (view_expr v)) (list_all is_formed_expr (view_exprs (values ++ (e ∷ []))))
    (first_of (is_formed_expr (view_expr v)) rest h)
    (exprs_append values e (second_of (is_formed_expr (view_expr v)) rest h) k)

values_formed : (ts : List Token) (ds : List ℕ) (values : List Expr) → AreNamed ts → SpellsValues ts ds values →
    list_all is_formed_expr (view_exprs values) ≡ true
values_formed _ _ _ h (SpellsValues.one_ ts ds x s) =
    both (is_formed_expr (view_expr x.expr)) true (formed 9 ts ds x h s) refl
values_formed _ _ _ h (SpellsValues.more_ ts us ds es values comma x s c r) =
    exprs_append values x.expr (values_formed ts ds values (named_left ts (comma ∷ us) h) s)
    (formed 9 us es x (named_right ts (comma ∷ us) h).1 r)

ints_formed : (ts : List Token) (values : List ℤ) → SpellsInts ts values → list_all is_formed_int values ≡ true
ints_formed _ _ (SpellsInts.one_ t e i) =
    both (nat_le (number_after 0 t.text) largest) true (int_within t.text i) refl
ints_formed _ _ (SpellsInts.more_ ts values comma t s c e i) =
    all_append is_formed_int values (pos (number_after 0 t.text) ∷ []) (ints_formed ts values s)
    (both (nat_le (number_after 0 t.text) largest) true (int_within t.text i) refl)

words_formed : (ts : List Token) (values : List (List ℕ)) → SpellsCaseWords ts values →
    list_all is_case_word values ≡ true
words_formed _ _ (SpellsCaseWords.one_ t e i) = both (is_case_word t.text) true i refl
words_formed _ _ (SpellsCaseWords.more_ ts values comma t s c e i) =
    all_append is_case_word values (t.text ∷ []) (words_formed ts values s) (both (is_case_word t.text) true i refl)

variables_formed : (ts : List Token) (name : List ℕ) (index : Option (List ℕ)) → AreNamed ts →
    SpellsVariables ts name index → (is_name name ≡ true) × (if_there is_name index ≡ true)
variables_formed _ _ _ h (SpellsVariables.one_ v e) = (variable_name v e h.0, refl)
variables_formed _ _ _ h (SpellsVariables.two_ v comma i e c k) = (variable_name v e h.0, variable_name i k h.1.1.0)

-- heads of one token, and of a word and an expression

abbrev FormedHeadIf : Option Head → Type 0
FormedHeadIf None = Unit {0}
FormedHeadIf (Some h) = FormedHead h

bare_formed : (m : CommandTerminal) → FormedHeadIf (bare_head m)
bare_formed (terminal.Word word.Space) = tt
bare_formed (terminal.Word word.Nil) = tt
bare_formed (terminal.Word word.LeftBrace) = tt
bare_formed (terminal.Word word.RightBrace) = tt
bare_formed (terminal.Word word.NoBreakSpace) = tt
bare_formed (terminal.Word word.Else) = tt
bare_formed (terminal.Word word.Default) = tt
bare_formed (terminal.Word word.Msg) = tt
bare_formed (terminal.Word word.FallbackMsg) = tt
bare_formed (terminal.Word _) = tt
bare_formed (terminal.Close block.Other) = tt
bare_formed (terminal.Close _) = tt
bare_formed _ = tt

expr_formed : (m : CommandTerminal) (e : Expr) → IsFormedExpr e → FormedHeadIf (expr_head m e)
expr_formed (terminal.Word word.Print) e i = i
expr_formed (terminal.Word word.If) e i = i
expr_formed (terminal.Word word.ElseIf) e i = i
expr_formed (terminal.Word word.Switch) e i = i
expr_formed (terminal.Word word.Plural) e i = i
expr_formed (terminal.Word word.Select) e i = i
expr_formed (terminal.Word _) e i = tt
expr_formed _ e i = tt

head_formed : (ts : List Token) (ds : List ℕ) (ws : List Bool) (h : Head) → AreNamed ts → SpellsHead ts ds ws h →
    FormedHead h
head_formed _ _ _ _ n (SpellsHead.bare_ t h e) = subst FormedHeadIf e (bare_formed (command_terminal_of t))
head_formed _ _ _ _ n (SpellsHead.printed_ ts ds x s) = formed 9 ts ds x n s
head_formed _ _ _ _ n (SpellsHead.message_printed_ ts ds x s) = formed 9 ts ds x n s
head_formed _ _ _ _ n (SpellsHead.message_print_ t ts ds x e s) = formed 9 ts ds x n.1 s
head_formed _ _ _ _ n (SpellsHead.expression_ t ts ds x h s e) =
    subst FormedHeadIf e (expr_formed (command_terminal_of t) x.expr (formed 9 ts ds x n.1 s))
head_formed _ _ _ _ n (SpellsHead.case_ t ts ds values e s) = values_formed ts ds values n.1 s
head_formed _ _ _ _ n (SpellsHead.plural_case_ t ts values e s) = ints_formed ts values s
head_formed _ _ _ _ n (SpellsHead.select_case_ t ts values e s) = words_formed ts values s
head_formed _ _ _ _ n (SpellsHead.for_ t i ts us ds name index x e v k s) =
    let names = variables_formed ts name index (named_left ts (i ∷ us) n.1) v in
    (names.0, names.1, formed 9 us ds x (named_right ts (i ∷ us) n.1).1 s)
head_formed _ _ _ _ n (SpellsHead.let_ t v colon ts ds x e k c s) =
    (variable_name v k n.1.0, formed 9 ts ds x n.1.1.1 s)
head_formed _ _ _ _ n (SpellsHead.let_block_ t v e k) = variable_name v k n.1.0
head_formed _ _ _ _ n (SpellsHead.call_ t ts us name e d s) = dotted_formed us name (named_right ts us n.1) s
head_formed _ _ _ _ n (SpellsHead.param_ t name colon w ts ds x e k c s) =
    (word_name name w k n.1.0, formed 9 ts ds x n.1.1.1 s)
head_formed _ _ _ _ n (SpellsHead.param_block_ t name w e k) = word_name name w k n.1.0
head_formed _ _ _ _ n (SpellsHead.namespace_ t ts name e s) = dotted_formed ts name n.1 s
head_formed _ _ _ _ n (SpellsHead.template_ t name w ts e d k) =
    word_name name w k (named_right ts (name ∷ []) n.1).0
head_formed _ _ _ _ n (SpellsHead.template_param_ sign t name colon w ts us ds ws required x a e q k c s) =
    let m = named_right ts (name ∷ (colon ∷ us)) n.1.1 in
    (word_name name w k m.0, formed_type us ds ws x m.1.1 s)

-- attributes

record FormedAttributes (a : Attributes) : Type 0 where
  pub phname : if_there is_name a.phname ≡ true
  pub offset : nat_le (unwrap_or a.offset 0) largest ≡ true

abbrev FormedAttributesIf : Option Attributes → Type 0
FormedAttributesIf None = Unit {0}
FormedAttributesIf (Some a) = FormedAttributes a

attribute_formed : (a : Attributes) (n : AttributeName) (text : List ℕ) → FormedAttributes a →
    FormedAttributesIf (with_attribute a n text)
attribute_formed a attribute.Kind text f = over (kind_named text)
  where
    over : (o : Option Kind) → FormedAttributesIf (option_map (with_kind a) o)
    over None = tt
    over (Some k) = record { phname = f.phname; offset = f.offset }
attribute_formed a attribute.Visibility text f = over (bytes_eq text (codes "private"))
  where
    over : (b : Bool) → FormedAttributesIf (if b then Some (record a { private = true }) else None)
    over true = record { phname = f.phname; offset = f.offset }
    over false = tt
attribute_formed a attribute.Data text f = over (bytes_eq text (codes "all"))
  where
    over : (b : Bool) → FormedAttributesIf (if b then Some (record a { all = true }) else None)
    over true = record { phname = f.phname; offset = f.offset }
    over false = tt
attribute_formed a attribute.Desc text f = record { phname = f.phname; offset = f.offset }
attribute_formed a attribute.Meaning text f = record { phname = f.phname; offset = f.offset }
attribute_formed a attribute.Offset text f = over (is_int text) refl
  where
    over : (b : Bool) → is_int text ≡ b →
        FormedAttributesIf (if b then Some (record a { offset = Some (number_after 0 text) }) else None)
    over true e = record { phname = f.phname; offset = int_within text e }
    over false e = tt
attribute_formed a attribute.Phname text f = over (is_name text) refl
  where
    over : (b : Bool) → is_name text ≡ b
        → FormedAttributesIf (if b then Some (record a { phname = Some text }) else None)
    over true e = record { phname = e; offset = f.offset }
    over false e = tt

attributes_formed : (h : Head) (ts : List Token) (a : Attributes) → SpellsAttributes h ts a → FormedAttributes a
attributes_formed _ _ _ (SpellsAttributes.none_ h) = record { phname = refl; offset = refl }
attributes_formed _ _ _ (SpellsAttributes.more_ h ts a b name equals value n s e w q v i) =
    subst FormedAttributesIf i (attribute_formed a n value.text (attributes_formed h ts a s))

-- what a command says with its attributes and its end

abbrev FormedFormIf : Option CommandForm → Type 0
FormedFormIf None = Unit {0}
FormedFormIf (Some of) = FormedForm of

kind_formed : (make : Kind → CommandForm) (o : Option Kind) → ((k : Kind) → FormedForm (make k)) →
    FormedFormIf (option_map make o)
kind_formed make None f = tt
kind_formed make (Some k) f = f k

desc_formed : (make : List ℕ → List ℕ → CommandForm) (a : Attributes) (desc : Option (List ℕ)) →
    ((d m : List ℕ) → FormedForm (make d m)) →
    FormedFormIf (option_map (λ d. make d (unwrap_or a.meaning [])) desc)
desc_formed make a None f = tt
desc_formed make a (Some d) f = f d (unwrap_or a.meaning [])

plain_formed : (h : Head) (a : Attributes) → FormedHead h → FormedAttributes a → FormedFormIf (plain_form h a)
plain_formed (head.Whole of) a i f = i
plain_formed (head.Alone of) a i f = tt
plain_formed (head.Template n) a i f = i
plain_formed (head.MessagePrint e) a i f = (i, f.phname)
plain_formed (head.Let n) a i f = kind_formed (λ k. says.Opens (opening.Let n k)) a.kind (λ k. i)
plain_formed (head.Param n) a i f = kind_formed (λ k. says.Opens (opening.Param n k)) a.kind (λ k. i)
plain_formed (head.Call n) a i f = i
plain_formed head.Message a i f =
    desc_formed (λ desc meaning. says.Opens (opening.Message desc meaning)) a a.desc (λ d m. tt)
plain_formed head.Fallback a i f =
    desc_formed (λ desc meaning. says.GoesOn (middle.Fallback desc meaning)) a a.desc (λ d m. tt)
plain_formed (head.Plural e) a i f = (i, f.offset)

slash_formed : (h : Head) (a : Attributes) → FormedHead h → FormedFormIf (slash_form h a)
slash_formed (head.Alone of) a i = i
slash_formed (head.Call n) a i = i
slash_formed _ a i = tt

said_formed : (h : Head) (a : Attributes) (m : CommandTerminal) → FormedHead h → FormedAttributes a →
    FormedFormIf (form_at h a m)
said_formed h a terminal.End i f = plain_formed h a i f
said_formed h a terminal.SlashEnd i f = slash_formed h a i
said_formed h a _ i f = tt

command_formed : (ts : List Token) (ds : List ℕ) (ws : List Bool) (c : Command) → AreNamed ts →
    SpellsCommand ts ds ws c → FormedForm c.form
command_formed _ _ _ _ n (SpellsCommand.text_ t e) = tt
command_formed _ _ _ _ n (SpellsCommand.command_ opening_ close ts us ds ws h a of e s b i) =
    subst FormedFormIf i (said_formed h a (command_terminal_of close)
    (head_formed ts ds ws h (named_left ts (us ++ (close ∷ [])) n.1) s) (attributes_formed h us a b))

-- **What tokens say whose words and variables are names is formed, command by command.**
abbrev pub AllFormed : List Command → Type 0
AllFormed [] = Unit {0}
AllFormed (c ∷ cs) = FormedForm c.form × AllFormed cs

pub commands_formed : (ts : List Token) (ds : List ℕ) (ws : List Bool) (cs : List Command) (ls : List ℕ) →
    AreNamed ts → SpellsCommands ts ds ws cs ls → AllFormed cs
commands_formed _ _ _ _ _ n SpellsCommands.none_ = tt
commands_formed _ _ _ _ _ n (SpellsCommands.more_ ts us ds es ws vs c cs level levels s r) =
    (command_formed ts ds ws c (named_left ts us n) s, commands_formed us es vs cs levels (named_right ts us n) r)

pub formed_left : (cs ds : List Command) → AllFormed (cs ++ ds) → AllFormed cs
formed_left [] ds f = tt
formed_left (c ∷ cs) ds f = (f.0, formed_left cs ds f.1)

pub formed_right : (cs ds : List Command) → AllFormed (cs ++ ds) → AllFormed ds
formed_right [] ds f = f
formed_right (c ∷ cs) ds f = formed_right cs ds f.1
