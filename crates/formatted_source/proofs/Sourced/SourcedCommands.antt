-- What the tokens of a text say, command by command, lacks what its tokens lack.
use Rattle.std.proofs.Common.{◌≡◌, ℕ, Bool, true, false, List, [], ◌∷◌, ◌++◌, Option, Some, None, refl, subst}
use Rattle.std.specs.Prelude.{codes, encode_utf8_all, if◌then◌else◌, option_map, unwrap_or}
use Rattle.std.specs.Str.{bytes_eq}
use Rattle.soy_base.specs.Names.{is_name}
use Rattle.soy_base.specs.declared.kind.Kind.{Kind}
use Rattle.soy_lexer.specs.CommandSegment.{number_after}
use Rattle.soy_lexer.specs.LongestToken.{is_int}
use Rattle.soy_lexer.specs.declared.token.Token.{Token}
use Rattle.soy_lexer.specs.declared.token.TokenKind.{TokenKind}
use Rattle.soy_lexer.specs.declared.token.TokenKind.TheVariants as kind
use Rattle.soy_tree.specs.Formed.{if_there}
use Rattle.soy_tree.specs.ViewExpressions.{view_exprs}
use Rattle.soy_tree.specs.declared.expr.Expr.{Expr}
use Rattle.soy_parser.specs.declared.attributes.AttributeName.{AttributeName}
use Rattle.soy_parser.specs.declared.attributes.AttributeName.TheVariants as attribute
use Rattle.soy_parser.specs.declared.attributes.Attributes.{Attributes}
use Rattle.soy_parser.specs.declared.command.Command.{Command}
use Rattle.soy_parser.specs.declared.command.CommandForm.{CommandForm}
use Rattle.soy_parser.specs.declared.command.CommandForm.TheVariants as says
use Rattle.soy_parser.specs.declared.command.Middle.{Middle}
use Rattle.soy_parser.specs.declared.command.Middle.TheVariants as middle
use Rattle.soy_parser.specs.declared.command.Opening.{Opening}
use Rattle.soy_parser.specs.declared.command.Opening.TheVariants as opening
use Rattle.soy_parser.specs.declared.head.Head.{Head}
use Rattle.soy_parser.specs.declared.head.Head.TheVariants as head
use Rattle.soy_parser.specs.declared.terminal.BlockName.TheVariants as block
use Rattle.soy_parser.specs.declared.terminal.CommandTerminal.{CommandTerminal}
use Rattle.soy_parser.specs.declared.terminal.CommandTerminal.TheVariants as terminal
use Rattle.soy_parser.specs.declared.terminal.CommandWord.TheVariants as word
use Rattle.soy_parser.specs.CommandTerminals.{command_terminal, command_terminal_of, command_symbol}
use Rattle.soy_parser.specs.Heads.{SpellsAttributes, with_attribute, with_kind, kind_named, form_at, plain_form}
use Rattle.soy_parser.specs.Heads.{slash_form}
use Rattle.soy_parser.specs.SpellsCommand.{SpellsCommand, SpellsCommands}
use Rattle.soy_parser.specs.SpellsHead.{SpellsHead, SpellsValues, bare_head, expr_head}
use Rattle.formatted_source.specs.SourcedTrees.{has_value, is_source_text, is_source_value}
use Rattle.formatted_source.proofs.Sourced.SegmentTexts.{AreSourced, IsSourced}

abbrev SourcedOpening : Opening → Type 0
SourcedOpening (opening.Message desc meaning) = (is_source_value desc ≡ true) × (is_source_value meaning ≡ true)
SourcedOpening _ = Unit {0}

abbrev SourcedMiddle : Middle → Type 0
SourcedMiddle (middle.Case values) = has_value (view_exprs values) ≡ true
SourcedMiddle (middle.Fallback desc meaning) = (is_source_value desc ≡ true) × (is_source_value meaning ≡ true)
SourcedMiddle _ = Unit {0}

-- what a command says
abbrev pub SourcedForm : CommandForm → Type 0
SourcedForm (says.Text text) = is_source_text text ≡ true
SourcedForm (says.Character text) = is_source_text text ≡ true
SourcedForm (says.Namespace n) = Unit {0}
SourcedForm (says.TemplateParam n required of) = Unit {0}
SourcedForm (says.Single of) = Unit {0}
SourcedForm (says.Opens of) = SourcedOpening of
SourcedForm (says.GoesOn m) = SourcedMiddle m
SourcedForm (says.Closes n) = Unit {0}

abbrev SourcedHead : Head → Type 0
SourcedHead (head.Whole of) = SourcedForm of
SourcedHead _ = Unit {0}

-- the texts and values among tokens

sourced_left : (ts us : List Token) → AreSourced (ts ++ us) → AreSourced ts
sourced_left [] us h = tt
sourced_left (t ∷ ts) us h = (h.0, sourced_left ts us h.1)

sourced_right : (ts us : List Token) → AreSourced (ts ++ us) → AreSourced us
sourced_right [] us h = h
sourced_right (t ∷ ts) us h = sourced_right ts us h.1

abbrev SourceOf : List ℕ → CommandTerminal → Type 0
SourceOf text terminal.Text = is_source_text text ≡ true
SourceOf text terminal.Attribute = is_source_value text ≡ true
SourceOf text _ = Unit {0}

record HasSource (text : List ℕ) (m : CommandTerminal) : Type 0 where
  pub has : SourceOf text m

picked : (text : List ℕ) (b : Bool) (x y : CommandTerminal) → HasSource text x → HasSource text y →
    HasSource text (if b then x else y)
picked text true x y p q = p
picked text false x y p q = q

symbol_source : (own text : List ℕ) → HasSource own (command_symbol text)
symbol_source own text =
    picked own (bytes_eq text (codes ".")) terminal.Dot _ (record { has = tt })
    (picked own (bytes_eq text (codes ",")) terminal.Comma _ (record { has = tt })
    (picked own (bytes_eq text (codes ":")) terminal.Colon _ (record { has = tt })
    (picked own (bytes_eq text (codes "?")) terminal.Question _ (record { has = tt })
    (picked own (bytes_eq text (codes "=")) terminal.Equals _ (record { has = tt })
    (picked own (bytes_eq text (codes "@")) terminal.At _ (record { has = tt })
    (picked own (bytes_eq text (codes "\\n")) terminal.LineFeed _ (record { has = tt })
    (picked own (bytes_eq text (codes "\\r")) terminal.CarriageReturn _ (record { has = tt })
    (picked own (bytes_eq text (codes "\\t")) terminal.Tab _ (record { has = tt })
    (record { has = tt })))))))))

token_source : (k : TokenKind) (own text : List ℕ) → IsSourced k own → SourceOf own (command_terminal k text)
token_source kind.Text own text i = i
token_source kind.Attribute own text i = i
token_source kind.Symbol own text i = (symbol_source own text).has
token_source _ own text i = tt

source_by : (t : Token) (m : CommandTerminal) → command_terminal_of t ≡ m → IsSourced t.kind t.text → SourceOf t.text m
source_by t m e i = subst (SourceOf t.text) e (token_source t.kind t.text (encode_utf8_all t.text) i)

-- heads

abbrev SourcedHeadIf : Option Head → Type 0
SourcedHeadIf None = Unit {0}
SourcedHeadIf (Some h) = SourcedHead h

bare_sourced : (m : CommandTerminal) → SourcedHeadIf (bare_head m)
bare_sourced (terminal.Word word.Space) = refl
bare_sourced (terminal.Word word.Nil) = refl
bare_sourced (terminal.Word word.LeftBrace) = refl
bare_sourced (terminal.Word word.RightBrace) = refl
bare_sourced (terminal.Word word.NoBreakSpace) = refl
bare_sourced (terminal.Word word.Else) = tt
bare_sourced (terminal.Word word.Default) = tt
bare_sourced (terminal.Word word.Msg) = tt
bare_sourced (terminal.Word word.FallbackMsg) = tt
bare_sourced (terminal.Word _) = tt
bare_sourced terminal.LineFeed = refl
bare_sourced terminal.CarriageReturn = refl
bare_sourced terminal.Tab = refl
bare_sourced (terminal.Close block.Other) = tt
bare_sourced (terminal.Close _) = tt
bare_sourced _ = tt

expr_sourced : (m : CommandTerminal) (e : Expr) → SourcedHeadIf (expr_head m e)
expr_sourced (terminal.Word word.Print) e = tt
expr_sourced (terminal.Word word.If) e = tt
expr_sourced (terminal.Word word.ElseIf) e = tt
expr_sourced (terminal.Word word.Switch) e = tt
expr_sourced (terminal.Word word.Plural) e = tt
expr_sourced (terminal.Word word.Select) e = tt
expr_sourced (terminal.Word _) e = tt
expr_sourced _ e = tt

has_more : (values : List Expr) (e : Expr) → has_value (view_exprs (values ++ (e ∷ []))) ≡ true
has_more [] e = refl
has_more (v ∷ vs) e = refl

values_sourced : (ts : List Token) (ds : List ℕ) (values : List Expr) → SpellsValues ts ds values
    → has_value (view_exprs values) ≡ true
values_sourced _ _ _ (SpellsValues.one_ ts ds x s) = refl
values_sourced _ _ _ (SpellsValues.more_ ts us ds es values comma x s c r) = has_more values x.expr

head_sourced : (ts : List Token) (ds : List ℕ) (ws : List Bool) (h : Head) → SpellsHead ts ds ws h → SourcedHead h
head_sourced _ _ _ _ (SpellsHead.bare_ t h e) = subst SourcedHeadIf e (bare_sourced (command_terminal_of t))
head_sourced _ _ _ _ (SpellsHead.printed_ ts ds x s) = tt
head_sourced _ _ _ _ (SpellsHead.message_printed_ ts ds x s) = tt
head_sourced _ _ _ _ (SpellsHead.message_print_ t ts ds x e s) = tt
head_sourced _ _ _ _ (SpellsHead.expression_ t ts ds x h s e) =
    subst SourcedHeadIf e (expr_sourced (command_terminal_of t) x.expr)
head_sourced _ _ _ _ (SpellsHead.case_ t ts ds values e s) = values_sourced ts ds values s
head_sourced _ _ _ _ (SpellsHead.plural_case_ t ts values e s) = tt
head_sourced _ _ _ _ (SpellsHead.select_case_ t ts values e s) = tt
head_sourced _ _ _ _ (SpellsHead.for_ t i ts us ds name index x e v k s) = tt
head_sourced _ _ _ _ (SpellsHead.let_ t v colon ts ds x e k c s) = tt
head_sourced _ _ _ _ (SpellsHead.let_block_ t v e k) = tt
head_sourced _ _ _ _ (SpellsHead.call_ t ts us name e d s) = tt
head_sourced _ _ _ _ (SpellsHead.param_ t name colon w ts ds x e k c s) = tt
head_sourced _ _ _ _ (SpellsHead.param_block_ t name w e k) = tt
head_sourced _ _ _ _ (SpellsHead.namespace_ t ts name e s) = tt
head_sourced _ _ _ _ (SpellsHead.template_ t name w ts e d k) = tt
head_sourced _ _ _ _ (SpellsHead.template_param_ sign t name colon w ts us ds ws required x a e q k c s) = tt

-- attributes

record SourcedAttributes (a : Attributes) : Type 0 where
  pub desc : if_there is_source_value a.desc ≡ true
  pub meaning : is_source_value (unwrap_or a.meaning []) ≡ true

abbrev SourcedAttributesIf : Option Attributes → Type 0
SourcedAttributesIf None = Unit {0}
SourcedAttributesIf (Some a) = SourcedAttributes a

attribute_sourced : (a : Attributes) (n : AttributeName) (text : List ℕ) → SourcedAttributes a
    → is_source_value text ≡ true → SourcedAttributesIf (with_attribute a n text)
attribute_sourced a attribute.Kind text f v = over (kind_named text)
  where
    over : (o : Option Kind) → SourcedAttributesIf (option_map (with_kind a) o)
    over None = tt
    over (Some k) = record { desc = f.desc; meaning = f.meaning }
attribute_sourced a attribute.Visibility text f v = over (bytes_eq text (codes "private"))
  where
    over : (b : Bool) → SourcedAttributesIf (if b then Some (record a { private = true }) else None)
    over true = record { desc = f.desc; meaning = f.meaning }
    over false = tt
attribute_sourced a attribute.Data text f v = over (bytes_eq text (codes "all"))
  where
    over : (b : Bool) → SourcedAttributesIf (if b then Some (record a { all = true }) else None)
    over true = record { desc = f.desc; meaning = f.meaning }
    over false = tt
attribute_sourced a attribute.Desc text f v = record { desc = v; meaning = f.meaning }
attribute_sourced a attribute.Meaning text f v = record { desc = f.desc; meaning = v }
attribute_sourced a attribute.Offset text f v = over (is_int text)
  where
    over : (b : Bool) → SourcedAttributesIf (if b then Some (record a {
      offset = Some
          (number_after 0 text);
    }) else None)
    over true = record { desc = f.desc; meaning = f.meaning }
    over false = tt
attribute_sourced a attribute.Phname text f v = over (is_name text)
  where
    over : (b : Bool) → SourcedAttributesIf (if b then Some (record a { phname = Some text }) else None)
    over true = record { desc = f.desc; meaning = f.meaning }
    over false = tt

attributes_sourced : (h : Head) (ts : List Token) (a : Attributes) → AreSourced ts → SpellsAttributes h ts a
    → SourcedAttributes a
attributes_sourced _ _ _ n (SpellsAttributes.none_ h) = record { desc = refl; meaning = refl }
attributes_sourced _ _ _ n (SpellsAttributes.more_ h ts a b name equals value k s e w q v i) =
    let own = sourced_right ts (name ∷ (equals ∷ (value ∷ []))) n in
    subst SourcedAttributesIf i (attribute_sourced a k value.text
    (attributes_sourced h ts a (sourced_left ts (name ∷ (equals ∷ (value ∷ []))) n) s)
    (source_by value terminal.Attribute v own.1.1.0))

-- what a command says with its attributes and its end

abbrev SourcedFormIf : Option CommandForm → Type 0
SourcedFormIf None = Unit {0}
SourcedFormIf (Some of) = SourcedForm of

kind_sourced : (make : Kind → CommandForm) (o : Option Kind) → ((k : Kind) → SourcedForm (make k)) →
    SourcedFormIf (option_map make o)
kind_sourced make None f = tt
kind_sourced make (Some k) f = f k

desc_sourced : (make : List ℕ → List ℕ → CommandForm) (meaning : List ℕ) (desc : Option (List ℕ))
    → if_there is_source_value desc ≡ true → ((d : List ℕ) → is_source_value d ≡ true → SourcedForm (make d meaning))
    → SourcedFormIf (option_map (λ d. make d meaning) desc)
desc_sourced make meaning None v f = tt
desc_sourced make meaning (Some d) v f = f d v

plain_sourced : (h : Head) (a : Attributes) → SourcedHead h → SourcedAttributes a → SourcedFormIf (plain_form h a)
plain_sourced (head.Whole of) a i f = i
plain_sourced (head.Alone of) a i f = tt
plain_sourced (head.Template n) a i f = tt
plain_sourced (head.MessagePrint e) a i f = tt
plain_sourced (head.Let n) a i f = kind_sourced (λ k. says.Opens (opening.Let n k)) a.kind (λ k. tt)
plain_sourced (head.Param n) a i f = kind_sourced (λ k. says.Opens (opening.Param n k)) a.kind (λ k. tt)
plain_sourced (head.Call n) a i f = tt
plain_sourced head.Message a i f =
    desc_sourced (λ desc meaning. says.Opens (opening.Message desc meaning)) (unwrap_or a.meaning []) a.desc f.desc
    (λ d v. (v, f.meaning))
plain_sourced head.Fallback a i f =
    desc_sourced (λ desc meaning. says.GoesOn (middle.Fallback desc meaning)) (unwrap_or a.meaning []) a.desc f.desc
    (λ d v. (v, f.meaning))
plain_sourced (head.Plural e) a i f = tt

slash_sourced : (h : Head) (a : Attributes) → SourcedFormIf (slash_form h a)
slash_sourced (head.Alone of) a = tt
slash_sourced (head.Call n) a = tt
slash_sourced _ a = tt

said_sourced : (h : Head) (a : Attributes) (m : CommandTerminal) → SourcedHead h → SourcedAttributes a →
    SourcedFormIf (form_at h a m)
said_sourced h a terminal.End i f = plain_sourced h a i f
said_sourced h a terminal.SlashEnd i f = slash_sourced h a
said_sourced h a _ i f = tt

command_sourced : (ts : List Token) (ds : List ℕ) (ws : List Bool) (c : Command) → AreSourced ts →
    SpellsCommand ts ds ws c → SourcedForm c.form
command_sourced _ _ _ _ n (SpellsCommand.text_ t e) = source_by t terminal.Text e n.0
command_sourced _ _ _ _ n (SpellsCommand.command_ opening_ close ts us ds ws h a of e s b i) =
    subst SourcedFormIf i (said_sourced h a (command_terminal_of close) (head_sourced ts ds ws h s)
    (attributes_sourced h us a (sourced_left us (close ∷ []) (sourced_right ts (us ++ (close ∷ [])) n.1)) b))

-- **What the tokens of a text say lacks what they lack, command by command.**
abbrev pub AllSourced : List Command → Type 0
AllSourced [] = Unit {0}
AllSourced (c ∷ cs) = SourcedForm c.form × AllSourced cs

pub commands_sourced : (ts : List Token) (ds : List ℕ) (ws : List Bool) (cs : List Command) (ls : List ℕ) →
    AreSourced ts → SpellsCommands ts ds ws cs ls → AllSourced cs
commands_sourced _ _ _ _ _ n SpellsCommands.none_ = tt
commands_sourced _ _ _ _ _ n (SpellsCommands.more_ ts us ds es ws vs c cs level levels s r) =
    (command_sourced ts ds ws c (sourced_left ts us n) s, commands_sourced us es vs cs levels (sourced_right ts us n) r)

pub all_left : (cs ds : List Command) → AllSourced (cs ++ ds) → AllSourced cs
all_left [] ds f = tt
all_left (c ∷ cs) ds f = (f.0, all_left cs ds f.1)

pub all_right : (cs ds : List Command) → AllSourced (cs ++ ds) → AllSourced ds
all_right [] ds f = f
all_right (c ∷ cs) ds f = all_right cs ds f.1
