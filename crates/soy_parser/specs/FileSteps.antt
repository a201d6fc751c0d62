-- The machine of files: what a token does to what was read. Between commands it is a text or a `{`; in a command its
-- head is read, then its attributes, and at its end the machine of commands takes it. It has no step at a token with
-- which no file goes on.
-- Example: after `{if $x` a `}` ends the command, and a `+` goes on with its expression.
use Rattle.std.specs.Prelude.{ℕ, ◌+◌, ℤ, pos, Bool, true, false, ◌&&◌, List, [], ◌∷◌, ◌++◌, Option, Some, None, length}
use Rattle.std.specs.Prelude.{if◌then◌else◌}
use Rattle.soy_base.specs.declared.fault.Span.{Span}
use Rattle.soy_lexer.specs.CommandSegment.{number_after}
use Rattle.soy_lexer.specs.LongestToken.{is_int}
use Rattle.soy_lexer.specs.declared.token.Token.{Token}
use Rattle.soy_tree.specs.Formed.{is_case_word}
use Rattle.soy_tree.specs.declared.tree.Tree.{Tree}
use Rattle.expr_parser.specs.ExprRuns.{expr_start}
use Rattle.expr_parser.specs.ExprSteps.{expr_step, expr_depth}
use Rattle.expr_parser.specs.Operands.{joined}
use Rattle.expr_parser.specs.TypeRuns.{type_start, is_after_name}
use Rattle.expr_parser.specs.TypeSteps.{type_step, type_depth, unknown_type}
use Rattle.expr_parser.specs.declared.operand.Operand.{Operand}
use Rattle.expr_parser.specs.ExprSteps.{ExprStep}
use Rattle.expr_parser.specs.ExprSteps.{ExprStep as expr_does}
use Rattle.expr_parser.specs.declared.type_state.TypeStep.{TypeStep}
use Rattle.expr_parser.specs.declared.type_state.TypeStep.TheVariants as type_does
use Rattle.soy_parser.specs.declared.attributes.AttributeName.{AttributeName}
use Rattle.soy_parser.specs.declared.attributes.Attributes.{Attributes}
use Rattle.soy_parser.specs.declared.block.Block.{Block}
use Rattle.soy_parser.specs.declared.block.Block.TheVariants as block
use Rattle.soy_parser.specs.declared.block.CommandState.{CommandState}
use Rattle.soy_parser.specs.declared.block.Content.{Content}
use Rattle.soy_parser.specs.declared.block.Content.TheVariants as content
use Rattle.soy_parser.specs.declared.block.Nodes.{Nodes}
use Rattle.soy_parser.specs.declared.command.Middle.{Middle}
use Rattle.soy_parser.specs.declared.command.Middle.TheVariants as middle
use Rattle.soy_parser.specs.declared.command.Opening.{Opening}
use Rattle.soy_parser.specs.declared.command.Opening.TheVariants as opening
use Rattle.soy_parser.specs.declared.command.Single.{Single}
use Rattle.soy_parser.specs.declared.command.Single.TheVariants as single
use Rattle.soy_parser.specs.declared.command.CommandForm.{CommandForm}
use Rattle.soy_parser.specs.declared.command.CommandForm.TheVariants as says
use Rattle.soy_parser.specs.declared.head.Head.{Head}
use Rattle.soy_parser.specs.declared.head.HeadKind.{HeadKind}
use Rattle.soy_parser.specs.declared.head.HeadKind.TheVariants as kind
use Rattle.soy_parser.specs.declared.head.Head.TheVariants as head
use Rattle.soy_parser.specs.declared.spot.CommandSpot.{CommandSpot}
use Rattle.soy_parser.specs.declared.spot.CommandSpot.TheVariants as where_
use Rattle.soy_parser.specs.declared.spot.DottedUse.{DottedUse}
use Rattle.soy_parser.specs.declared.spot.DottedUse.TheVariants as dotted
use Rattle.soy_parser.specs.declared.spot.FileState.{FileState}
use Rattle.soy_parser.specs.declared.spot.Spot.{Spot}
use Rattle.soy_parser.specs.declared.spot.Spot.TheVariants as spot
use Rattle.soy_parser.specs.declared.spot.Use.{Use}
use Rattle.soy_parser.specs.declared.spot.Use.TheVariants as use_
use Rattle.soy_parser.specs.declared.terminal.BlockName.TheVariants as name
use Rattle.soy_parser.specs.declared.terminal.CommandTerminal.{CommandTerminal}
use Rattle.soy_parser.specs.declared.terminal.CommandTerminal.TheVariants as terminal
use Rattle.soy_parser.specs.declared.terminal.CommandWord.TheVariants as word
use Rattle.soy_parser.specs.CommandSteps.{command_step, command_start, closes_body, closes_message, has_whole_tags}
use Rattle.soy_parser.specs.CommandSteps.{is_empty}
use Rattle.soy_parser.specs.CommandTerminals.{command_terminal_of}
use Rattle.soy_parser.specs.Heads.{no_attributes, attribute_name, allows, with_attribute, form_at}
use Rattle.soy_parser.specs.SpellsHead.{bare_head}
use Rattle.soy_base.specs.Characters.{full_stop}

abbrev pub file_at : CommandState → CommandSpot → Option FileState
file_at s at = Some (record { commands = s; spot = at })

abbrev pub stands : CommandState → Span → Spot → Option FileState
stands s from at = file_at s (where_.Inside from at)

-- the kind of a head

abbrev pub single_kind : Single → HeadKind
single_kind (single.Print e) = kind.Print
single_kind (single.MessagePrint e phname) = kind.MessagePrint
single_kind (single.Let n e) = kind.Let
single_kind (single.Call n all) = kind.Call
single_kind (single.Param n e) = kind.Param

abbrev pub opening_kind : Opening → HeadKind
opening_kind (opening.Template h) = kind.Template
opening_kind (opening.If e) = kind.If
opening_kind (opening.Switch e) = kind.Switch
opening_kind (opening.For n index e) = kind.For
opening_kind (opening.Let n of) = kind.Let
opening_kind (opening.Call n all) = kind.Call
opening_kind (opening.Param n of) = kind.Param
opening_kind (opening.Message desc meaning) = kind.Message
opening_kind (opening.Plural e offset) = kind.Plural
opening_kind (opening.Select e) = kind.Select

abbrev pub middle_kind : Middle → HeadKind
middle_kind (middle.ElseIf e) = kind.ElseIf
middle_kind middle.Else = kind.Else
middle_kind (middle.Case values) = kind.Case
middle_kind (middle.PluralCase values) = kind.PluralCase
middle_kind (middle.SelectCase values) = kind.SelectCase
middle_kind middle.Default = kind.Default
middle_kind (middle.Fallback desc meaning) = kind.Fallback

-- a text has no head; it stands here as a character command does
abbrev pub form_kind : CommandForm → HeadKind
form_kind (says.Text text) = kind.Character
form_kind (says.Character text) = kind.Character
form_kind (says.Namespace n) = kind.Namespace
form_kind (says.TemplateParam n required of) = kind.TemplateParam
form_kind (says.Single of) = single_kind of
form_kind (says.Opens of) = opening_kind of
form_kind (says.GoesOn m) = middle_kind m
form_kind (says.Closes n) = kind.Closes n

abbrev pub head_kind : Head → HeadKind
head_kind (head.Whole of) = form_kind of
head_kind (head.Alone of) = single_kind of
head_kind (head.Template n) = kind.Template
head_kind (head.MessagePrint e) = kind.MessagePrint
head_kind (head.Let n) = kind.Let
head_kind (head.Param n) = kind.Param
head_kind (head.Call n) = kind.Call
head_kind head.Message = kind.Message
head_kind head.Fallback = kind.Fallback
head_kind (head.Plural e) = kind.Plural

-- which heads are admitted, at their first token

-- in the body of this block, of those that aren't in every body
abbrev pub body_admits : Block → HeadKind → Bool
body_admits (block.Arm i when) kind.ElseIf = true
body_admits (block.Arm i when) kind.Else = true
body_admits (block.Case s values) kind.Case = true
body_admits (block.Case s values) kind.Default = true
body_admits b (kind.Closes n) = closes_body b n
body_admits _ _ = false

abbrev pub message_admits : Block → HeadKind → Bool
message_admits (block.Message m) kind.Fallback = true
message_admits (block.PluralCase p values) kind.PluralCase = true
message_admits (block.PluralCase p values) kind.Default = true
message_admits (block.SelectCase s values) kind.SelectCase = true
message_admits (block.SelectCase s values) kind.Default = true
message_admits b (kind.Closes n) = closes_message b n
message_admits _ _ = false

abbrev pub cases_admit : Block → HeadKind → Bool
cases_admit (block.Switch before start e) kind.Case = true
cases_admit (block.Switch before start e) kind.Default = true
cases_admit (block.Switch before start e) (kind.Closes name.Switch) = true
cases_admit (block.Plural e offset) kind.PluralCase = true
cases_admit (block.Plural e offset) kind.Default = true
cases_admit (block.Select e) kind.SelectCase = true
cases_admit (block.Select e) kind.Default = true
cases_admit _ _ = false

abbrev pub top_admits : (Block → HeadKind → Bool) → List Block → HeadKind → Bool
top_admits admits [] k = false
top_admits admits (b ∷ blocks) k = admits b k

abbrev pub is_template : Block → HeadKind → Bool
is_template (block.Template t) k = true
is_template _ k = false

abbrev pub in_body_admits : List Block → Nodes → HeadKind → Bool
in_body_admits blocks nodes kind.Character = true
in_body_admits blocks nodes kind.Print = true
in_body_admits blocks nodes kind.If = true
in_body_admits blocks nodes kind.Switch = true
in_body_admits blocks nodes kind.For = true
in_body_admits blocks nodes kind.Let = true
in_body_admits blocks nodes kind.Call = true
in_body_admits blocks nodes kind.Message = true
in_body_admits blocks nodes kind.TemplateParam = is_empty nodes && top_admits is_template blocks kind.TemplateParam
in_body_admits blocks nodes k = top_admits body_admits blocks k

abbrev pub in_parts_admits : List Block → Nodes → Bool → HeadKind → Bool
in_parts_admits blocks nodes white kind.Character = true
in_parts_admits blocks nodes white kind.MessagePrint = true
in_parts_admits blocks nodes white kind.Plural = white
in_parts_admits blocks nodes white kind.Select = white
in_parts_admits blocks nodes white k = has_whole_tags nodes && top_admits message_admits blocks k

abbrev pub in_call_admits : HeadKind → Bool
in_call_admits kind.Param = true
in_call_admits (kind.Closes name.Call) = true
in_call_admits _ = false

abbrev pub in_white_admits : HeadKind → Bool
in_white_admits kind.Namespace = true
in_white_admits _ = false

abbrev pub in_templates_admits : HeadKind → Bool
in_templates_admits kind.Template = true
in_templates_admits _ = false

abbrev pub admits_at : Content → List Block → HeadKind → Bool
admits_at content.White blocks k = in_white_admits k
admits_at (content.Templates n templates) blocks k = in_templates_admits k
admits_at (content.Body nodes) blocks k = in_body_admits blocks nodes k
admits_at (content.Arguments arguments) blocks k = in_call_admits k
admits_at content.BeforeCases blocks k = top_admits cases_admit blocks k
admits_at (content.Parts nodes white) blocks k = in_parts_admits blocks nodes white k
admits_at (content.Choice body) blocks k = top_admits message_admits blocks k

abbrev pub admits : CommandState → HeadKind → Bool
admits s k = admits_at s.content s.blocks k

-- a command ends, or goes on with an attribute

abbrev pub taken : Option CommandState → Option FileState
taken None = None
taken (Some s) = file_at s where_.Between

abbrev pub ended_command : CommandState → Span → Option CommandForm → Token → Option FileState
ended_command s from None t = None
ended_command s from (Some of) t = taken (command_step s (record { form = of; span = joined from t.span }))

abbrev pub attribute_step : CommandState → Span → Head → Attributes → Option AttributeName → Token → Option FileState
attribute_step s from h a (Some n) t = if allows h a n then stands s from (spot.Equals h a n) else None
attribute_step s from h a None t = ended_command s from (form_at h a (command_terminal_of t)) t

abbrev pub attributes_step : CommandState → Span → Head → Attributes → Token → Option FileState
attributes_step s from h a t = attribute_step s from h a (attribute_name (command_terminal_of t)) t

abbrev pub head_done : CommandState → Span → Head → Token → Option FileState
head_done s from h t = attributes_step s from h no_attributes t

abbrev pub with_value : CommandState → Span → Head → Option Attributes → Option FileState
with_value s from h None = None
with_value s from h (Some a) = stands s from (spot.Attributes h a)

abbrev pub value_step : CommandState → Span → Head → Attributes → AttributeName → Token → CommandTerminal
    → Option FileState
value_step s from h a n t terminal.Attribute = with_value s from h (with_attribute a n t.text)
value_step s from h a n t _ = None

-- an expression ends before a token

abbrev pub head_of : Use → Operand → Head
head_of use_.Print x = head.Whole (says.Single (single.Print x.expr))
head_of use_.MessagePrint x = head.MessagePrint x.expr
head_of use_.If x = head.Whole (says.Opens (opening.If x.expr))
head_of use_.ElseIf x = head.Whole (says.GoesOn (middle.ElseIf x.expr))
head_of use_.Switch x = head.Whole (says.Opens (opening.Switch x.expr))
head_of use_.Plural x = head.Plural x.expr
head_of use_.Select x = head.Whole (says.Opens (opening.Select x.expr))
head_of (use_.Case values) x = head.Whole (says.GoesOn (middle.Case (values ++ (x.expr ∷ []))))
head_of (use_.For n index) x = head.Whole (says.Opens (opening.For n index x.expr))
head_of (use_.Let n) x = head.Alone (single.Let n x.expr)
head_of (use_.Param n) x = head.Alone (single.Param n x.expr)

abbrev pub next_value : CommandState → Span → Use → Operand → Token → CommandTerminal → Option FileState
next_value s from (use_.Case values) x t terminal.Comma =
    stands s from (spot.Expr (use_.Case (values ++ (x.expr ∷ []))) expr_start)
next_value s from for_ x t _ = head_done s from (head_of for_ x) t

abbrev pub in_expr : CommandState → Span → Use → Token → ExprStep → Option FileState
in_expr s from for_ t (expr_does.Next r) = stands s from (spot.Expr for_ r)
in_expr s from for_ t (expr_does.End None) = None
in_expr s from for_ t (expr_does.End (Some x)) = next_value s from for_ x t (command_terminal_of t)

abbrev pub in_type : CommandState → Span → List ℕ → Bool → Token → TypeStep → Option FileState
in_type s from n required t (type_does.Next r) = stands s from (spot.Type n required r)
in_type s from n required t (type_does.End None) = None
in_type s from n required t (type_does.End (Some x)) =
    head_done s from (head.Whole (says.TemplateParam n required x.of)) t

-- a name joined by dots

abbrev pub dotted_head : DottedUse → List ℕ → Head
dotted_head dotted.Namespace text = head.Whole (says.Namespace text)
dotted_head dotted.Call text = head.Call text

abbrev pub dotted_step : CommandState → Span → DottedUse → List ℕ → Token → CommandTerminal → Option FileState
dotted_step s from for_ text t terminal.Dot = stands s from (spot.DottedName for_ (text ++ (full_stop ∷ [])))
dotted_step s from for_ text t _ = head_done s from (dotted_head for_ text) t

-- a token in a command, by where its reading stands

abbrev pub if_word : CommandTerminal → Option FileState → Option FileState
if_word (terminal.Word w) to = to
if_word _ to = None

abbrev pub if_variable : CommandTerminal → Option FileState → Option FileState
if_variable terminal.Variable to = to
if_variable _ to = None

abbrev pub if_in : CommandTerminal → Option FileState → Option FileState
if_in (terminal.Word word.In) to = to
if_in _ to = None

abbrev pub if_colon : CommandTerminal → Option FileState → Option FileState
if_colon terminal.Colon to = to
if_colon _ to = None

abbrev pub if_equals : CommandTerminal → Option FileState → Option FileState
if_equals terminal.Equals to = to
if_equals _ to = None

abbrev pub if_int : CommandTerminal → List ℕ → Option FileState → Option FileState
if_int terminal.Int text to = if is_int text then to else None
if_int _ text to = None

abbrev pub if_case_word : CommandTerminal → List ℕ → Option FileState → Option FileState
if_case_word terminal.Str text to = if is_case_word text then to else None
if_case_word _ text to = None

abbrev pub template_param_step : CommandState → Span → CommandTerminal → Option FileState
template_param_step s from (terminal.Word word.Param) = stands s from spot.TemplateParamWord
template_param_step s from _ = None

abbrev pub template_param_word_step : CommandState → Span → Token → CommandTerminal → Option FileState
template_param_word_step s from t terminal.Question = stands s from spot.TemplateParamName
template_param_word_step s from t (terminal.Word w) = stands s from (spot.TemplateParamColon t.text true)
template_param_word_step s from t _ = None

abbrev pub template_step : CommandState → Span → Token → CommandTerminal → Option FileState
template_step s from t terminal.Dot = stands s from spot.TemplateName
template_step s from t (terminal.Word w) = stands s from (spot.Attributes (head.Template t.text) no_attributes)
template_step s from t _ = None

abbrev pub call_step : CommandState → Span → Token → CommandTerminal → Option FileState
call_step s from t terminal.Dot = stands s from (spot.DottedName dotted.Call [])
call_step s from t (terminal.Word w) = stands s from (spot.Dotted dotted.Call t.text)
call_step s from t _ = None

abbrev pub for_in_step : CommandState → Span → List ℕ → CommandTerminal → Option FileState
for_in_step s from n terminal.Comma = stands s from (spot.ForIndex n)
for_in_step s from n (terminal.Word word.In) = stands s from (spot.Expr (use_.For n None) expr_start)
for_in_step s from n _ = None

abbrev pub let_colon_step : CommandState → Span → List ℕ → Token → CommandTerminal → Option FileState
let_colon_step s from n t terminal.Colon = stands s from (spot.Expr (use_.Let n) expr_start)
let_colon_step s from n t _ = head_done s from (head.Let n) t

abbrev pub param_colon_step : CommandState → Span → List ℕ → Token → CommandTerminal → Option FileState
param_colon_step s from n t terminal.Colon = stands s from (spot.Expr (use_.Param n) expr_start)
param_colon_step s from n t _ = head_done s from (head.Param n) t

abbrev pub after_int_step : CommandState → Span → List ℤ → Token → CommandTerminal → Option FileState
after_int_step s from values t terminal.Comma = stands s from (spot.IntValue values)
after_int_step s from values t _ = head_done s from (head.Whole (says.GoesOn (middle.PluralCase values))) t

abbrev pub after_case_word_step : CommandState → Span → List (List ℕ) → Token → CommandTerminal → Option FileState
after_case_word_step s from values t terminal.Comma = stands s from (spot.CaseWord values)
after_case_word_step s from values t _ = head_done s from (head.Whole (says.GoesOn (middle.SelectCase values))) t

abbrev pub spot_step : CommandState → Span → Spot → Token → CommandTerminal → Option FileState
spot_step s from spot.TemplateParam t m = template_param_step s from m
spot_step s from spot.TemplateParamWord t m = template_param_word_step s from t m
spot_step s from spot.TemplateParamName t m = if_word m (stands s from (spot.TemplateParamColon t.text false))
spot_step s from (spot.TemplateParamColon n required) t m = if_colon m (stands s from (spot.Type n required type_start))
spot_step s from (spot.Type n required r) t m = in_type s from n required t (type_step r t)
spot_step s from spot.Template t m = template_step s from t m
spot_step s from spot.TemplateName t m =
    if_word m (stands s from (spot.Attributes (head.Template t.text) no_attributes))
spot_step s from spot.Call t m = call_step s from t m
spot_step s from (spot.DottedName for_ text) t m = if_word m (stands s from (spot.Dotted for_ (text ++ t.text)))
spot_step s from (spot.Dotted for_ text) t m = dotted_step s from for_ text t m
spot_step s from spot.For t m = if_variable m (stands s from (spot.ForIn t.text))
spot_step s from (spot.ForIn n) t m = for_in_step s from n m
spot_step s from (spot.ForIndex n) t m = if_variable m (stands s from (spot.ForIndexIn n t.text))
spot_step s from (spot.ForIndexIn n index) t m =
    if_in m (stands s from (spot.Expr (use_.For n (Some index)) expr_start))
spot_step s from spot.Let t m = if_variable m (stands s from (spot.LetColon t.text))
spot_step s from (spot.LetColon n) t m = let_colon_step s from n t m
spot_step s from spot.Param t m = if_word m (stands s from (spot.ParamColon t.text))
spot_step s from (spot.ParamColon n) t m = param_colon_step s from n t m
spot_step s from (spot.IntValue values) t m =
    if_int m t.text (stands s from (spot.AfterInt (values ++ (pos (number_after 0 t.text) ∷ []))))
spot_step s from (spot.AfterInt values) t m = after_int_step s from values t m
spot_step s from (spot.CaseWord values) t m =
    if_case_word m t.text (stands s from (spot.AfterCaseWord (values ++ (t.text ∷ []))))
spot_step s from (spot.AfterCaseWord values) t m = after_case_word_step s from values t m
spot_step s from (spot.Expr for_ r) t m = in_expr s from for_ t (expr_step r t)
spot_step s from (spot.Attributes h a) t m = attributes_step s from h a t
spot_step s from (spot.Equals h a n) t m = if_equals m (stands s from (spot.Value h a n))
spot_step s from (spot.Value h a n) t m = value_step s from h a n t m

-- a token directly after the `{` of a command

abbrev pub opens_if : CommandState → Span → HeadKind → Spot → Option FileState
opens_if s from k at = if admits s k then stands s from at else None

-- the use of an expression that begins a command, where a print may stand
abbrev pub print_use : CommandState → Option Use
print_use s =
    if admits s kind.Print then Some use_.Print else
    (if admits s kind.MessagePrint then Some use_.MessagePrint else None)

abbrev pub print_opens : CommandState → Span → Option Use → Option FileState
print_opens s from None = None
print_opens s from (Some for_) = stands s from (spot.Expr for_ expr_start)

abbrev pub case_opens : CommandState → Span → Option FileState
case_opens s from =
    if admits s kind.Case then stands s from (spot.Expr (use_.Case []) expr_start) else
    if admits s kind.PluralCase then stands s from (spot.IntValue []) else
    opens_if s from kind.SelectCase (spot.CaseWord [])

abbrev pub bare_expr : CommandState → Span → Option Use → ExprStep → Option FileState
bare_expr s from (Some for_) (expr_does.Next r) = stands s from (spot.Expr for_ r)
bare_expr s from _ _ = None

abbrev pub bare_opens : CommandState → Span → Option Head → Token → Option FileState
bare_opens s from (Some h) t = opens_if s from (head_kind h) (spot.Attributes h no_attributes)
bare_opens s from None t = bare_expr s from (print_use s) (expr_step expr_start t)

abbrev pub opened_step : CommandState → Span → Token → CommandTerminal → Option FileState
opened_step s from t terminal.At = opens_if s from kind.TemplateParam spot.TemplateParam
opened_step s from t (terminal.Word word.Namespace) =
    opens_if s from kind.Namespace (spot.DottedName dotted.Namespace [])
opened_step s from t (terminal.Word word.Template) = opens_if s from kind.Template spot.Template
opened_step s from t (terminal.Word word.Print) = print_opens s from (print_use s)
opened_step s from t (terminal.Word word.If) = opens_if s from kind.If (spot.Expr use_.If expr_start)
opened_step s from t (terminal.Word word.ElseIf) = opens_if s from kind.ElseIf (spot.Expr use_.ElseIf expr_start)
opened_step s from t (terminal.Word word.Switch) = opens_if s from kind.Switch (spot.Expr use_.Switch expr_start)
opened_step s from t (terminal.Word word.Plural) = opens_if s from kind.Plural (spot.Expr use_.Plural expr_start)
opened_step s from t (terminal.Word word.Select) = opens_if s from kind.Select (spot.Expr use_.Select expr_start)
opened_step s from t (terminal.Word word.Case) = case_opens s from
opened_step s from t (terminal.Word word.For) = opens_if s from kind.For spot.For
opened_step s from t (terminal.Word word.Let) = opens_if s from kind.Let spot.Let
opened_step s from t (terminal.Word word.Call) = opens_if s from kind.Call spot.Call
opened_step s from t (terminal.Word word.Param) = opens_if s from kind.Param spot.Param
opened_step s from t m = bare_opens s from (bare_head m) t

-- a token between commands
abbrev pub between_step : CommandState → Token → CommandTerminal → Option FileState
between_step s t terminal.Text = taken (command_step s (record { form = says.Text t.text; span = t.span }))
between_step s t terminal.Begin = file_at s (where_.Opened t.span)
between_step s t _ = None

abbrev pub file_step_at : CommandSpot → CommandState → Token → CommandTerminal → Option FileState
file_step_at where_.Between s t m = between_step s t m
file_step_at (where_.Opened from) s t m = opened_step s from t m
file_step_at (where_.Inside from at) s t m = spot_step s from at t m

abbrev pub file_step : FileState → Token → Option FileState
file_step s t = file_step_at s.spot s.commands t (command_terminal_of t)

abbrev pub file_start : FileState
file_start = record { commands = command_start; spot = where_.Between }

-- the nodes on the longest branch of the expression or type that is read
abbrev pub spot_depth : Spot → ℕ
spot_depth (spot.Expr for_ r) = expr_depth r
spot_depth (spot.Type n required r) = type_depth r
spot_depth _ = 0

abbrev pub depth_in : CommandSpot → ℕ
depth_in (where_.Inside from at) = spot_depth at
depth_in _ = 0

-- the depth at a token that leads from one state to another
abbrev pub token_depth : FileState → FileState → ℕ
token_depth s to = length s.commands.blocks + depth_in to.spot

-- whether the token read last is a word that stands as a type, and where it stands if it names none
abbrev pub spot_word : Spot → Bool
spot_word (spot.Type n required r) = is_after_name r.expected
spot_word _ = false

abbrev pub word_in : CommandSpot → Bool
word_in (where_.Inside from at) = spot_word at
word_in _ = false

abbrev pub spot_unknown : Spot → Bool → Option ℕ
spot_unknown (spot.Type n required r) less_follows = unknown_type r less_follows
spot_unknown _ less_follows = None

abbrev pub unknown_in : CommandSpot → Bool → Option ℕ
unknown_in (where_.Inside from at) less_follows = spot_unknown at less_follows
unknown_in _ less_follows = None

-- the tree, if what was read is a whole file
abbrev pub tree_of : Content → Option Tree
tree_of (content.Templates n templates) = Some (record { namespace = n; templates = templates })
tree_of _ = None

abbrev pub whole_at : CommandSpot → Content → Option Tree
whole_at where_.Between k = tree_of k
whole_at _ k = None

abbrev pub whole_file : FileState → Option Tree
whole_file s = whole_at s.spot s.commands.content
