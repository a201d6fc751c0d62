-- The machine of commands: what a command does to what was read. It has no step at one with which no file goes on.
-- Example: after `{if $x}a` an `{else}` opens another body in the same block, and a `{case 1}` has no step.
use Rattle.std.specs.Prelude.{ℕ, ℤ, Bool, true, false, ◌&&◌, List, [], ◌∷◌, ◌++◌, Option, Some, None, if◌then◌else◌}
use Rattle.std.specs.List.{list_all}
use Rattle.soy_base.specs.WhiteSpace.{is_template_space}
use Rattle.soy_base.specs.declared.fault.Span.{Span}
use Rattle.soy_tree.specs.Formed.{is_message_text}
use Rattle.soy_tree.specs.ViewNodes.{view_nodes}
use Rattle.soy_tree.specs.declared.expr.Expr.{Expr}
use Rattle.soy_tree.specs.declared.node.Argument.{Argument}
use Rattle.soy_tree.specs.declared.node.Form.TheVariants as form
use Rattle.soy_tree.specs.declared.node.Given.TheVariants as given
use Rattle.soy_tree.specs.declared.node.MessageBody.{MessageBody}
use Rattle.soy_tree.specs.declared.node.MessageBody.TheVariants as message_body
use Rattle.soy_tree.specs.declared.node.Node.{Node}
use Rattle.soy_tree.specs.declared.tree.Param.{Param}
use Rattle.soy_tree.specs.declared.tree.Template.{Template}
use Rattle.expr_parser.specs.Operands.{joined}
use Rattle.soy_parser.specs.declared.block.Block.{Block}
use Rattle.soy_parser.specs.declared.block.Block.TheVariants as block
use Rattle.soy_parser.specs.declared.block.CommandState.{CommandState}
use Rattle.soy_parser.specs.declared.block.Content.{Content}
use Rattle.soy_parser.specs.declared.block.Content.TheVariants as content
use Rattle.soy_parser.specs.declared.block.Nodes.{Nodes}
use Rattle.soy_parser.specs.declared.block.OpenIf.{OpenIf}
use Rattle.soy_parser.specs.declared.block.OpenMessage.{OpenMessage}
use Rattle.soy_parser.specs.declared.block.OpenPlural.{OpenPlural}
use Rattle.soy_parser.specs.declared.block.OpenSelect.{OpenSelect}
use Rattle.soy_parser.specs.declared.block.OpenSwitch.{OpenSwitch}
use Rattle.soy_parser.specs.declared.block.OpenTemplate.{OpenTemplate}
use Rattle.soy_parser.specs.declared.block.TextRun.{TextRun}
use Rattle.soy_parser.specs.declared.command.Command.{Command}
use Rattle.soy_parser.specs.declared.command.Middle.{Middle}
use Rattle.soy_parser.specs.declared.command.Middle.TheVariants as middle
use Rattle.soy_parser.specs.declared.command.Opening.{Opening}
use Rattle.soy_parser.specs.declared.command.Opening.TheVariants as opening
use Rattle.soy_parser.specs.declared.command.Single.{Single}
use Rattle.soy_parser.specs.declared.command.Single.TheVariants as single
use Rattle.soy_parser.specs.declared.command.CommandForm.{CommandForm}
use Rattle.soy_parser.specs.declared.command.CommandForm.TheVariants as says
use Rattle.soy_parser.specs.declared.terminal.BlockName.{BlockName}
use Rattle.soy_parser.specs.declared.terminal.BlockName.TheVariants as name
use Rattle.soy_parser.specs.Nodes.{node_of, arm_of, case_of, argument_of, whole_message, plural_cases, select_cases}
use Rattle.soy_parser.specs.Nodes.{text_span, up_to}
use Rattle.soy_parser.specs.SpellsTree.{as_param, template_of}

abbrev pub state : List Block → Content → Option CommandState
state blocks content = Some (record { blocks = blocks; content = content })

abbrev pub is_white : List ℕ → Bool
is_white text = list_all is_template_space text

-- nodes and the text after them

abbrev pub nodes_with : List Node → Option TextRun → Nodes
nodes_with items run = record { items = items; run = run }

abbrev pub no_nodes : Nodes
no_nodes = nodes_with [] None

abbrev pub text_run : Option TextRun → List ℕ → Span → TextRun
text_run None text span = record { text = text; span = span }
text_run (Some r) text span = record { text = r.text ++ text; span = text_span r.text text r.span span }

abbrev pub with_text : Nodes → List ℕ → Span → Nodes
with_text nodes text span = nodes_with nodes.items (Some (text_run nodes.run text span))

abbrev pub ended_run : List Node → Option TextRun → List Node
ended_run items None = items
ended_run items (Some r) = items ++ (node_of (form.Text r.text) r.span ∷ [])

-- the nodes where the text doesn't go on
abbrev pub ended : Nodes → List Node
ended nodes = ended_run nodes.items nodes.run

abbrev pub is_empty_of : List Node → Option TextRun → Bool
is_empty_of [] None = true
is_empty_of _ _ = false

abbrev pub is_empty : Nodes → Bool
is_empty nodes = is_empty_of nodes.items nodes.run

-- a node has come
abbrev pub adds : List Block → List Node → Node → Option CommandState
adds blocks before n = state blocks (content.Body (nodes_with (before ++ (n ∷ [])) None))

-- a body begins inside a block
abbrev pub begins : List Block → Block → Option CommandState
begins blocks b = state (b ∷ blocks) (content.Body no_nodes)

-- what a message holds begins there
abbrev pub begins_parts : List Block → Block → Option CommandState
begins_parts blocks b = state (b ∷ blocks) (content.Parts no_nodes true)

-- in a body

abbrev pub single_step : List Block → List Node → Single → Span → Option CommandState
single_step blocks ns (single.Print e) span = adds blocks ns (node_of (form.Print e None) span)
single_step blocks ns (single.Let name e) span = adds blocks ns (node_of (form.Let name e) span)
single_step blocks ns (single.Call name all) span = adds blocks ns (node_of (form.Call name all []) span)
single_step blocks ns (single.MessagePrint e phname) span = None
single_step blocks ns (single.Param name e) span = None

abbrev pub opening_step : List Block → List Node → Opening → Span → Option CommandState
opening_step blocks ns (opening.If e) span =
    begins blocks (block.Arm (record { before = ns; start = span; arms = [] }) e)
opening_step blocks ns (opening.Switch e) span = state (block.Switch ns span e ∷ blocks) content.BeforeCases
opening_step blocks ns (opening.For name index e) span = begins blocks (block.For ns span name index e)
opening_step blocks ns (opening.Let name kind) span = begins blocks (block.Let ns span name kind)
opening_step blocks ns (opening.Call name all) span =
    state (block.Call ns span name all ∷ blocks) (content.Arguments [])
opening_step blocks ns (opening.Message desc meaning) span =
    begins_parts blocks (block.Message (record { before = ns; start = span; desc = desc; meaning = meaning }))
opening_step blocks ns (opening.Template h) span = None
opening_step blocks ns (opening.Param name kind) span = None
opening_step blocks ns (opening.Plural e offset) span = None
opening_step blocks ns (opening.Select e) span = None

-- a part of an if or a switch has its body
abbrev pub with_arm : OpenIf → Expr → List Node → OpenIf
with_arm i when body = record { before = i.before; start = i.start; arms = i.arms ++ (arm_of when body ∷ []) }

abbrev pub with_case : OpenSwitch → List Expr → List Node → OpenSwitch
with_case s values body =
    record { before = s.before; start = s.start; subject = s.subject; cases = s.cases ++ (case_of values body ∷ []) }

abbrev pub arm_goes_on : List Block → OpenIf → Middle → Option CommandState
arm_goes_on blocks i (middle.ElseIf e) = begins blocks (block.Arm i e)
arm_goes_on blocks i middle.Else = begins blocks (block.Else i)
arm_goes_on blocks i _ = None

abbrev pub case_goes_on : List Block → OpenSwitch → Middle → Option CommandState
case_goes_on blocks s (middle.Case values) = begins blocks (block.Case s values)
case_goes_on blocks s middle.Default = begins blocks (block.SwitchDefault s)
case_goes_on blocks s _ = None

abbrev pub body_goes_on : List Block → List Node → Middle → Option CommandState
body_goes_on (block.Arm i when ∷ blocks) ns m = arm_goes_on blocks (with_arm i when ns) m
body_goes_on (block.Case s values ∷ blocks) ns m = case_goes_on blocks (with_case s values ns) m
body_goes_on _ ns m = None

-- whether a block that has a body is closed by this name
abbrev pub closes_body : Block → BlockName → Bool
closes_body (block.Template t) name.Template = true
closes_body (block.Arm i when) name.If = true
closes_body (block.Else i) name.If = true
closes_body (block.For before start variable index of) name.For = true
closes_body (block.Let before start variable kind) name.Let = true
closes_body (block.Param arguments start param kind) name.Param = true
closes_body (block.Case s values) name.Switch = true
closes_body (block.SwitchDefault s) name.Switch = true
closes_body _ _ = false

abbrev pub closed_if : List Block → OpenIf → Option (List Node) → Span → Option CommandState
closed_if blocks i other end = adds blocks i.before (node_of (form.If i.arms other) (joined i.start end))

abbrev pub closed_switch : List Block → OpenSwitch → Option (List Node) → Span → Option CommandState
closed_switch blocks s other end =
    adds blocks s.before (node_of (form.Switch s.subject s.cases other) (joined s.start end))

abbrev pub closed_template : List Block → OpenTemplate → List Node → Span → Option CommandState
closed_template blocks t body end =
    state blocks (content.Templates t.namespace (t.templates
    ++ (template_of t.head t.params body (up_to t.start end) ∷ [])))

abbrev pub closed_body : List Block → Block → List Node → Span → Option CommandState
closed_body blocks (block.Template t) ns end = closed_template blocks t ns end
closed_body blocks (block.Arm i when) ns end = closed_if blocks (with_arm i when ns) None end
closed_body blocks (block.Else i) ns end = closed_if blocks i (Some ns) end
closed_body blocks (block.For before start variable index of) ns end =
    adds blocks before (node_of (form.For variable index of ns) (joined start end))
closed_body blocks (block.Let before start variable kind) ns end =
    adds blocks before (node_of (form.LetBlock variable kind ns) (up_to start end))
closed_body blocks (block.Param arguments start param kind) ns end =
    state blocks (content.Arguments (arguments ++ (argument_of param (given.Block kind ns) (up_to start end) ∷ [])))
closed_body blocks (block.Case s values) ns end = closed_switch blocks (with_case s values ns) None end
closed_body blocks (block.SwitchDefault s) ns end = closed_switch blocks s (Some ns) end
closed_body blocks _ ns end = None

abbrev pub body_closes : List Block → List Node → BlockName → Span → Option CommandState
body_closes [] ns n end = None
body_closes (b ∷ blocks) ns n end = if closes_body b n then closed_body blocks b ns end else None

-- a parameter, at the head of a template
abbrev pub with_param : OpenTemplate → Param → OpenTemplate
with_param t param =
    record {
      namespace = t.namespace;
      templates = t.templates;
      head = t.head;
      start = t.start;
      params = t.params ++ (param ∷ []);
    }

abbrev pub template_param_step : List Block → Param → Option CommandState
template_param_step (block.Template t ∷ blocks) param = begins blocks (block.Template (with_param t param))
template_param_step _ param = None

abbrev pub body_step : List Block → Nodes → CommandForm → Span → Option CommandState
body_step blocks nodes (says.Text text) span = state blocks (content.Body (with_text nodes text span))
body_step blocks nodes (says.Character text) span = state blocks (content.Body (with_text nodes text span))
body_step blocks nodes (says.Namespace n) span = None
body_step blocks nodes (says.TemplateParam n required of) span =
    if is_empty nodes then template_param_step blocks (as_param n of required span) else None
body_step blocks nodes (says.Single of) span = single_step blocks (ended nodes) of span
body_step blocks nodes (says.Opens of) span = opening_step blocks (ended nodes) of span
body_step blocks nodes (says.GoesOn m) span = body_goes_on blocks (ended nodes) m
body_step blocks nodes (says.Closes n) span = body_closes blocks (ended nodes) n span

-- between the templates of a file

abbrev pub white_step : List Block → CommandForm → Span → Option CommandState
white_step blocks (says.Text text) span = if is_white text then state blocks content.White else None
white_step blocks (says.Namespace n) span = state blocks (content.Templates n [])
white_step blocks _ span = None

abbrev pub template_opens : List Block → List ℕ → List Template → Opening → Span → Option CommandState
template_opens blocks namespace templates (opening.Template h) span = begins blocks
    (block.Template (record { namespace = namespace; templates = templates; head = h; start = span; params = [] }))
template_opens blocks namespace templates _ span = None

abbrev pub templates_step : List Block → List ℕ → List Template → CommandForm → Span → Option CommandState
templates_step blocks namespace templates (says.Text text) span =
    if is_white text then state blocks (content.Templates namespace templates) else None
templates_step blocks namespace templates (says.Opens of) span = template_opens blocks namespace templates of span
templates_step blocks namespace templates _ span = None

-- in a call

abbrev pub argument_single : List Block → List Argument → Single → Span → Option CommandState
argument_single blocks arguments (single.Param n e) span =
    state blocks (content.Arguments (arguments ++ (argument_of n (given.Plain e) span ∷ [])))
argument_single blocks arguments _ span = None

abbrev pub argument_opens : List Block → List Argument → Opening → Span → Option CommandState
argument_opens blocks arguments (opening.Param n kind) span = begins blocks (block.Param arguments span n kind)
argument_opens blocks arguments _ span = None

abbrev pub closed_call : List Block → List Argument → Span → Option CommandState
closed_call (block.Call before start n all ∷ blocks) arguments end =
    adds blocks before (node_of (form.Call n all arguments) (joined start end))
closed_call _ arguments end = None

abbrev pub is_call : BlockName → Bool
is_call name.Call = true
is_call _ = false

abbrev pub arguments_step : List Block → List Argument → CommandForm → Span → Option CommandState
arguments_step blocks arguments (says.Text text) span =
    if is_white text then state blocks (content.Arguments arguments) else None
arguments_step blocks arguments (says.Single of) span = argument_single blocks arguments of span
arguments_step blocks arguments (says.Opens of) span = argument_opens blocks arguments of span
arguments_step blocks arguments (says.Closes n) span = if is_call n then closed_call blocks arguments span else None
arguments_step blocks arguments _ span = None

-- before the first case of a switch, plural or select

abbrev pub switch_begins : List Block → List Node → Span → Expr → Middle → Option CommandState
switch_begins blocks before start e m =
    case_goes_on blocks (record { before = before; start = start; subject = e; cases = [] }) m

abbrev pub plural_goes_on : List Block → OpenPlural → Middle → Option CommandState
plural_goes_on blocks p (middle.PluralCase values) = begins_parts blocks (block.PluralCase p values)
plural_goes_on blocks p middle.Default = begins_parts blocks (block.PluralDefault p)
plural_goes_on blocks p _ = None

abbrev pub select_goes_on : List Block → OpenSelect → Middle → Option CommandState
select_goes_on blocks s (middle.SelectCase values) = begins_parts blocks (block.SelectCase s values)
select_goes_on blocks s middle.Default = begins_parts blocks (block.SelectDefault s)
select_goes_on blocks s _ = None

abbrev pub cases_begin : List Block → Middle → Option CommandState
cases_begin (block.Switch before start e ∷ blocks) m = switch_begins blocks before start e m
cases_begin (block.Plural e offset ∷ blocks) m =
    plural_goes_on blocks (record { selector = e; offset = offset; cases = [] }) m
cases_begin (block.Select e ∷ blocks) m = select_goes_on blocks (record { selector = e; cases = [] }) m
cases_begin _ m = None

abbrev pub is_switch : BlockName → Bool
is_switch name.Switch = true
is_switch _ = false

abbrev pub closed_bare_switch : List Block → Span → Option CommandState
closed_bare_switch (block.Switch before start e ∷ blocks) end =
    closed_switch blocks (record { before = before; start = start; subject = e; cases = [] }) None end
closed_bare_switch _ end = None

abbrev pub before_cases_step : List Block → CommandForm → Span → Option CommandState
before_cases_step blocks (says.Text text) span = if is_white text then state blocks content.BeforeCases else None
before_cases_step blocks (says.GoesOn m) span = cases_begin blocks m
before_cases_step blocks (says.Closes n) span = if is_switch n then closed_bare_switch blocks span else None
before_cases_step blocks _ span = None

-- in a message

abbrev pub with_plural_cases : OpenPlural → List ℤ → MessageBody → OpenPlural
with_plural_cases p values body =
    record { selector = p.selector; offset = p.offset; cases = p.cases ++ plural_cases values body }

abbrev pub with_select_cases : OpenSelect → List (List ℕ) → MessageBody → OpenSelect
with_select_cases s values body = record { selector = s.selector; cases = s.cases ++ select_cases values body }

abbrev pub fallback_begins : List Block → OpenMessage → MessageBody → Middle → Span → Option CommandState
fallback_begins blocks m body (middle.Fallback desc meaning) span =
    begins_parts blocks (block.Fallback m body (record { start = span; desc = desc; meaning = meaning }))
fallback_begins blocks m body _ span = None

abbrev pub message_goes_on : List Block → MessageBody → Middle → Span → Option CommandState
message_goes_on (block.Message m ∷ blocks) body next span = fallback_begins blocks m body next span
message_goes_on (block.PluralCase p values ∷ blocks) body next span =
    plural_goes_on blocks (with_plural_cases p values body) next
message_goes_on (block.SelectCase s values ∷ blocks) body next span =
    select_goes_on blocks (with_select_cases s values body) next
message_goes_on _ body next span = None

abbrev pub closes_message : Block → BlockName → Bool
closes_message (block.Message m) name.Msg = true
closes_message (block.Fallback m body f) name.Msg = true
closes_message (block.PluralDefault p) name.Plural = true
closes_message (block.SelectDefault s) name.Select = true
closes_message _ _ = false

abbrev pub closed_message : List Block → Block → MessageBody → Span → Option CommandState
closed_message blocks (block.Message m) body end = adds blocks m.before
    (node_of (form.Message (whole_message m.desc m.meaning body m.start) None) (joined m.start end))
closed_message blocks (block.Fallback m first f) body end = adds blocks m.before
    (node_of (form.Message (whole_message m.desc m.meaning first m.start)
    (Some (whole_message f.desc f.meaning body f.start)))
    (joined m.start end))
closed_message blocks (block.PluralDefault p) body end =
    state blocks (content.Choice (message_body.Plural p.selector p.offset p.cases body))
closed_message blocks (block.SelectDefault s) body end =
    state blocks (content.Choice (message_body.Select s.selector s.cases body))
closed_message blocks _ body end = None

abbrev pub message_closes : List Block → MessageBody → BlockName → Span → Option CommandState
message_closes [] body n end = None
message_closes (b ∷ blocks) body n end = if closes_message b n then closed_message blocks b body end else None

abbrev pub choice_opens : List Block → Opening → Option CommandState
choice_opens blocks (opening.Plural e offset) = state (block.Plural e offset ∷ blocks) content.BeforeCases
choice_opens blocks (opening.Select e) = state (block.Select e ∷ blocks) content.BeforeCases
choice_opens blocks _ = None

abbrev pub part_single : List Block → List Node → Single → Span → Option CommandState
part_single blocks ns (single.MessagePrint e phname) span =
    state blocks (content.Parts (nodes_with (ns ++ (node_of (form.Print e phname) span ∷ [])) None) false)
part_single blocks ns _ span = None

abbrev pub has_whole_tags : Nodes → Bool
has_whole_tags nodes = is_message_text (view_nodes (ended nodes))

abbrev pub body_of_parts : Nodes → MessageBody
body_of_parts nodes = message_body.Parts (ended nodes)

abbrev pub parts_step : List Block → Nodes → Bool → CommandForm → Span → Option CommandState
parts_step blocks nodes white (says.Text text) span =
    state blocks (content.Parts (with_text nodes text span) (white && is_white text))
parts_step blocks nodes white (says.Character text) span =
    state blocks (content.Parts (with_text nodes text span) false)
parts_step blocks nodes white (says.Namespace n) span = None
parts_step blocks nodes white (says.TemplateParam n required of) span = None
parts_step blocks nodes white (says.Single of) span = part_single blocks (ended nodes) of span
parts_step blocks nodes white (says.Opens of) span = if white then choice_opens blocks of else None
parts_step blocks nodes white (says.GoesOn m) span =
    if has_whole_tags nodes then message_goes_on blocks (body_of_parts nodes) m span else None
parts_step blocks nodes white (says.Closes n) span =
    if has_whole_tags nodes then message_closes blocks (body_of_parts nodes) n span else None

abbrev pub choice_step : List Block → MessageBody → CommandForm → Span → Option CommandState
choice_step blocks body (says.Text text) span = if is_white text then state blocks (content.Choice body) else None
choice_step blocks body (says.GoesOn m) span = message_goes_on blocks body m span
choice_step blocks body (says.Closes n) span = message_closes blocks body n span
choice_step blocks body _ span = None

abbrev pub step_at : Content → List Block → CommandForm → Span → Option CommandState
step_at content.White blocks of span = white_step blocks of span
step_at (content.Templates namespace templates) blocks of span = templates_step blocks namespace templates of span
step_at (content.Body nodes) blocks of span = body_step blocks nodes of span
step_at (content.Arguments arguments) blocks of span = arguments_step blocks arguments of span
step_at content.BeforeCases blocks of span = before_cases_step blocks of span
step_at (content.Parts nodes white) blocks of span = parts_step blocks nodes white of span
step_at (content.Choice body) blocks of span = choice_step blocks body of span

abbrev pub command_step : CommandState → Command → Option CommandState
command_step s c = step_at s.content s.blocks c.form c.span

-- the state after commands
abbrev pub commands_from : (CommandState → Option CommandState) → Option CommandState → Option CommandState
commands_from go_on None = None
commands_from go_on (Some s) = go_on s

abbrev pub command_run : List Command → CommandState → Option CommandState
command_run [] s = Some s
command_run (c ∷ cs) s = commands_from (command_run cs) (command_step s c)

abbrev pub command_start : CommandState
command_start = record { blocks = []; content = content.White }
