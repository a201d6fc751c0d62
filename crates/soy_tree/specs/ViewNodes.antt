-- The nodes and messages that those of the code stand for.
use Rattle.std.specs.Prelude.{ℕ, ℤ, List, [], ◌∷◌, Option, Some, None, map}
use Rattle.soy_base.specs.declared.fault.Span.{Span}
use Rattle.soy_tree.specs.declared.node.Node as code
use Rattle.soy_tree.specs.declared.node.Form as code_form
use Rattle.soy_tree.specs.declared.node.Arm as code_arm
use Rattle.soy_tree.specs.declared.node.Case as code_case
use Rattle.soy_tree.specs.declared.node.Argument as code_argument
use Rattle.soy_tree.specs.declared.node.Given as code_given
use Rattle.soy_tree.specs.declared.node.Message as code_message
use Rattle.soy_tree.specs.declared.node.MessageBody as code_body
use Rattle.soy_tree.specs.declared.node.PluralCase as code_plural_case
use Rattle.soy_tree.specs.declared.node.SelectCase as code_select_case
use Rattle.soy_tree.specs.declared.node.Form.TheVariants as form
use Rattle.soy_tree.specs.declared.node.Form.TheOpen.{Form-F, Given-F, MessageBody-F, Argument-F, Arm-F, Case-F}
use Rattle.soy_tree.specs.declared.node.Form.TheOpen.{Message-F, Node-F, PluralCase-F, SelectCase-F}
use Rattle.soy_tree.specs.Types.{Name}
use Rattle.soy_tree.specs.Expressions.{Expr}
use Rattle.soy_tree.specs.Nodes.{Node, Nodes, Otherwise, Arms, Cases, Arguments, Given, Message, Fallback, MessageBody}
use Rattle.soy_tree.specs.Nodes.{PluralCases, SelectCases, TextNode, Print, If, Switch, For, Let, LetBlock, Call}
use Rattle.soy_tree.specs.Nodes.{MessageNode, no_node, node, no_otherwise, otherwise, no_arm, arm, no_case, case}
use Rattle.soy_tree.specs.Nodes.{no_argument, argument, Plain, Block, message, no_fallback, fallback, Parts, Plural}
use Rattle.soy_tree.specs.Nodes.{Select, no_plural_case, plural_case, no_select_case, select_case}
use Rattle.soy_tree.specs.ViewExpressions.{view_expr, view_exprs}

abbrev pub nodes_of : List Node → Nodes
nodes_of [] = no_node
nodes_of (n ∷ ns) = node n (nodes_of ns)

abbrev pub otherwise_of : Option (List Node) → Otherwise
otherwise_of None = no_otherwise
otherwise_of (Some ns) = otherwise (nodes_of ns)

abbrev pub arms_of : List (Expr × Nodes) → Arms
arms_of [] = no_arm
arms_of (a ∷ as_) = arm a.0 a.1 (arms_of as_)

abbrev pub cases_of : List (List Expr × Nodes) → Cases
cases_of [] = no_case
cases_of (c ∷ cs) = case c.0 c.1 (cases_of cs)

abbrev pub arguments_of : List (Name × Given × Span) → Arguments
arguments_of [] = no_argument
arguments_of (a ∷ rest) = argument a.0 a.1 a.2 (arguments_of rest)

abbrev pub fallback_of : Option Message → Fallback
fallback_of None = no_fallback
fallback_of (Some m) = fallback m

abbrev pub plural_cases_of : List (ℤ × MessageBody) → PluralCases
plural_cases_of [] = no_plural_case
plural_cases_of (c ∷ cs) = plural_case c.0 c.1 (plural_cases_of cs)

abbrev pub select_cases_of : List (List ℕ × MessageBody) → SelectCases
select_cases_of [] = no_select_case
select_cases_of (c ∷ cs) = select_case c.0 c.1 (select_cases_of cs)

-- what is inside is already seen as plain data
abbrev pub NodeLayer : ((A B C D E F G H I J : Type 0) → Type 0) → Type 0
NodeLayer Layer =
    Layer (Span → Node) Given MessageBody (Name × Given × Span) (Expr × Nodes) (List Expr × Nodes) Message Node
    (ℤ × MessageBody) (List ℕ × MessageBody)

abbrev pub form_layer : NodeLayer Form-F → Span → Node
form_layer (Form-F.Text text) span = TextNode text span
form_layer (Form-F.Print e phname) span = Print (view_expr e) phname span
form_layer (Form-F.If arms other) span = If (arms_of arms) (otherwise_of other) span
form_layer (Form-F.Switch e cases other) span = Switch (view_expr e) (cases_of cases) (otherwise_of other) span
form_layer (Form-F.For x i e body) span = For x i (view_expr e) (nodes_of body) span
form_layer (Form-F.Let x e) span = Let x (view_expr e) span
form_layer (Form-F.LetBlock x kind body) span = LetBlock x kind (nodes_of body) span
form_layer (Form-F.Call name all given) span = Call name all (arguments_of given) span
form_layer (Form-F.Message m other) span = MessageNode m (fallback_of other) span

abbrev pub given_layer : NodeLayer Given-F → Given
given_layer (Given-F.Plain e) = Plain (view_expr e)
given_layer (Given-F.Block kind body) = Block kind (nodes_of body)

abbrev pub body_layer : NodeLayer MessageBody-F → MessageBody
body_layer (MessageBody-F.Parts ns) = Parts (nodes_of ns)
body_layer (MessageBody-F.Plural e offset cases other) = Plural (view_expr e) offset (plural_cases_of cases) other
body_layer (MessageBody-F.Select e cases other) = Select (view_expr e) (select_cases_of cases) other

abbrev pub argument_layer : NodeLayer Argument-F → Name × Given × Span
argument_layer a = (a.name, a.given, a.span)

abbrev pub arm_layer : NodeLayer Arm-F → Expr × Nodes
arm_layer a = (view_expr a.when, nodes_of a.body)

abbrev pub case_layer : NodeLayer Case-F → List Expr × Nodes
case_layer c = (view_exprs c.values, nodes_of c.body)

abbrev pub message_layer : NodeLayer Message-F → Message
message_layer m = message m.desc m.meaning m.body m.span

abbrev pub node_layer : NodeLayer Node-F → Node
node_layer n = n.form n.span

abbrev pub plural_case_layer : NodeLayer PluralCase-F → ℤ × MessageBody
plural_case_layer c = (c.is, c.body)

abbrev pub select_case_layer : NodeLayer SelectCase-F → List ℕ × MessageBody
select_case_layer c = (c.is, c.body)

abbrev pub view_node : code.Node → Node
view_node =
    code.fold-Node (Span → Node) Given MessageBody (Name × Given × Span) (Expr × Nodes) (List Expr × Nodes) Message
    Node (ℤ × MessageBody) (List ℕ × MessageBody) form_layer given_layer body_layer argument_layer arm_layer case_layer
    message_layer node_layer plural_case_layer select_case_layer

abbrev pub view_form : code_form.Form → Span → Node
view_form =
    code_form.fold-Form (Span → Node) Given MessageBody (Name × Given × Span) (Expr × Nodes) (List Expr × Nodes)
    Message Node (ℤ × MessageBody) (List ℕ × MessageBody) form_layer given_layer body_layer argument_layer arm_layer
    case_layer message_layer node_layer plural_case_layer select_case_layer

abbrev pub view_arm : code_arm.Arm → Expr × Nodes
view_arm =
    code_arm.fold-Arm (Span → Node) Given MessageBody (Name × Given × Span) (Expr × Nodes) (List Expr × Nodes) Message
    Node (ℤ × MessageBody) (List ℕ × MessageBody) form_layer given_layer body_layer argument_layer arm_layer case_layer
    message_layer node_layer plural_case_layer select_case_layer

abbrev pub view_case : code_case.Case → List Expr × Nodes
view_case =
    code_case.fold-Case (Span → Node) Given MessageBody (Name × Given × Span) (Expr × Nodes) (List Expr × Nodes)
    Message Node (ℤ × MessageBody) (List ℕ × MessageBody) form_layer given_layer body_layer argument_layer arm_layer
    case_layer message_layer node_layer plural_case_layer select_case_layer

abbrev pub view_argument : code_argument.Argument → Name × Given × Span
view_argument =
    code_argument.fold-Argument (Span → Node) Given MessageBody (Name × Given × Span) (Expr × Nodes)
    (List Expr × Nodes) Message Node (ℤ × MessageBody) (List ℕ × MessageBody) form_layer given_layer body_layer
    argument_layer arm_layer case_layer message_layer node_layer plural_case_layer select_case_layer

abbrev pub view_given : code_given.Given → Given
view_given =
    code_given.fold-Given (Span → Node) Given MessageBody (Name × Given × Span) (Expr × Nodes) (List Expr × Nodes)
    Message Node (ℤ × MessageBody) (List ℕ × MessageBody) form_layer given_layer body_layer argument_layer arm_layer
    case_layer message_layer node_layer plural_case_layer select_case_layer

abbrev pub view_message : code_message.Message → Message
view_message =
    code_message.fold-Message (Span → Node) Given MessageBody (Name × Given × Span) (Expr × Nodes) (List Expr × Nodes)
    Message Node (ℤ × MessageBody) (List ℕ × MessageBody) form_layer given_layer body_layer argument_layer arm_layer
    case_layer message_layer node_layer plural_case_layer select_case_layer

abbrev pub view_body : code_body.MessageBody → MessageBody
view_body =
    code_body.fold-MessageBody (Span → Node) Given MessageBody (Name × Given × Span) (Expr × Nodes) (List Expr × Nodes)
    Message Node (ℤ × MessageBody) (List ℕ × MessageBody) form_layer given_layer body_layer argument_layer arm_layer
    case_layer message_layer node_layer plural_case_layer select_case_layer

abbrev pub view_plural_case : code_plural_case.PluralCase → ℤ × MessageBody
view_plural_case =
    code_plural_case.fold-PluralCase (Span → Node) Given MessageBody (Name × Given × Span) (Expr × Nodes)
    (List Expr × Nodes) Message Node (ℤ × MessageBody) (List ℕ × MessageBody) form_layer given_layer body_layer
    argument_layer arm_layer case_layer message_layer node_layer plural_case_layer select_case_layer

abbrev pub view_select_case : code_select_case.SelectCase → List ℕ × MessageBody
view_select_case =
    code_select_case.fold-SelectCase (Span → Node) Given MessageBody (Name × Given × Span) (Expr × Nodes)
    (List Expr × Nodes) Message Node (ℤ × MessageBody) (List ℕ × MessageBody) form_layer given_layer body_layer
    argument_layer arm_layer case_layer message_layer node_layer plural_case_layer select_case_layer

abbrev pub view_nodes : List code.Node → Nodes
view_nodes ns = nodes_of (map view_node ns)

abbrev pub view_otherwise : Option (List code.Node) → Otherwise
view_otherwise None = no_otherwise
view_otherwise (Some ns) = otherwise (view_nodes ns)

abbrev pub view_arms : List code_arm.Arm → Arms
view_arms arms = arms_of (map view_arm arms)

abbrev pub view_cases : List code_case.Case → Cases
view_cases cases = cases_of (map view_case cases)

abbrev pub view_arguments : List code_argument.Argument → Arguments
view_arguments arguments = arguments_of (map view_argument arguments)

abbrev pub view_plural_cases : List code_plural_case.PluralCase → PluralCases
view_plural_cases cases = plural_cases_of (map view_plural_case cases)

abbrev pub view_select_cases : List code_select_case.SelectCase → SelectCases
view_select_cases cases = select_cases_of (map view_select_case cases)

-- a text of the code that stands at a span
abbrev pub text_node : List ℕ → Span → code.Node
text_node text span = record { form = form.Text text; span = span }
