-- What the nodes of the code stand for, form by form, and the arms, cases and messages in them.
use Rattle.std.proofs.Common.{◌≡◌, ℕ, ℤ, Bool, List, Option, Some, None, sym, ap, ◌∙◌}
use Rattle.soy_base.specs.declared.fault.Span.{Span}
use Rattle.soy_base.specs.declared.kind.Kind.{Kind}
use Rattle.soy_tree.specs.declared.expr.Expr as code_expr
use Rattle.soy_tree.specs.declared.node.Argument as code_argument
use Rattle.soy_tree.specs.declared.node.Arm as code_arm
use Rattle.soy_tree.specs.declared.node.Case as code_case
use Rattle.soy_tree.specs.declared.node.Form as code_form
use Rattle.soy_tree.specs.declared.node.Form.TheOpen.{Form-F, Given-F, MessageBody-F}
use Rattle.soy_tree.specs.declared.node.Form.TheVariants as form
use Rattle.soy_tree.specs.declared.node.Given as code_given
use Rattle.soy_tree.specs.declared.node.Given.TheVariants as given
use Rattle.soy_tree.specs.declared.node.Message as code_message
use Rattle.soy_tree.specs.declared.node.MessageBody as code_body
use Rattle.soy_tree.specs.declared.node.MessageBody.TheVariants as message_body
use Rattle.soy_tree.specs.declared.node.Node as code
use Rattle.soy_tree.specs.declared.node.PluralCase as code_plural_case
use Rattle.soy_tree.specs.declared.node.SelectCase as code_select_case
use Rattle.soy_tree.specs.Expressions.{Expr}
use Rattle.soy_tree.specs.Nodes as tree
use Rattle.soy_tree.specs.Types.{Name}
use Rattle.soy_tree.specs.ViewExpressions.{view_expr, view_exprs}
use Rattle.soy_tree.specs.ViewNodes.{form_layer, given_layer, body_layer, argument_layer, arm_layer, case_layer}
use Rattle.soy_tree.specs.ViewNodes.{message_layer, node_layer, plural_case_layer, select_case_layer}
use Rattle.soy_tree.specs.ViewNodes.{view_form, view_given, view_body, view_argument, view_arm, view_case}
use Rattle.soy_tree.specs.ViewNodes.{view_message, view_node, view_plural_case, view_select_case}
use Rattle.soy_tree.specs.ViewNodes.{view_nodes, view_arms, view_cases, view_arguments}
use Rattle.soy_tree.specs.ViewNodes.{view_plural_cases, view_select_cases}
use Rattle.soy_parser.specs.Nodes.{node_of, arm_of, case_of, argument_of, whole_message}
use Rattle.soy_parser.proofs.NodeViews.{view_by_form}

-- a node by the layer that its form is made of
view_rolled : (f : code_form.Form) (o : Form-F code_form.Form code_given.Given code_body.MessageBody
    code_argument.Argument code_arm.Arm code_case.Case code_message.Message code.Node code_plural_case.PluralCase
    code_select_case.SelectCase)
    → code_form.roll-Form o ≡ f → (s : Span) → view_node (node_of f s)
    ≡ form_layer (code_form.map-Form code_form.Form code_given.Given code_body.MessageBody code_argument.Argument
    code_arm.Arm code_case.Case code_message.Message code.Node code_plural_case.PluralCase
    code_select_case.SelectCase
    (Span → tree.Node) tree.Given tree.MessageBody (Name × tree.Given × Span) (Expr × tree.Nodes) (List Expr ×
    tree.Nodes) tree.Message tree.Node (ℤ × tree.MessageBody)
    (List ℕ × tree.MessageBody) view_form view_given view_body view_argument view_arm view_case view_message
    view_node view_plural_case
    view_select_case o) s
view_rolled f o e s =
    view_by_form f s ∙ (ap (λ g. view_form g s) (sym e) ∙ ap (λ (g : Span → tree.Node). g s)
    (code_form.fold-roll-Form (Span → tree.Node) tree.Given tree.MessageBody (Name × tree.Given × Span) (Expr ×
    tree.Nodes) (List Expr × tree.Nodes) tree.Message tree.Node (ℤ × tree.MessageBody) (List ℕ × tree.MessageBody)
    form_layer given_layer body_layer argument_layer arm_layer case_layer message_layer node_layer plural_case_layer
    select_case_layer o))

pub view-If : (arms : List code_arm.Arm) (s : Span)
    → view_node (node_of (form.If arms None) s) ≡ tree.If (view_arms arms) tree.no_otherwise s
view-If arms s =
    view_rolled (form.If arms None) (Form-F.If arms None) (form.rolls-If arms None) s

pub view-IfElse : (arms : List code_arm.Arm) (body : List code.Node) (s : Span)
    → view_node (node_of (form.If arms (Some body)) s) ≡ tree.If (view_arms arms) (tree.otherwise (view_nodes body)) s
view-IfElse arms body s =
    view_rolled (form.If arms (Some body)) (Form-F.If arms (Some body)) (form.rolls-If arms (Some body)) s

pub view-Switch : (e : code_expr.Expr) (cases : List code_case.Case) (s : Span)
    → view_node (node_of (form.Switch e cases None) s)
    ≡ tree.Switch (view_expr e) (view_cases cases) tree.no_otherwise s
view-Switch e cases s =
    view_rolled (form.Switch e cases None) (Form-F.Switch e cases None) (form.rolls-Switch e cases None) s

pub view-SwitchDefault : (e : code_expr.Expr) (cases : List code_case.Case) (body : List code.Node) (s : Span)
    → view_node (node_of (form.Switch e cases (Some body)) s)
    ≡ tree.Switch (view_expr e) (view_cases cases) (tree.otherwise (view_nodes body)) s
view-SwitchDefault e cases body s =
    view_rolled (form.Switch e cases (Some body)) (Form-F.Switch e cases (Some body))
    (form.rolls-Switch e cases (Some body)) s

pub view-For : (x : List ℕ) (index : Option (List ℕ)) (e : code_expr.Expr) (body : List code.Node) (s : Span)
    → view_node (node_of (form.For x index e body) s) ≡ tree.For x index (view_expr e) (view_nodes body) s
view-For x index e body s =
    view_rolled (form.For x index e body) (Form-F.For x index e body) (form.rolls-For x index e body) s

pub view-Let : (x : List ℕ) (e : code_expr.Expr) (s : Span)
    → view_node (node_of (form.Let x e) s) ≡ tree.Let x (view_expr e) s
view-Let x e s =
    view_rolled (form.Let x e) (Form-F.Let x e) (form.rolls-Let x e) s

pub view-LetBlock : (x : List ℕ) (kind : Kind) (body : List code.Node) (s : Span)
    → view_node (node_of (form.LetBlock x kind body) s) ≡ tree.LetBlock x kind (view_nodes body) s
view-LetBlock x kind body s =
    view_rolled (form.LetBlock x kind body) (Form-F.LetBlock x kind body) (form.rolls-LetBlock x kind body) s

pub view-Call : (name : List ℕ) (all : Bool) (arguments : List code_argument.Argument) (s : Span)
    → view_node (node_of (form.Call name all arguments) s) ≡ tree.Call name all (view_arguments arguments) s
view-Call name all arguments s =
    view_rolled (form.Call name all arguments) (Form-F.Call name all arguments) (form.rolls-Call name all arguments) s

pub view-Message : (m : code_message.Message) (s : Span)
    → view_node (node_of (form.Message m None) s) ≡ tree.MessageNode (view_message m) tree.no_fallback s
view-Message m s =
    view_rolled (form.Message m None) (Form-F.Message m None) (form.rolls-Message m None) s

pub view-MessageFallback : (m other : code_message.Message) (s : Span)
    → view_node (node_of (form.Message m (Some other)) s)
    ≡ tree.MessageNode (view_message m) (tree.fallback (view_message other)) s
view-MessageFallback m other s =
    view_rolled (form.Message m (Some other)) (Form-F.Message m (Some other)) (form.rolls-Message m (Some other)) s

-- what stands in nodes

pub view-arm : (e : code_expr.Expr) (body : List code.Node) → view_arm (arm_of e body) ≡ (view_expr e, view_nodes body)
view-arm e body =
    code_arm.fold-roll-Arm (Span → tree.Node) tree.Given tree.MessageBody (Name × tree.Given × Span) (Expr ×
    tree.Nodes) (List Expr × tree.Nodes) tree.Message tree.Node (ℤ × tree.MessageBody) (List ℕ × tree.MessageBody)
    form_layer given_layer body_layer argument_layer arm_layer case_layer message_layer node_layer plural_case_layer
    select_case_layer (record { when = e; body = body })

pub view-case : (values : List code_expr.Expr) (body : List code.Node)
    → view_case (case_of values body) ≡ (view_exprs values, view_nodes body)
view-case values body =
    code_case.fold-roll-Case (Span → tree.Node) tree.Given tree.MessageBody (Name × tree.Given × Span) (Expr ×
    tree.Nodes) (List Expr × tree.Nodes) tree.Message tree.Node (ℤ × tree.MessageBody) (List ℕ × tree.MessageBody)
    form_layer given_layer body_layer argument_layer arm_layer case_layer message_layer node_layer plural_case_layer
    select_case_layer (record { values = values; body = body })

pub view-argument : (name : List ℕ) (g : code_given.Given) (s : Span)
    → view_argument (argument_of name g s) ≡ (name, view_given g, s)
view-argument name g s =
    code_argument.fold_out-Argument (Span → tree.Node) tree.Given tree.MessageBody (Name × tree.Given × Span) (Expr
    × tree.Nodes) (List Expr × tree.Nodes) tree.Message tree.Node (ℤ × tree.MessageBody) (List ℕ × tree.MessageBody)
    form_layer given_layer body_layer argument_layer arm_layer case_layer message_layer node_layer plural_case_layer
    select_case_layer (argument_of name g s)

pub view-Plain : (e : code_expr.Expr) → view_given (given.Plain e) ≡ tree.Plain (view_expr e)
view-Plain e =
    ap view_given (sym (given.rolls-Plain e))
    ∙ code_given.fold-roll-Given (Span → tree.Node) tree.Given tree.MessageBody (Name × tree.Given × Span) (Expr ×
    tree.Nodes) (List Expr × tree.Nodes) tree.Message tree.Node (ℤ × tree.MessageBody) (List ℕ × tree.MessageBody)
    form_layer given_layer body_layer argument_layer arm_layer case_layer message_layer node_layer plural_case_layer
    select_case_layer (Given-F.Plain e)

pub view-Block : (kind : Kind) (body : List code.Node) → view_given (given.Block kind body)
    ≡ tree.Block kind (view_nodes body)
view-Block kind body =
    ap view_given (sym (given.rolls-Block kind body))
    ∙ code_given.fold-roll-Given (Span → tree.Node) tree.Given tree.MessageBody (Name × tree.Given × Span) (Expr ×
    tree.Nodes) (List Expr × tree.Nodes) tree.Message tree.Node (ℤ × tree.MessageBody) (List ℕ × tree.MessageBody)
    form_layer given_layer body_layer argument_layer arm_layer case_layer message_layer node_layer plural_case_layer
    select_case_layer (Given-F.Block kind body)

pub view-message : (desc meaning : List ℕ) (body : code_body.MessageBody) (s : Span)
    → view_message (whole_message desc meaning body s) ≡ tree.message desc meaning (view_body body) s
view-message desc meaning body s =
    code_message.fold_out-Message (Span → tree.Node) tree.Given tree.MessageBody (Name × tree.Given × Span) (Expr ×
    tree.Nodes) (List Expr × tree.Nodes) tree.Message tree.Node (ℤ × tree.MessageBody) (List ℕ × tree.MessageBody)
    form_layer given_layer body_layer argument_layer arm_layer case_layer message_layer node_layer plural_case_layer
    select_case_layer (whole_message desc meaning body s)

pub view-Parts : (ns : List code.Node) → view_body (message_body.Parts ns) ≡ tree.Parts (view_nodes ns)
view-Parts ns =
    ap view_body (sym (message_body.rolls-Parts ns))
    ∙ code_body.fold-roll-MessageBody (Span → tree.Node) tree.Given tree.MessageBody (Name × tree.Given × Span) (Expr
    × tree.Nodes) (List Expr × tree.Nodes) tree.Message tree.Node (ℤ × tree.MessageBody) (List ℕ × tree.MessageBody)
    form_layer given_layer body_layer argument_layer arm_layer case_layer message_layer node_layer plural_case_layer
    select_case_layer (MessageBody-F.Parts ns)

pub view-Plural : (e : code_expr.Expr) (offset : ℕ) (cases : List code_plural_case.PluralCase)
    (other : code_body.MessageBody) → view_body (message_body.Plural e offset cases other)
    ≡ tree.Plural (view_expr e) offset (view_plural_cases cases) (view_body other)
view-Plural e offset cases other =
    ap view_body (sym (message_body.rolls-Plural e offset cases other))
    ∙ code_body.fold-roll-MessageBody (Span → tree.Node) tree.Given tree.MessageBody (Name × tree.Given × Span) (Expr
    × tree.Nodes) (List Expr × tree.Nodes) tree.Message tree.Node (ℤ × tree.MessageBody) (List ℕ × tree.MessageBody)
    form_layer given_layer body_layer argument_layer arm_layer case_layer message_layer node_layer plural_case_layer
    select_case_layer (MessageBody-F.Plural e offset cases other)

pub view-Select : (e : code_expr.Expr) (cases : List code_select_case.SelectCase) (other : code_body.MessageBody)
    → view_body (message_body.Select e cases other)
    ≡ tree.Select (view_expr e) (view_select_cases cases) (view_body other)
view-Select e cases other =
    ap view_body (sym (message_body.rolls-Select e cases other))
    ∙ code_body.fold-roll-MessageBody (Span → tree.Node) tree.Given tree.MessageBody (Name × tree.Given × Span) (Expr
    × tree.Nodes) (List Expr × tree.Nodes) tree.Message tree.Node (ℤ × tree.MessageBody) (List ℕ × tree.MessageBody)
    form_layer given_layer body_layer argument_layer arm_layer case_layer message_layer node_layer plural_case_layer
    select_case_layer (MessageBody-F.Select e cases other)

pub view-plural-case : (n : ℤ) (body : code_body.MessageBody)
    → view_plural_case (record { is = n; body = body }) ≡ (n, view_body body)
view-plural-case n body =
    code_plural_case.fold_out-PluralCase (Span → tree.Node) tree.Given tree.MessageBody (Name × tree.Given × Span)
    (Expr × tree.Nodes) (List Expr × tree.Nodes) tree.Message tree.Node (ℤ × tree.MessageBody) (List ℕ ×
    tree.MessageBody) form_layer given_layer body_layer argument_layer arm_layer case_layer message_layer node_layer
    plural_case_layer select_case_layer (record { is = n; body = body })

pub view-select-case : (word : List ℕ) (body : code_body.MessageBody)
    → view_select_case (record { is = word; body = body }) ≡ (word, view_body body)
view-select-case word body =
    code_select_case.fold_out-SelectCase (Span → tree.Node) tree.Given tree.MessageBody (Name × tree.Given × Span)
    (Expr × tree.Nodes) (List Expr × tree.Nodes) tree.Message tree.Node (ℤ × tree.MessageBody) (List ℕ ×
    tree.MessageBody) form_layer given_layer body_layer argument_layer arm_layer case_layer message_layer node_layer
    plural_case_layer select_case_layer (record { is = word; body = body })
