-- What nodes of the code stand for, form by form.
use Rattle.std.proofs.Common.{◌≡◌, ℕ, ℤ, Bool, List, Option, Some, None, sym, ap, ◌∙◌}
use Rattle.soy_base.specs.declared.fault.Span.{Span}
use Rattle.soy_base.specs.declared.kind.Kind.{Kind}
use Rattle.soy_tree.specs.declared.expr.Expr as code_expr
use Rattle.soy_tree.specs.declared.node.Argument as code_argument
use Rattle.soy_tree.specs.declared.node.Arm as code_arm
use Rattle.soy_tree.specs.declared.node.Case as code_case
use Rattle.soy_tree.specs.declared.node.Form as code_form
use Rattle.soy_tree.specs.declared.node.Form.TheOpen.{Form-F, Given-F, MessageBody-F}
use Rattle.soy_tree.specs.declared.node.Form.TheVariants as form
use Rattle.soy_tree.specs.declared.node.Given as code_given
use Rattle.soy_tree.specs.declared.node.Given.TheVariants as given
use Rattle.soy_tree.specs.declared.node.Message as code_message
use Rattle.soy_tree.specs.declared.node.MessageBody as code_body
use Rattle.soy_tree.specs.declared.node.MessageBody.TheVariants as message_body
use Rattle.soy_tree.specs.declared.node.Node as code
use Rattle.soy_tree.specs.declared.node.PluralCase as code_plural_case
use Rattle.soy_tree.specs.declared.node.SelectCase as code_select_case
use Rattle.soy_tree.specs.Expressions.{Expr}
use Rattle.soy_tree.specs.Nodes as tree
use Rattle.soy_tree.specs.Types.{Name}
use Rattle.soy_tree.specs.ViewExpressions.{view_expr}
use Rattle.soy_tree.specs.ViewNodes.{form_layer, given_layer, body_layer, argument_layer, arm_layer, case_layer}
use Rattle.soy_tree.specs.ViewNodes.{message_layer, node_layer, plural_case_layer, select_case_layer}
use Rattle.soy_tree.specs.ViewNodes.{view_form, view_given, view_body, view_argument, view_arm, view_case}
use Rattle.soy_tree.specs.ViewNodes.{view_message, view_node, view_plural_case, view_select_case}
use Rattle.soy_tree.specs.ViewNodes.{view_nodes, view_arms, view_cases, view_arguments}
use Rattle.soy_tree.specs.ViewNodes.{view_otherwise, view_plural_cases, view_select_cases}

abbrev node_of : code_form.Form → Span → code.Node
node_of f s = record { form = f; span = s }

view_by_form : (f : code_form.Form) (s : Span) → view_node (node_of f s) ≡ view_form f s
view_by_form f s =
    code.fold_out-Node (Span → tree.Node) tree.Given tree.MessageBody (Name × tree.Given × Span) (Expr × tree.Nodes)
    (List Expr × tree.Nodes) tree.Message tree.Node (ℤ × tree.MessageBody) (List ℕ × tree.MessageBody) form_layer
    given_layer
    body_layer argument_layer arm_layer case_layer message_layer node_layer plural_case_layer select_case_layer
    (node_of f s)

view_text : (t : List ℕ) (s : Span) → view_node (node_of (form.Text t) s) ≡ tree.TextNode t s
unfolding code_form.out-Form denote.Hole.Carrier.out
view_text t s =
    let h = code_form.fold_out-Form (Span → tree.Node) tree.Given tree.MessageBody (Name × tree.Given × Span)
    (Expr × tree.Nodes) (List Expr × tree.Nodes) tree.Message tree.Node (ℤ × tree.MessageBody)
    (List ℕ × tree.MessageBody) form_layer given_layer body_layer argument_layer arm_layer case_layer message_layer
    node_layer plural_case_layer select_case_layer (form.Text t) in
    view_by_form (form.Text t) s ∙ ap (λ (g : Span → tree.Node). g s) h

view_print : (e : code_expr.Expr) (phname : Option (List ℕ)) (s : Span) →
    view_node (node_of (form.Print e phname) s) ≡ tree.Print (view_expr e) phname s
unfolding code_form.out-Form denote.Hole.Carrier.out
view_print e phname s =
    let h = code_form.fold_out-Form (Span → tree.Node) tree.Given tree.MessageBody (Name × tree.Given × Span)
    (Expr × tree.Nodes) (List Expr × tree.Nodes) tree.Message tree.Node (ℤ × tree.MessageBody)
    (List ℕ × tree.MessageBody) form_layer given_layer body_layer argument_layer arm_layer case_layer message_layer
    node_layer plural_case_layer select_case_layer (form.Print e phname) in
    view_by_form (form.Print e phname) s ∙ ap (λ (g : Span → tree.Node). g s) h

-- a node by the layer that its form is made of
view_rolled : (f : code_form.Form) (o : Form-F code_form.Form code_given.Given code_body.MessageBody
    code_argument.Argument code_arm.Arm code_case.Case code_message.Message code.Node code_plural_case.PluralCase
    code_select_case.SelectCase)
    → code_form.roll-Form o ≡ f → (s : Span) → view_node (node_of f s)
    ≡ form_layer (code_form.map-Form code_form.Form code_given.Given code_body.MessageBody code_argument.Argument
    code_arm.Arm code_case.Case code_message.Message code.Node code_plural_case.PluralCase
    code_select_case.SelectCase
    (Span → tree.Node) tree.Given tree.MessageBody (Name × tree.Given × Span) (Expr × tree.Nodes) (List Expr ×
    tree.Nodes) tree.Message tree.Node (ℤ × tree.MessageBody)
    (List ℕ × tree.MessageBody) view_form view_given view_body view_argument view_arm view_case view_message
    view_node view_plural_case
    view_select_case o) s
view_rolled f o e s =
    view_by_form f s ∙ (ap (λ g. view_form g s) (sym e) ∙ ap (λ (g : Span → tree.Node). g s)
    (code_form.fold-roll-Form (Span → tree.Node) tree.Given tree.MessageBody (Name × tree.Given × Span) (Expr ×
    tree.Nodes) (List Expr × tree.Nodes) tree.Message tree.Node (ℤ × tree.MessageBody) (List ℕ × tree.MessageBody)
    form_layer given_layer body_layer argument_layer arm_layer case_layer message_layer node_layer plural_case_layer
    select_case_layer o))

view_If : (arms : List code_arm.Arm) (s : Span)
    → view_node (node_of (form.If arms None) s) ≡ tree.If (view_arms arms) tree.no_otherwise s
view_If arms s =
    view_rolled (form.If arms None) (Form-F.If arms None) (form.rolls-If arms None) s

view_IfElse : (arms : List code_arm.Arm) (body : List code.Node) (s : Span)
    → view_node (node_of (form.If arms (Some body)) s) ≡ tree.If (view_arms arms) (tree.otherwise (view_nodes body)) s
view_IfElse arms body s =
    view_rolled (form.If arms (Some body)) (Form-F.If arms (Some body)) (form.rolls-If arms (Some body)) s

view_Switch : (e : code_expr.Expr) (cases : List code_case.Case) (s : Span)
    → view_node (node_of (form.Switch e cases None) s)
    ≡ tree.Switch (view_expr e) (view_cases cases) tree.no_otherwise s
view_Switch e cases s =
    view_rolled (form.Switch e cases None) (Form-F.Switch e cases None) (form.rolls-Switch e cases None) s

view_SwitchDefault : (e : code_expr.Expr) (cases : List code_case.Case) (body : List code.Node) (s : Span)
    → view_node (node_of (form.Switch e cases (Some body)) s)
    ≡ tree.Switch (view_expr e) (view_cases cases) (tree.otherwise (view_nodes body)) s
view_SwitchDefault e cases body s =
    view_rolled (form.Switch e cases (Some body)) (Form-F.Switch e cases (Some body))
    (form.rolls-Switch e cases (Some body)) s

view_For : (x : List ℕ) (index : Option (List ℕ)) (e : code_expr.Expr) (body : List code.Node) (s : Span)
    → view_node (node_of (form.For x index e body) s) ≡ tree.For x index (view_expr e) (view_nodes body) s
view_For x index e body s =
    view_rolled (form.For x index e body) (Form-F.For x index e body) (form.rolls-For x index e body) s

view_Let : (x : List ℕ) (e : code_expr.Expr) (s : Span)
    → view_node (node_of (form.Let x e) s) ≡ tree.Let x (view_expr e) s
view_Let x e s =
    view_rolled (form.Let x e) (Form-F.Let x e) (form.rolls-Let x e) s

view_LetBlock : (x : List ℕ) (kind : Kind) (body : List code.Node) (s : Span)
    → view_node (node_of (form.LetBlock x kind body) s) ≡ tree.LetBlock x kind (view_nodes body) s
view_LetBlock x kind body s =
    view_rolled (form.LetBlock x kind body) (Form-F.LetBlock x kind body) (form.rolls-LetBlock x kind body) s

view_Call : (name : List ℕ) (all : Bool) (arguments : List code_argument.Argument) (s : Span)
    → view_node (node_of (form.Call name all arguments) s) ≡ tree.Call name all (view_arguments arguments) s
view_Call name all arguments s =
    view_rolled (form.Call name all arguments) (Form-F.Call name all arguments) (form.rolls-Call name all arguments) s

view_Message : (m : code_message.Message) (s : Span)
    → view_node (node_of (form.Message m None) s) ≡ tree.MessageNode (view_message m) tree.no_fallback s
view_Message m s =
    view_rolled (form.Message m None) (Form-F.Message m None) (form.rolls-Message m None) s

view_MessageFallback : (m other : code_message.Message) (s : Span)
    → view_node (node_of (form.Message m (Some other)) s)
    ≡ tree.MessageNode (view_message m) (tree.fallback (view_message other)) s
view_MessageFallback m other s =
    view_rolled (form.Message m (Some other)) (Form-F.Message m (Some other)) (form.rolls-Message m (Some other)) s

-- ---- params and the contents of messages

pub view_Plain : (e : code_expr.Expr) → view_given (given.Plain e) ≡ tree.Plain (view_expr e)
view_Plain e =
    ap view_given (sym (given.rolls-Plain e))
    ∙ code_given.fold-roll-Given (Span → tree.Node) tree.Given tree.MessageBody (Name × tree.Given × Span) (Expr ×
    tree.Nodes) (List Expr × tree.Nodes) tree.Message tree.Node (ℤ × tree.MessageBody) (List ℕ × tree.MessageBody)
    form_layer given_layer body_layer argument_layer arm_layer case_layer message_layer node_layer plural_case_layer
    select_case_layer (Given-F.Plain e)

pub view_Block : (kind : Kind) (body : List code.Node) → view_given (given.Block kind body)
    ≡ tree.Block kind (view_nodes body)
view_Block kind body =
    ap view_given (sym (given.rolls-Block kind body))
    ∙ code_given.fold-roll-Given (Span → tree.Node) tree.Given tree.MessageBody (Name × tree.Given × Span) (Expr ×
    tree.Nodes) (List Expr × tree.Nodes) tree.Message tree.Node (ℤ × tree.MessageBody) (List ℕ × tree.MessageBody)
    form_layer given_layer body_layer argument_layer arm_layer case_layer message_layer node_layer plural_case_layer
    select_case_layer (Given-F.Block kind body)

pub view_Parts : (ns : List code.Node) → view_body (message_body.Parts ns) ≡ tree.Parts (view_nodes ns)
view_Parts ns =
    ap view_body (sym (message_body.rolls-Parts ns))
    ∙ code_body.fold-roll-MessageBody (Span → tree.Node) tree.Given tree.MessageBody (Name × tree.Given × Span) (Expr
    × tree.Nodes) (List Expr × tree.Nodes) tree.Message tree.Node (ℤ × tree.MessageBody) (List ℕ × tree.MessageBody)
    form_layer given_layer body_layer argument_layer arm_layer case_layer message_layer node_layer plural_case_layer
    select_case_layer (MessageBody-F.Parts ns)

pub view_Plural : (e : code_expr.Expr) (offset : ℕ) (cases : List code_plural_case.PluralCase)
    (other : code_body.MessageBody) → view_body (message_body.Plural e offset cases other)
    ≡ tree.Plural (view_expr e) offset (view_plural_cases cases) (view_body other)
view_Plural e offset cases other =
    ap view_body (sym (message_body.rolls-Plural e offset cases other))
    ∙ code_body.fold-roll-MessageBody (Span → tree.Node) tree.Given tree.MessageBody (Name × tree.Given × Span) (Expr
    × tree.Nodes) (List Expr × tree.Nodes) tree.Message tree.Node (ℤ × tree.MessageBody) (List ℕ × tree.MessageBody)
    form_layer given_layer body_layer argument_layer arm_layer case_layer message_layer node_layer plural_case_layer
    select_case_layer (MessageBody-F.Plural e offset cases other)

pub view_Select : (e : code_expr.Expr) (cases : List code_select_case.SelectCase) (other : code_body.MessageBody)
    → view_body (message_body.Select e cases other)
    ≡ tree.Select (view_expr e) (view_select_cases cases) (view_body other)
view_Select e cases other =
    ap view_body (sym (message_body.rolls-Select e cases other))
    ∙ code_body.fold-roll-MessageBody (Span → tree.Node) tree.Given tree.MessageBody (Name × tree.Given × Span) (Expr
    × tree.Nodes) (List Expr × tree.Nodes) tree.Message tree.Node (ℤ × tree.MessageBody) (List ℕ × tree.MessageBody)
    form_layer given_layer body_layer argument_layer arm_layer case_layer message_layer node_layer plural_case_layer
    select_case_layer (MessageBody-F.Select e cases other)

-- ---- a node of a form

as_form : (n : code.Node) (f : code_form.Form) → n.form ≡ f → view_node n ≡ view_node (node_of f n.span)
as_form n f e = ap (λ (g : code_form.Form). view_node (node_of g n.span)) e

pub is_text : (n : code.Node) (t : List ℕ) → n.form ≡ form.Text t → view_node n ≡ tree.TextNode t n.span
is_text n t e = as_form n _ e ∙ view_text t n.span

pub is_print : (n : code.Node) (e : code_expr.Expr) (phname : Option (List ℕ)) → n.form ≡ form.Print e phname
    → view_node n ≡ tree.Print (view_expr e) phname n.span
is_print n e phname is = as_form n _ is ∙ view_print e phname n.span

pub is_if : (n : code.Node) (arms : List code_arm.Arm) → n.form ≡ form.If arms None
    → view_node n ≡ tree.If (view_arms arms) tree.no_otherwise n.span
is_if n arms e = as_form n _ e ∙ view_If arms n.span

pub is_if_else : (n : code.Node) (arms : List code_arm.Arm) (body : List code.Node) → n.form ≡ form.If arms (Some body)
    → view_node n ≡ tree.If (view_arms arms) (tree.otherwise (view_nodes body)) n.span
is_if_else n arms body e = as_form n _ e ∙ view_IfElse arms body n.span

pub is_switch : (n : code.Node) (e : code_expr.Expr) (cases : List code_case.Case) → n.form ≡ form.Switch e cases None
    → view_node n ≡ tree.Switch (view_expr e) (view_cases cases) tree.no_otherwise n.span
is_switch n e cases is = as_form n _ is ∙ view_Switch e cases n.span

pub is_switch_default : (n : code.Node) (e : code_expr.Expr) (cases : List code_case.Case) (body : List code.Node)
    → n.form ≡ form.Switch e cases (Some body)
    → view_node n ≡ tree.Switch (view_expr e) (view_cases cases) (tree.otherwise (view_nodes body)) n.span
is_switch_default n e cases body is = as_form n _ is ∙ view_SwitchDefault e cases body n.span

pub is_for : (n : code.Node) (x : List ℕ) (index : Option (List ℕ)) (e : code_expr.Expr) (body : List code.Node)
    → n.form ≡ form.For x index e body → view_node n ≡ tree.For x index (view_expr e) (view_nodes body) n.span
is_for n x index e body is = as_form n _ is ∙ view_For x index e body n.span

pub is_let : (n : code.Node) (x : List ℕ) (e : code_expr.Expr) → n.form ≡ form.Let x e
    → view_node n ≡ tree.Let x (view_expr e) n.span
is_let n x e is = as_form n _ is ∙ view_Let x e n.span

pub is_let_block : (n : code.Node) (x : List ℕ) (kind : Kind) (body : List code.Node)
    → n.form ≡ form.LetBlock x kind body → view_node n ≡ tree.LetBlock x kind (view_nodes body) n.span
is_let_block n x kind body is = as_form n _ is ∙ view_LetBlock x kind body n.span

pub is_call : (n : code.Node) (name : List ℕ) (all : Bool) (arguments : List code_argument.Argument)
    → n.form ≡ form.Call name all arguments → view_node n ≡ tree.Call name all (view_arguments arguments) n.span
is_call n name all arguments is = as_form n _ is ∙ view_Call name all arguments n.span

pub is_message : (n : code.Node) (m : code_message.Message) → n.form ≡ form.Message m None
    → view_node n ≡ tree.MessageNode (view_message m) tree.no_fallback n.span
is_message n m is = as_form n _ is ∙ view_Message m n.span

pub is_message_fallback : (n : code.Node) (m other : code_message.Message) → n.form ≡ form.Message m (Some other)
    → view_node n ≡ tree.MessageNode (view_message m) (tree.fallback (view_message other)) n.span
is_message_fallback n m other is = as_form n _ is ∙ view_MessageFallback m other n.span

-- ---- where the last part of a command may be missing

pub is_if_any : (n : code.Node) (arms : List code_arm.Arm) (o : Option (List code.Node)) → n.form ≡ form.If arms o
    → view_node n ≡ tree.If (view_arms arms) (view_otherwise o) n.span
is_if_any n arms None e = is_if n arms e
is_if_any n arms (Some body) e = is_if_else n arms body e

pub is_switch_any : (n : code.Node) (e : code_expr.Expr) (cases : List code_case.Case) (o : Option (List code.Node))
    → n.form ≡ form.Switch e cases o
    → view_node n ≡ tree.Switch (view_expr e) (view_cases cases) (view_otherwise o) n.span
is_switch_any n e cases None is = is_switch n e cases is
is_switch_any n e cases (Some body) is = is_switch_default n e cases body is

abbrev pub fallback_seen : Option code_message.Message → tree.Fallback
fallback_seen None = tree.no_fallback
fallback_seen (Some other) = tree.fallback (view_message other)

pub is_message_any : (n : code.Node) (m : code_message.Message) (o : Option code_message.Message)
    → n.form ≡ form.Message m o → view_node n ≡ tree.MessageNode (view_message m) (fallback_seen o) n.span
is_message_any n m None is = is_message n m is
is_message_any n m (Some other) is = is_message_fallback n m other is
