-- What nodes of the code stand for by their form, and so texts and prints.
use Rattle.std.proofs.Common.{◌≡◌, ℕ, ℤ, List, Option, ◌∙◌, ap}
use Rattle.soy_base.specs.declared.fault.Span.{Span}
use Rattle.soy_tree.specs.Expressions.{Expr}
use Rattle.soy_tree.specs.Nodes as tree
use Rattle.soy_tree.specs.Types.{Name}
use Rattle.soy_tree.specs.ViewExpressions.{view_expr}
use Rattle.soy_tree.specs.ViewNodes.{view_node, view_form, form_layer, given_layer, body_layer, argument_layer}
use Rattle.soy_tree.specs.ViewNodes.{arm_layer, case_layer, message_layer, node_layer, plural_case_layer}
use Rattle.soy_tree.specs.ViewNodes.{select_case_layer}
use Rattle.soy_tree.specs.declared.expr.Expr as code_expr
use Rattle.soy_tree.specs.declared.node.Form as code_form
use Rattle.soy_tree.specs.declared.node.Form.{Form}
use Rattle.soy_tree.specs.declared.node.Form.TheVariants as form
use Rattle.soy_tree.specs.declared.node.Node as code
use Rattle.soy_parser.specs.Nodes.{node_of}

pub view_by_form : (f : Form) (s : Span) → view_node (node_of f s) ≡ view_form f s
view_by_form f s =
    code.fold_out-Node (Span → tree.Node) tree.Given tree.MessageBody (Name × tree.Given × Span) (Expr × tree.Nodes)
    (List Expr × tree.Nodes) tree.Message tree.Node (ℤ × tree.MessageBody) (List ℕ × tree.MessageBody) form_layer
    given_layer
    body_layer argument_layer arm_layer case_layer message_layer node_layer plural_case_layer select_case_layer
    (node_of f s)

pub view_text : (t : List ℕ) (s : Span) → view_node (node_of (form.Text t) s) ≡ tree.TextNode t s
unfolding code_form.out-Form denote.Hole.Carrier.out
view_text t s =
    let h = code_form.fold_out-Form (Span → tree.Node) tree.Given tree.MessageBody (Name × tree.Given × Span)
    (Expr × tree.Nodes) (List Expr × tree.Nodes) tree.Message tree.Node (ℤ × tree.MessageBody)
    (List ℕ × tree.MessageBody) form_layer given_layer body_layer argument_layer arm_layer case_layer message_layer
    node_layer plural_case_layer select_case_layer (form.Text t) in
    view_by_form (form.Text t) s ∙ ap (λ (g : Span → tree.Node). g s) h

pub view_print : (e : code_expr.Expr) (phname : Option (List ℕ)) (s : Span) →
    view_node (node_of (form.Print e phname) s) ≡ tree.Print (view_expr e) phname s
unfolding code_form.out-Form denote.Hole.Carrier.out
view_print e phname s =
    let h = code_form.fold_out-Form (Span → tree.Node) tree.Given tree.MessageBody (Name × tree.Given × Span)
    (Expr × tree.Nodes) (List Expr × tree.Nodes) tree.Message tree.Node (ℤ × tree.MessageBody)
    (List ℕ × tree.MessageBody) form_layer given_layer body_layer argument_layer arm_layer case_layer message_layer
    node_layer plural_case_layer select_case_layer (form.Print e phname) in
    view_by_form (form.Print e phname) s ∙ ap (λ (g : Span → tree.Node). g s) h
