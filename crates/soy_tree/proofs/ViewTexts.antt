-- What a text node of the code stands for.
use Rattle.std.proofs.Common.{◌≡◌, ℕ, ℤ, List, refl, ap, ◌∙◌}
use Rattle.soy_base.specs.declared.fault.Span.{Span}
use Rattle.soy_tree.specs.declared.node.Node as code
use Rattle.soy_tree.specs.declared.node.Form as code_form
use Rattle.soy_tree.specs.declared.node.Form.{Form}
use Rattle.soy_tree.specs.declared.node.Form.TheVariants as form
use Rattle.soy_tree.specs.Types.{Name}
use Rattle.soy_tree.specs.Expressions.{Expr}
use Rattle.soy_tree.specs.Nodes.{Node, Nodes, Given, Message, MessageBody, TextNode}
use Rattle.soy_tree.specs.ViewNodes.{form_layer, given_layer, body_layer, argument_layer, arm_layer, case_layer}
use Rattle.soy_tree.specs.ViewNodes.{message_layer, node_layer, plural_case_layer, select_case_layer}
use Rattle.soy_tree.specs.ViewNodes.{view_node, view_form, text_node}

view_form-text : (text : List ℕ) (span : Span) → view_form (form.Text text) span ≡ TextNode text span
view_form-text text span =
    ap (λ (f : Span → Node). f span)
    (code_form.fold_out-Form (Span → Node) Given MessageBody (Name × Given × Span) (Expr × Nodes)
    (List Expr × Nodes) Message
    Node (ℤ × MessageBody) (List ℕ × MessageBody) form_layer given_layer body_layer argument_layer arm_layer case_layer
    message_layer node_layer plural_case_layer select_case_layer
    (form.Text text))
    ∙ rw (form.outs-Text text) refl

pub view_text : (text : List ℕ) (span : Span) → view_node (text_node text span) ≡ TextNode text span
view_text text span =
    code.fold_out-Node (Span → Node) Given MessageBody (Name × Given × Span) (Expr × Nodes) (List Expr × Nodes) Message
    Node (ℤ × MessageBody) (List ℕ × MessageBody) form_layer given_layer body_layer argument_layer arm_layer case_layer
    message_layer node_layer plural_case_layer select_case_layer
    (text_node text span)
    ∙ view_form-text text span
