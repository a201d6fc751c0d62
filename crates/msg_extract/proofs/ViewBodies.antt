-- What messages of the code and their bodies stand for, form by form.
use Rattle.std.proofs.Common.{◌≡◌, ℕ, ℤ, List, sym, ap, ◌∙◌}
use Rattle.soy_base.specs.declared.fault.Span.{Span}
use Rattle.soy_tree.specs.declared.expr.Expr as code_expr
use Rattle.soy_tree.specs.declared.node.Message as code_message
use Rattle.soy_tree.specs.declared.node.MessageBody as code_body
use Rattle.soy_tree.specs.declared.node.MessageBody.TheVariants as form
use Rattle.soy_tree.specs.declared.node.PluralCase as code_plural_case
use Rattle.soy_tree.specs.declared.node.SelectCase as code_select_case
use Rattle.soy_tree.specs.declared.node.Form.TheOpen.{MessageBody-F}
use Rattle.soy_tree.specs.Types.{Name}
use Rattle.soy_tree.specs.Expressions.{Expr}
use Rattle.soy_tree.specs.Nodes.{Node, Nodes, Given, Message, MessageBody, Plural, Select, message}
use Rattle.soy_tree.specs.ViewExpressions.{view_expr}
use Rattle.soy_tree.specs.ViewNodes.{view_body, view_message, view_plural_cases, view_select_cases, form_layer}
use Rattle.soy_tree.specs.ViewNodes.{given_layer, body_layer, argument_layer, arm_layer, case_layer, message_layer}
use Rattle.soy_tree.specs.ViewNodes.{node_layer, plural_case_layer, select_case_layer}

pub view_message_is : (m : code_message.Message)
    → view_message m ≡ message m.desc m.meaning (view_body m.body) m.span
view_message_is m =
    code_message.fold_out-Message (Span → Node) Given MessageBody (Name × Given × Span) (Expr × Nodes)
    (List Expr × Nodes) Message Node (ℤ × MessageBody) (List ℕ × MessageBody) form_layer given_layer body_layer
    argument_layer arm_layer case_layer message_layer node_layer plural_case_layer select_case_layer m

pub view_plural_is : (e : code_expr.Expr) (offset : ℕ) (cases : List code_plural_case.PluralCase)
    (other : code_body.MessageBody)
    → view_body (code_body.Plural e offset cases other)
    ≡ Plural (view_expr e) offset (view_plural_cases cases) (view_body other)
view_plural_is e offset cases other =
    ap view_body (sym (form.rolls-Plural e offset cases other))
    ∙ code_body.fold-roll-MessageBody (Span → Node) Given MessageBody (Name × Given × Span) (Expr × Nodes)
    (List Expr × Nodes) Message Node (ℤ × MessageBody) (List ℕ × MessageBody) form_layer given_layer body_layer
    argument_layer arm_layer case_layer message_layer node_layer plural_case_layer select_case_layer
    (MessageBody-F.Plural e offset cases other)

pub view_select_is : (e : code_expr.Expr) (cases : List code_select_case.SelectCase) (other : code_body.MessageBody)
    → view_body (code_body.Select e cases other)
    ≡ Select (view_expr e) (view_select_cases cases) (view_body other)
view_select_is e cases other =
    ap view_body (sym (form.rolls-Select e cases other))
    ∙ code_body.fold-roll-MessageBody (Span → Node) Given MessageBody (Name × Given × Span) (Expr × Nodes)
    (List Expr × Nodes) Message Node (ℤ × MessageBody) (List ℕ × MessageBody) form_layer given_layer body_layer
    argument_layer arm_layer case_layer message_layer node_layer plural_case_layer select_case_layer
    (MessageBody-F.Select e cases other)
