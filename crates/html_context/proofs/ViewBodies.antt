-- What arms, cases and params stand for.
use Rattle.std.proofs.Common.{◌≡◌, ℕ, ℤ, List}
use Rattle.soy_base.specs.declared.fault.Span.{Span}
use Rattle.soy_tree.specs.Types.{Name}
use Rattle.soy_tree.specs.Expressions.{Expr}
use Rattle.soy_tree.specs.Nodes.{Node, Nodes, Given, Message, MessageBody}
use Rattle.soy_tree.specs.ViewExpressions.{view_expr, view_exprs}
use Rattle.soy_tree.specs.ViewNodes.{argument_layer, arm_layer, body_layer, case_layer, form_layer, given_layer}
use Rattle.soy_tree.specs.ViewNodes.{message_layer}
use Rattle.soy_tree.specs.ViewNodes.{node_layer, plural_case_layer, select_case_layer}
use Rattle.soy_tree.specs.ViewNodes.{view_argument, view_arm, view_body, view_case, view_given, view_nodes}
use Rattle.soy_tree.specs.ViewNodes.{view_plural_case}
use Rattle.soy_tree.specs.ViewNodes.{view_select_case}
use Rattle.soy_tree.specs.declared.node.Argument as code_argument
use Rattle.soy_tree.specs.declared.node.Arm as code_arm
use Rattle.soy_tree.specs.declared.node.Case as code_case
use Rattle.soy_tree.specs.declared.node.PluralCase as code_plural_case
use Rattle.soy_tree.specs.declared.node.SelectCase as code_select_case

pub arm_is : (a : code_arm.Arm) → view_arm a ≡ (
  view_expr (code_arm.out-Arm a).when,
  view_nodes
      (code_arm.out-Arm a).body,
)
arm_is a =
    code_arm.fold_out-Arm (Span → Node) Given MessageBody (Name × Given × Span) (Expr × Nodes) (List Expr × Nodes)
    Message
    Node (ℤ × MessageBody) (List ℕ × MessageBody) form_layer given_layer body_layer argument_layer arm_layer case_layer
    message_layer node_layer plural_case_layer select_case_layer a

pub case_is : (a : code_case.Case) → view_case a ≡ (
  view_exprs (code_case.out-Case a).values,
  view_nodes
      (code_case.out-Case a).body,
)
case_is a =
    code_case.fold_out-Case (Span → Node) Given MessageBody (Name × Given × Span) (Expr × Nodes) (List Expr × Nodes)
    Message Node (ℤ × MessageBody) (List ℕ × MessageBody) form_layer given_layer body_layer argument_layer arm_layer
    case_layer message_layer node_layer plural_case_layer select_case_layer a

pub argument_is : (a : code_argument.Argument) → view_argument a ≡ (a.name, view_given a.given, a.span)
argument_is a =
    code_argument.fold_out-Argument (Span → Node) Given MessageBody (Name × Given × Span) (Expr × Nodes)
    (List Expr × Nodes) Message Node (ℤ × MessageBody) (List ℕ × MessageBody) form_layer given_layer body_layer
    argument_layer arm_layer case_layer message_layer node_layer plural_case_layer select_case_layer a

pub plural_case_is : (a : code_plural_case.PluralCase) → view_plural_case a ≡ (a.is, view_body a.body)
plural_case_is a =
    code_plural_case.fold_out-PluralCase (Span → Node) Given MessageBody (Name × Given × Span) (Expr × Nodes)
    (List Expr × Nodes) Message Node (ℤ × MessageBody) (List ℕ × MessageBody) form_layer given_layer body_layer
    argument_layer arm_layer case_layer message_layer node_layer plural_case_layer select_case_layer a

pub select_case_is : (a : code_select_case.SelectCase) → view_select_case a ≡ (a.is, view_body a.body)
select_case_is a =
    code_select_case.fold_out-SelectCase (Span → Node) Given MessageBody (Name × Given × Span) (Expr × Nodes)
    (List Expr × Nodes) Message Node (ℤ × MessageBody) (List ℕ × MessageBody) form_layer given_layer body_layer
    argument_layer arm_layer case_layer message_layer node_layer plural_case_layer select_case_layer a
