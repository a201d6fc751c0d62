-- What nodes, arms and cases of the code stand for, part by part.
use Rattle.std.proofs.Common.{◌≡◌, ℕ, ℤ, ◌+◌, ◌<◌, List, drop, length, map, slice_index_or, ap, ◌∙◌}
use Rattle.soy_base.specs.declared.fault.Span.{Span}
use Rattle.soy_tree.specs.declared.bundle.ExactArm as code_exact
use Rattle.soy_tree.specs.declared.bundle.MsgPart as code_part
use Rattle.soy_tree.specs.declared.bundle.NamedArm as code_named
use Rattle.soy_tree.specs.declared.bundle.SelectArm as code_word
use Rattle.soy_tree.specs.declared.node.Argument as code_argument
use Rattle.soy_tree.specs.declared.node.Arm as code_arm
use Rattle.soy_tree.specs.declared.node.Case as code_case
use Rattle.soy_tree.specs.declared.node.Node as code
use Rattle.soy_tree.specs.declared.node.PluralCase as code_plural_case
use Rattle.soy_tree.specs.declared.node.SelectCase as code_select_case
use Rattle.soy_tree.specs.Types.{Name}
use Rattle.soy_tree.specs.Expressions.{Expr}
use Rattle.soy_tree.specs.MessageParts.{MsgPart, MsgParts, exact_arm, named_arm, part}
use Rattle.soy_tree.specs.MessageParts.{select_arm}
use Rattle.plural_rules.specs.declared.category.Category.{Category}
use Rattle.soy_tree.specs.Nodes.{Given, Message, MessageBody, Node, Nodes}
use Rattle.soy_tree.specs.Nodes.{argument, arm, case, node, plural_case, select_case}
use Rattle.soy_tree.specs.ViewExpressions.{view_expr, view_exprs}
use Rattle.soy_tree.specs.ViewMessageParts.{exact_arms_of, exact_layer, named_arms_of, named_layer, part_layer}
use Rattle.soy_tree.specs.ViewMessageParts.{plural_layer, select_arm_layer, select_arms_of, select_layer}
use Rattle.soy_tree.specs.ViewMessageParts.{view_exact, view_named, view_part, view_parts, view_select_arm}
use Rattle.soy_tree.specs.ViewNodes.{argument_layer, arm_layer, body_layer, case_layer, form_layer, given_layer}
use Rattle.soy_tree.specs.ViewNodes.{message_layer, node_layer, plural_case_layer, select_case_layer, view_argument}
use Rattle.soy_tree.specs.ViewNodes.{view_arguments, view_arm, view_arms, view_body, view_case, view_cases, view_given}
use Rattle.soy_tree.specs.ViewNodes.{view_node, view_nodes, view_plural_case, view_plural_cases, view_select_case}
use Rattle.soy_tree.specs.ViewNodes.{view_select_cases}
use Rattle.ir_build.proofs.OpLists.{drop_next}

view_arm_is : (a : code_arm.Arm)
    → view_arm a ≡ (view_expr (code_arm.out-Arm a).when, view_nodes (code_arm.out-Arm a).body)
view_arm_is a =
    code_arm.fold_out-Arm (Span → Node) Given MessageBody (Name × Given × Span) (Expr × Nodes) (List Expr × Nodes)
    Message Node (ℤ × MessageBody) (List ℕ × MessageBody) form_layer given_layer body_layer argument_layer arm_layer
    case_layer message_layer node_layer plural_case_layer select_case_layer a

view_case_is : (c : code_case.Case)
    → view_case c ≡ (view_exprs (code_case.out-Case c).values, view_nodes (code_case.out-Case c).body)
view_case_is c =
    code_case.fold_out-Case (Span → Node) Given MessageBody (Name × Given × Span) (Expr × Nodes) (List Expr × Nodes)
    Message Node (ℤ × MessageBody) (List ℕ × MessageBody) form_layer given_layer body_layer argument_layer arm_layer
    case_layer message_layer node_layer plural_case_layer select_case_layer c

pub view_argument_is : (a : code_argument.Argument) → view_argument a ≡ (a.name, view_given a.given, a.span)
view_argument_is a =
    code_argument.fold_out-Argument (Span → Node) Given MessageBody (Name × Given × Span) (Expr × Nodes)
    (List Expr × Nodes) Message Node (ℤ × MessageBody) (List ℕ × MessageBody) form_layer given_layer body_layer
    argument_layer arm_layer case_layer message_layer node_layer plural_case_layer select_case_layer a

view_plural_case_is : (c : code_plural_case.PluralCase) → view_plural_case c ≡ (c.is, view_body c.body)
view_plural_case_is c =
    code_plural_case.fold_out-PluralCase (Span → Node) Given MessageBody (Name × Given × Span) (Expr × Nodes)
    (List Expr × Nodes) Message Node (ℤ × MessageBody) (List ℕ × MessageBody) form_layer given_layer body_layer
    argument_layer arm_layer case_layer message_layer node_layer plural_case_layer select_case_layer c

view_select_case_is : (c : code_select_case.SelectCase) → view_select_case c ≡ (c.is, view_body c.body)
view_select_case_is c =
    code_select_case.fold_out-SelectCase (Span → Node) Given MessageBody (Name × Given × Span) (Expr × Nodes)
    (List Expr × Nodes) Message Node (ℤ × MessageBody) (List ℕ × MessageBody) form_layer given_layer body_layer
    argument_layer arm_layer case_layer message_layer node_layer plural_case_layer select_case_layer c

view_exact_is : (a : code_exact.ExactArm) → view_exact a ≡ (a.is, view_parts a.parts)
view_exact_is a =
    code_exact.fold_out-ExactArm MsgPart (ℤ × MsgParts) (Category × MsgParts) MsgPart (List ℕ × MsgParts) MsgPart
    part_layer exact_layer named_layer plural_layer select_arm_layer select_layer a

view_named_is : (a : code_named.NamedArm) → view_named a ≡ (a.category, view_parts a.parts)
view_named_is a =
    code_named.fold_out-NamedArm MsgPart (ℤ × MsgParts) (Category × MsgParts) MsgPart (List ℕ × MsgParts) MsgPart
    part_layer exact_layer named_layer plural_layer select_arm_layer select_layer a

view_word_is : (a : code_word.SelectArm) → view_select_arm a ≡ (a.is, view_parts a.parts)
view_word_is a =
    code_word.fold_out-SelectArm MsgPart (ℤ × MsgParts) (Category × MsgParts) MsgPart (List ℕ × MsgParts) MsgPart
    part_layer exact_layer named_layer plural_layer select_arm_layer select_layer a

-- ---- an item of a list, and those behind it

pub node_next : (ns : List code.Node) (i : ℕ) (n : code.Node) → i < length ns → n ≡ slice_index_or ns i n
    → view_nodes (drop i ns) ≡ node (view_node n) (view_nodes (drop (i + 1) ns))
node_next ns i n below is = ap view_nodes (drop_next ns i n below is)

pub arm_next : (xs : List code_arm.Arm) (i : ℕ) (x : code_arm.Arm) → i < length xs → x ≡ slice_index_or xs i x
    → view_arms (drop i xs) ≡ arm (view_expr (code_arm.out-Arm x).when) (view_nodes (code_arm.out-Arm x).body)
    (view_arms (drop (i + 1) xs))
arm_next xs i x below is =
    ap view_arms (drop_next xs i x below is)
    ∙ ap (λ (v : Expr × Nodes). arm v.0 v.1 (view_arms (drop (i + 1) xs))) (view_arm_is x)

pub case_next : (xs : List code_case.Case) (i : ℕ) (x : code_case.Case) → i < length xs → x ≡ slice_index_or xs i x
    → view_cases (drop i xs) ≡ case (view_exprs (code_case.out-Case x).values) (view_nodes (code_case.out-Case x).body)
    (view_cases (drop (i + 1) xs))
case_next xs i x below is =
    ap view_cases (drop_next xs i x below is)
    ∙ ap (λ (v : List Expr × Nodes). case v.0 v.1 (view_cases (drop (i + 1) xs))) (view_case_is x)

pub argument_next : (xs : List code_argument.Argument) (i : ℕ) (x : code_argument.Argument) → i < length xs
    → x ≡ slice_index_or xs i x
    → view_arguments (drop i xs) ≡ argument (view_argument x).0 (view_argument x).1 (view_argument x).2
    (view_arguments (drop (i + 1) xs))
argument_next xs i x below is = ap view_arguments (drop_next xs i x below is)

pub plural_case_next : (xs : List code_plural_case.PluralCase) (i : ℕ) (x : code_plural_case.PluralCase)
    → i < length xs → x ≡ slice_index_or xs i x
    → view_plural_cases (drop i xs) ≡ plural_case x.is (view_body x.body) (view_plural_cases (drop (i + 1) xs))
plural_case_next xs i x below is =
    ap view_plural_cases (drop_next xs i x below is)
    ∙ ap (λ (v : ℤ × MessageBody). plural_case v.0 v.1 (view_plural_cases (drop (i + 1) xs))) (view_plural_case_is x)

pub select_case_next : (xs : List code_select_case.SelectCase) (i : ℕ) (x : code_select_case.SelectCase)
    → i < length xs → x ≡ slice_index_or xs i x
    → view_select_cases (drop i xs) ≡ select_case x.is (view_body x.body) (view_select_cases (drop (i + 1) xs))
select_case_next xs i x below is =
    ap view_select_cases (drop_next xs i x below is)
    ∙ ap (λ (v : List ℕ × MessageBody). select_case v.0 v.1 (view_select_cases (drop (i + 1) xs))) (view_select_case_is
    x)

pub part_next : (xs : List code_part.MsgPart) (i : ℕ) (x : code_part.MsgPart) → i < length xs
    → x ≡ slice_index_or xs i x → view_parts (drop i xs) ≡ part (view_part x) (view_parts (drop (i + 1) xs))
part_next xs i x below is = ap view_parts (drop_next xs i x below is)

pub exact_next : (xs : List code_exact.ExactArm) (i : ℕ) (x : code_exact.ExactArm) → i < length xs
    → x ≡ slice_index_or xs i x
    → exact_arms_of (map view_exact (drop i xs))
    ≡ exact_arm x.is (view_parts x.parts) (exact_arms_of (map view_exact (drop (i + 1) xs)))
exact_next xs i x below is =
    ap (λ (ys : List code_exact.ExactArm). exact_arms_of (map view_exact ys)) (drop_next xs i x below is)
    ∙ ap (λ (v : ℤ × MsgParts). exact_arm v.0 v.1 (exact_arms_of (map view_exact (drop (i + 1) xs)))) (view_exact_is x)

pub named_next : (xs : List code_named.NamedArm) (i : ℕ) (x : code_named.NamedArm) → i < length xs
    → x ≡ slice_index_or xs i x
    → named_arms_of (map view_named (drop i xs))
    ≡ named_arm x.category (view_parts x.parts) (named_arms_of (map view_named (drop (i + 1) xs)))
named_next xs i x below is =
    ap (λ (ys : List code_named.NamedArm). named_arms_of (map view_named ys)) (drop_next xs i x below is)
    ∙ ap (λ (v : Category × MsgParts). named_arm v.0 v.1 (named_arms_of (map view_named (drop (i + 1) xs))))
    (view_named_is x)

pub word_next : (xs : List code_word.SelectArm) (i : ℕ) (x : code_word.SelectArm) → i < length xs
    → x ≡ slice_index_or xs i x
    → select_arms_of (map view_select_arm (drop i xs))
    ≡ select_arm x.is (view_parts x.parts) (select_arms_of (map view_select_arm (drop (i + 1) xs)))
word_next xs i x below is =
    ap (λ (ys : List code_word.SelectArm). select_arms_of (map view_select_arm ys)) (drop_next xs i x below is)
    ∙ ap (λ (v : List ℕ × MsgParts). select_arm v.0 v.1 (select_arms_of (map view_select_arm (drop (i + 1) xs))))
    (view_word_is x)
