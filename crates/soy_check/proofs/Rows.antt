-- A list of nodes from an index on, and what a param is given.
use Rattle.std.proofs.Common.{
  ◌≡◌,
  ℕ,
  ℤ,
  zero,
  suc,
  ◌+◌,
  ◌<◌,
  List,
  [],
  ◌∷◌,
  ◌∙◌,
  ap,
  drop,
  length,
  refl,
  slice_index_or,
}
use Rattle.std.proofs.Common.{arith, subst, sym}
use Rattle.std.specs.Prelude.{Result, Ok, Err}
use Rattle.soy_base.specs.declared.fault.Span.{Span}
use Rattle.soy_base.specs.declared.kind.Kind.{Kind}
use Rattle.soy_base.specs.declared.memory.Refusal.{Refusal}
use Rattle.soy_tree.specs.declared.node.Node as code
use Rattle.soy_tree.specs.declared.node.Given as code_given
use Rattle.soy_tree.specs.declared.node.Given.TheVariants as given
use Rattle.soy_tree.specs.Types.{Name, SoyType}
use Rattle.soy_tree.specs.Trees.{Param}
use Rattle.soy_tree.specs.Expressions.{Expr}
use Rattle.soy_rules.specs.Faults.{followed_by}
use Rattle.soy_rules.specs.TypeOf.{Scope}
use Rattle.soy_rules.specs.Templates.{kind_type, param_type}
use Rattle.soy_tree.specs.Nodes.{Node, Nodes, Given, Message, MessageBody, node, Block}
use Rattle.soy_rules.specs.Bodies.{Around, Checked, accepted, after_given, after_node, after_nodes}
use Rattle.soy_tree.specs.ViewNodes.{view_node, view_nodes, view_given, form_layer, given_layer, body_layer}
use Rattle.soy_tree.specs.ViewNodes.{argument_layer, arm_layer, case_layer, message_layer, node_layer}
use Rattle.soy_tree.specs.ViewNodes.{plural_case_layer, select_case_layer}
use Rattle.soy_expr.specs.declared.type_fault.TypeFault as code_fault
use Rattle.soy_check.specs.Answers.{Passes, Refuses}
use Rattle.soy_check.proofs.Passing.{same_passes}
use Rattle.soy_check.proofs.Refusals.{refused_first}

nodes_drop : (ns : List code.Node) (i : ℕ) (n : code.Node) → i < length ns → n ≡ slice_index_or ns i n
    → view_nodes (drop i ns) ≡ node (view_node n) (view_nodes (drop (i + 1) ns))
nodes_drop [] i n below is = absurd (omega arith)
nodes_drop (x ∷ ns) zero n below is = rw is refl
nodes_drop (x ∷ ns) (suc i) n below is =
    let e : suc i + 1 ≡ suc (i + 1) = omega arith in rw e (nodes_drop ns i n (omega arith) is)

-- after the node at an index come those from the next index on
pub nodes_step : (around : Around) (ns : List code.Node) (i : ℕ) (n : code.Node) (scope after : Scope)
    → i < length ns → n ≡ slice_index_or ns i n → after_node around (view_node n) scope ≡ Ok after
    → after_nodes around (view_nodes (drop i ns)) scope ≡ after_nodes around (view_nodes (drop (i + 1) ns)) after
nodes_step around ns i n scope after below is passes =
    ap (λ (l : Nodes). after_nodes around l scope) (nodes_drop ns i n below is)
    ∙ ap (λ (r : Checked). followed_by r (λ s. after_nodes around (view_nodes (drop (i + 1) ns)) s)) passes

view_given-block : (kind : Kind) (body : List code.Node) → view_given (given.Block kind body) ≡ Block kind (view_nodes
    body)
view_given-block kind body =
    code_given.fold_out-Given (Span → Node) Given MessageBody (Name × Given × Span) (Expr × Nodes) (List Expr × Nodes)
    Message Node (ℤ × MessageBody) (List ℕ × MessageBody) form_layer given_layer body_layer argument_layer arm_layer
    case_layer message_layer node_layer plural_case_layer select_case_layer
    (given.Block kind body)
    ∙ rw (given.outs-Block kind body) refl

abbrev inside_block : Around → Nodes → Scope → Checked
inside_block around body scope = followed_by (after_nodes around body scope) (λ end. Ok scope)

block_is : (around : Around) (g : code_given.Given) (kind : Kind) (body : List code.Node) (span : Span) (p : Param)
    (scope : Scope) (to of : SoyType) → g ≡ given.Block kind body → to ≡ param_type p → of ≡ kind_type kind
    → after_given around (view_given g) span p scope
    ≡ followed_by (accepted to span of scope) (inside_block around (view_nodes body))
block_is around g kind body span p scope to of is to_is of_is =
    ap (λ (x : code_given.Given). after_given around (view_given x) span p scope) is
    ∙ ap (λ (x : Given). after_given around x span p scope) (view_given-block kind body)
    ∙ ap (λ (x : SoyType). followed_by (accepted x span (kind_type kind) scope) (inside_block around (view_nodes
    body))) (sym to_is)
    ∙ ap (λ (x : SoyType). followed_by (accepted to span x scope) (inside_block around (view_nodes body))) (sym of_is)

refused_out : {A B : Type 0} (wanted : Checked) (next : Scope → Checked) (scope : Scope)
    (r : Result A (Refusal code_fault.TypeFault)) (e : Refusal code_fault.TypeFault)
    (out : Result B (Refusal code_fault.TypeFault)) → r ≡ Err e → out ≡ Err e → Passes wanted scope r
    → Passes (followed_by wanted next) scope out
refused_out wanted next scope (Ok a) e out is out_is h = cc
refused_out wanted next scope (Err x) e (Ok b) is out_is h = cc
refused_out wanted next scope (Err x) e (Err y) is out_is h =
    let same : x ≡ y = cc in
    refused_first wanted next y (subst (λ (z : Refusal code_fault.TypeFault). Refuses wanted z) same h)

-- a block whose kind's type isn't accepted
pub block_refused : {A B : Type 0} (around : Around) (g : code_given.Given) (kind : Kind) (body : List code.Node)
    (span : Span) (p : Param) (scope : Scope) (to of : SoyType) (r : Result A (Refusal code_fault.TypeFault))
    (e : Refusal code_fault.TypeFault) (out : Result B (Refusal code_fault.TypeFault)) → g ≡ given.Block kind body
    → to ≡ param_type p → of ≡ kind_type kind → r ≡ Err e → out ≡ Err e
    → Passes (accepted to span of scope) scope r → Passes (after_given around (view_given g) span p scope) scope out
block_refused around g kind body span p scope to of r e out is to_is of_is r_is out_is h =
    same_passes (after_given around (view_given g) span p scope)
    (followed_by (accepted to span of scope) (inside_block around (view_nodes body))) scope out
    (block_is around g kind body span p scope to of is to_is of_is)
    (refused_out (accepted to span of scope) (inside_block around (view_nodes body)) scope r e out r_is out_is h)
