-- Nodes that are written as rows behind those of what stands in them.
use Rattle.std.proofs.Common.{◌≡◌, ℕ, ℤ, Bool, List, [], ◌∷◌, ◌++◌, Option, Some, None, Result, Ok, OnOk, IfOk, length}
use Rattle.std.proofs.Common.{option_map}
use Rattle.std.proofs.Common.{ap, sym, subst, ◌∙◌}
use Rattle.soy_base.specs.declared.fault.Span.{Span}
use Rattle.soy_base.specs.declared.kind.Kind.{Kind}
use Rattle.soy_base.specs.declared.memory.OutOfMemory.{OutOfMemory}
use Rattle.soy_tree.specs.Expressions.{Expr}
use Rattle.soy_tree.specs.Nodes.{Node, Nodes, Given, Message, MessageBody, Block, Call, For, LetBlock, MessageNode}
use Rattle.soy_tree.specs.Nodes.{message}
use Rattle.soy_rules.specs.Templates.{callee}
use Rattle.soy_rules.specs.TypeOf.{Scope, type_of}
use Rattle.soy_tree.specs.Types.{Name}
use Rattle.soy_tree.specs.ViewExpressions.{view_expr}
use Rattle.soy_tree.specs.ViewNodes.{argument_layer, arm_layer, body_layer, case_layer, form_layer, given_layer}
use Rattle.soy_tree.specs.ViewNodes.{message_layer}
use Rattle.soy_tree.specs.ViewNodes.{node_layer, plural_case_layer, select_case_layer}
use Rattle.soy_tree.specs.ViewNodes.{fallback_of, view_argument, view_arguments, view_arm, view_body, view_case}
use Rattle.soy_tree.specs.ViewNodes.{view_form}
use Rattle.soy_tree.specs.ViewNodes.{view_given, view_message, view_node, view_nodes, view_plural_case}
use Rattle.soy_tree.specs.ViewNodes.{view_select_case}
use Rattle.soy_tree.specs.declared.expr.Expr as code_expr
use Rattle.soy_tree.specs.declared.node.Argument as code_argument
use Rattle.soy_tree.specs.declared.node.Arm as code_arm
use Rattle.soy_tree.specs.declared.node.Case as code_case
use Rattle.soy_tree.specs.declared.node.Form as code_form
use Rattle.soy_tree.specs.declared.node.Form.TheOpen.{Form-F, Given-F}
use Rattle.soy_tree.specs.declared.node.Form.TheVariants as form
use Rattle.soy_tree.specs.declared.node.Given as code_given
use Rattle.soy_tree.specs.declared.node.Given.TheVariants as given
use Rattle.soy_tree.specs.declared.node.Message as code_message
use Rattle.soy_tree.specs.declared.node.MessageBody as code_body
use Rattle.soy_tree.specs.declared.node.Node as code
use Rattle.soy_tree.specs.declared.node.PluralCase as code_plural_case
use Rattle.soy_tree.specs.declared.node.SelectCase as code_select_case
use Rattle.soy_tree.specs.declared.soy_type.Field.{Field}
use Rattle.soy_expr.specs.ViewScope.{view_vars}
use Rattle.soy_meaning.specs.Paths.Plan.{Frame, Hole, Loop, Then, arms_meet}
use Rattle.soy_meaning.specs.Paths.PlanOfNodes.{PlanContext, argument_frames, body_plan, body_scope, called_classes}
use Rattle.soy_meaning.specs.Paths.PlanOfNodes.{fallback_plans}
use Rattle.soy_meaning.specs.Paths.PlanOfNodes.{given_frame, node_plan, nodes_plan, source_plan, translation_plans}
use Rattle.html_context.specs.RowPlans.{plan_at}
use Rattle.html_context.specs.StandsFor.{Writes}
use Rattle.html_context.specs.Walks.{view_site}
use Rattle.html_context.specs.declared.fault.Site as code_site
use Rattle.html_context.specs.declared.table.Row.{Row}
use Rattle.html_context.specs.declared.table.Row.TheVariants as row
use Rattle.html_context.proofs.BuiltRows.{meet_on, then_on, written_frame, written_loop}

-- ---- what a node stands for

view_rolled : (n : code.Node) (o : Form-F code_form.Form code_given.Given code_body.MessageBody
    code_argument.Argument code_arm.Arm code_case.Case code_message.Message code.Node code_plural_case.PluralCase
    code_select_case.SelectCase)
    → n.form ≡ code_form.roll-Form o → view_node n
    ≡ form_layer (code_form.map-Form code_form.Form code_given.Given code_body.MessageBody code_argument.Argument
    code_arm.Arm code_case.Case code_message.Message code.Node code_plural_case.PluralCase
    code_select_case.SelectCase
    (Span → Node) Given MessageBody (Name × Given × Span) (Expr × Nodes) (List Expr × Nodes) Message Node
    (ℤ × MessageBody)
    (List ℕ × MessageBody) view_form view_given view_body view_argument view_arm view_case view_message
    view_node view_plural_case view_select_case o) n.span
view_rolled n o e =
    code.fold_out-Node (Span → Node) Given MessageBody (Name × Given × Span) (Expr × Nodes) (List Expr × Nodes) Message
    Node (ℤ × MessageBody) (List ℕ × MessageBody) form_layer given_layer body_layer argument_layer arm_layer case_layer
    message_layer node_layer plural_case_layer select_case_layer n
    ∙ (ap (λ g. view_form g n.span) e ∙ ap (λ (g : Span → Node). g n.span)
    (code_form.fold-roll-Form (Span → Node) Given MessageBody (Name × Given × Span) (Expr × Nodes) (List Expr × Nodes)
    Message Node (ℤ × MessageBody) (List ℕ × MessageBody) form_layer given_layer body_layer argument_layer arm_layer
    case_layer message_layer node_layer plural_case_layer select_case_layer o))

for_is : (n : code.Node) (name : List ℕ) (index : Option (List ℕ)) (e : code_expr.Expr) (body : List code.Node)
    → n.form ≡ form.For name index e body → view_node n ≡ For name index (view_expr e) (view_nodes body) n.span
for_is n name index e body h =
    view_rolled n (Form-F.For name index e body) (h ∙ sym (form.rolls-For name index e body))

let_block_is : (n : code.Node) (name : List ℕ) (kind : Kind) (body : List code.Node)
    → n.form ≡ form.LetBlock name kind body → view_node n ≡ LetBlock name kind (view_nodes body) n.span
let_block_is n name kind body h =
    view_rolled n (Form-F.LetBlock name kind body) (h ∙ sym (form.rolls-LetBlock name kind body))

call_is : (n : code.Node) (name : List ℕ) (all : Bool) (arguments : List code_argument.Argument)
    → n.form ≡ form.Call name all arguments → view_node n ≡ Call name all (view_arguments arguments) n.span
call_is n name all arguments h =
    view_rolled n (Form-F.Call name all arguments) (h ∙ sym (form.rolls-Call name all arguments))

message_node_is : (n : code.Node) (m : code_message.Message) (other : Option code_message.Message)
    → n.form ≡ form.Message m other
    → view_node n ≡ MessageNode (view_message m) (fallback_of (option_map view_message other)) n.span
message_node_is n m None h = view_rolled n (Form-F.Message m None) (h ∙ sym (form.rolls-Message m None))
message_node_is n m (Some o) h = view_rolled n (Form-F.Message m (Some o)) (h ∙ sym (form.rolls-Message m (Some o)))

message_is : (m : code_message.Message) → view_message m ≡ message m.desc m.meaning (view_body m.body) m.span
message_is m =
    code_message.fold_out-Message (Span → Node) Given MessageBody (Name × Given × Span) (Expr × Nodes)
    (List Expr × Nodes)
    Message Node (ℤ × MessageBody) (List ℕ × MessageBody) form_layer given_layer body_layer argument_layer arm_layer
    case_layer message_layer node_layer plural_case_layer select_case_layer m

block_is : (kind : Kind) (body : List code.Node) → view_given (given.Block kind body) ≡ Block kind (view_nodes body)
block_is kind body =
    ap view_given (sym (given.rolls-Block kind body))
    ∙ code_given.fold-roll-Given (Span → Node) Given MessageBody (Name × Given × Span) (Expr × Nodes)
    (List Expr × Nodes) Message Node (ℤ × MessageBody) (List ℕ × MessageBody) form_layer given_layer body_layer
    argument_layer arm_layer case_layer message_layer node_layer plural_case_layer select_case_layer
    (Given-F.Block kind body)

-- ---- their rows

module _ (k : PlanContext) (scope : Scope) (old mid new : List Row) (i : ℕ) (result : Result ℕ OutOfMemory) where
  same_body : (items body : List code.Node) (inner : List Field) (s : Scope) → items ≡ body → view_vars inner ≡ s
      → Writes (nodes_plan k (view_nodes items) (view_vars inner)) old mid (Ok i)
      → Writes (nodes_plan k (view_nodes body) s) old mid (Ok i)
  same_body items body inner s is v w =
      subst (λ (l : List code.Node). Writes (nodes_plan k (view_nodes l) s) old mid (Ok i)) is
      (subst (λ (z : Scope). Writes (nodes_plan k (view_nodes items) z) old mid (Ok i)) v w)

  pub node_for : (n : code.Node) (name : List ℕ) (index : Option (List ℕ)) (e : code_expr.Expr)
      (body items : List code.Node)
      (inner : List Field) (at : code_site.Site) → n.form ≡ form.For name index e body
      → at ≡ record { file = k.file; at = n.span.start } → items ≡ body
      → view_vars inner ≡ body_scope name index (type_of (view_expr e) scope) scope
      → Writes (nodes_plan k (view_nodes items) (view_vars inner)) old mid (Ok i)
      → OnOk result (new ≡ mid ++ (row.Loop at i ∷ [])) → IfOk result (λ j. j ≡ length mid)
      → Writes (node_plan k (view_node n) scope) old new result
  node_for n name index e body items inner at f a is v w r j =
      let s : Scope = body_scope name index (type_of (view_expr e) scope) scope in
      subst (λ (z : Node). Writes (node_plan k z scope) old new result) (sym (for_is n name index e body f))
      (subst (λ (z : code_site.Site). Writes (Loop (view_site z) (nodes_plan k (view_nodes body) s)) old new result) a
      (written_loop at (nodes_plan k (view_nodes body) s) old mid new i result (same_body items body inner s is v w) r
      j))

  pub node_let_block : (n : code.Node) (name : List ℕ) (kind : Kind) (body items : List code.Node) (inner : List Field)
      (end : code_site.Site) → n.form ≡ form.LetBlock name kind body → end ≡ record { file = k.file; at = n.span.end }
      → items ≡ body → view_vars inner ≡ scope → Writes (nodes_plan k (view_nodes items) (view_vars inner)) old mid
      (Ok i)
      → OnOk result (new ≡ mid ++ (row.Frame kind end i ∷ [])) → IfOk result (λ j. j ≡ length mid)
      → Writes (node_plan k (view_node n) scope) old new result
  node_let_block n name kind body items inner end f a is v w r j =
      subst (λ (z : Node). Writes (node_plan k z scope) old new result) (sym (let_block_is n name kind body f))
      (subst (λ (z : code_site.Site). Writes (Frame kind (view_site z) (nodes_plan k (view_nodes body) scope)) old new
      result) a
      (written_frame kind end (nodes_plan k (view_nodes body) scope) old mid new i result
      (same_body items body inner scope is v w) r j))

  pub given_block : (g : code_given.Given) (span : Span) (kind : Kind) (body items : List code.Node)
      (inner : List Field)
      (end : code_site.Site) → g ≡ given.Block kind body → end ≡ record { file = k.file; at = span.end }
      → items ≡ body → view_vars inner ≡ scope → Writes (nodes_plan k (view_nodes items) (view_vars inner)) old mid
      (Ok i)
      → OnOk result (new ≡ mid ++ (row.Frame kind end i ∷ [])) → IfOk result (λ j. j ≡ length mid)
      → Writes (given_frame k (view_given g) span scope) old new result
  given_block g span kind body items inner end f a is v w r j =
      subst (λ (z : Given). Writes (given_frame k z span scope) old new result)
      (sym (ap view_given f ∙ block_is kind body))
      (subst (λ (z : code_site.Site). Writes (Frame kind (view_site z) (nodes_plan k (view_nodes body) scope)) old new
      result) a
      (written_frame kind end (nodes_plan k (view_nodes body) scope) old mid new i result
      (same_body items body inner scope is v w) r j))

  pub node_call : (n : code.Node) (name : List ℕ) (all : Bool) (arguments items : List code_argument.Argument)
      (at : code_site.Site) → n.form ≡ form.Call name all arguments → at ≡ record { file = k.file; at = n.span.start }
      → items ≡ arguments → Writes (Hole (view_site at) (called_classes (callee k.declared k.namespace name))) old mid
      (Ok i)
      → Writes (Then (plan_at mid i) (argument_frames k (view_arguments items) scope)) mid new result
      → Writes (node_plan k (view_node n) scope) old new result
  node_call n name all arguments items at f a is w v =
      subst (λ (z : Node). Writes (node_plan k z scope) old new result) (sym (call_is n name all arguments f))
      (then_on (Hole (record { file = k.file; at = n.span.start }) (called_classes
      (callee k.declared k.namespace name)))
      (argument_frames k (view_arguments arguments) scope) old mid new i result
      (subst (λ (z : code_site.Site). Writes (Hole (view_site z) (called_classes (callee k.declared k.namespace name)))
      old mid (Ok i)) a w)
      (subst (λ (l : List code_argument.Argument). Writes (Then (plan_at mid i)
      (argument_frames k (view_arguments l) scope)) mid new result) is v))

  pub node_message : (n : code.Node) (m : code_message.Message) (other : Option code_message.Message)
      (at : code_site.Site)
      → n.form ≡ form.Message m other → at ≡ record { file = k.file; at = n.span.start }
      → Writes (body_plan k (view_body m.body) scope (view_site at)) old mid (Ok i)
      → Writes (arms_meet (view_site at) (plan_at mid i ∷ (translation_plans k (view_message m) scope (view_site at)
      ++ fallback_plans k (fallback_of (option_map view_message other)) scope (view_site at)))) mid new result
      → Writes (node_plan k (view_node n) scope) old new result
  node_message n m other at f a w v =
      subst (λ (z : Node). Writes (node_plan k z scope) old new result) (sym (message_node_is n m other f))
      (subst (λ (z : code_site.Site). Writes (arms_meet (view_site z)
      (source_plan k (view_message m) scope (view_site z)
      ∷ (translation_plans k (view_message m) scope (view_site z)
      ++ fallback_plans k (fallback_of (option_map view_message other)) scope (view_site z)))) old new result) a
      (meet_on at (source_plan k (view_message m) scope (view_site at))
      (translation_plans k (view_message m) scope (view_site at)
      ++ fallback_plans k (fallback_of (option_map view_message other)) scope (view_site at)) old mid new i result
      (subst (λ (z : Message). Writes (source_plan k z scope (view_site at)) old mid (Ok i)) (sym (message_is m)) w) v))
