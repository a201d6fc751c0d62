-- An answer that passes one thing passes what is the same.
use Rattle.std.specs.Prelude.{◌≡◌, List, Option, Some, Result, Ok, Err}
use mathlib.Core.Path.{sym, ap, ◌∙◌}
use Rattle.soy_base.specs.declared.fault.Span.{Span}
use Rattle.soy_base.specs.declared.memory.Refusal.{Refusal}
use Rattle.soy_base.specs.declared.memory.Refusal.TheVariants as refusal
use Rattle.soy_tree.specs.Types.{SoyType}
use Rattle.soy_tree.specs.declared.node.Node as code_node
use Rattle.soy_tree.specs.declared.tree.Param as code_param
use Rattle.soy_tree.specs.ViewTrees.{view_params}
use Rattle.soy_rules.specs.Demands.{fault_of}
use Rattle.soy_tree.specs.Trees.{Param}
use Rattle.soy_tree.specs.Expressions.{Expr, span_of}
use Rattle.soy_rules.specs.Faults.{TypeFault, followed_by}
use Rattle.soy_rules.specs.TypeOf.{Scope, type_of}
use Rattle.soy_rules.specs.Templates.{param_scope, param_type}
use Rattle.soy_rules.specs.Bodies.{Checked, accepted, handed, plain_argument}
use Rattle.soy_expr.specs.declared.type_fault.TypeFault as code
use Rattle.soy_check.specs.Answers.{Ends, Finds, Passes}

pub same_passes : {A : Type 0} (wanted other : Checked) (scope : Scope) (r : Result A (Refusal code.TypeFault))
    → wanted ≡ other → Passes other scope r → Passes wanted scope r
same_passes wanted other scope (Ok a) e h = e ∙ h
same_passes wanted other scope (Err (refusal.Because f)) e h = e ∙ h
same_passes wanted other scope (Err refusal.OutOfMemory) e h = tt

pub plain_is : (e : Expr) (p : Param) (scope : Scope) (t to : SoyType) (span : Span) → type_of e scope ≡ Ok t
    → to ≡ param_type p → span_of e ≡ span → plain_argument e p scope ≡ accepted to span t scope
plain_is e p scope t to span typed is at =
    ap (λ (r : Result SoyType TypeFault). followed_by r (λ t. accepted (param_type p) (span_of e) t scope)) typed
    ∙ ap (λ (x : SoyType). accepted x (span_of e) t scope) (sym is)
    ∙ ap (λ (x : Span). accepted to x t scope) at

pub handed_is : (p : Param) (span : Span) (scope : Scope) (given : Option SoyType) (t to : SoyType)
    → given ≡ Some t → to ≡ param_type p → handed (param_type p) span given scope ≡ accepted to span t scope
handed_is p span scope given t to there is =
    ap (λ (o : Option SoyType). handed (param_type p) span o scope) there
    ∙ ap (λ (x : SoyType). accepted x span t scope) (sym is)

ends_finds : {A : Type 0} (wanted other : Checked) (r : Result A (Refusal code.TypeFault)) → other ≡ wanted
    → Ends wanted r → Finds (fault_of other) r
ends_finds wanted other (Ok a) e h = ap fault_of (e ∙ h.1)
ends_finds wanted other (Err (refusal.Because f)) e h = ap fault_of (e ∙ h)
ends_finds wanted other (Err refusal.OutOfMemory) e h = tt

-- where a body ends, there is no fault in it
pub body_finds : {A : Type 0} (wanted : List code_param.Param → List code_node.Node → Scope → Checked)
    (params own : List code_param.Param) (nodes body : List code_node.Node) (scope : Scope)
    (r : Result A (Refusal code.TypeFault)) → params ≡ own → nodes ≡ body → scope ≡ param_scope (view_params params)
    → Ends (wanted params nodes scope) r → Finds (fault_of (wanted own body (param_scope (view_params own)))) r
body_finds wanted params own nodes body scope r of_params of_body is h =
    ends_finds (wanted params nodes scope) (wanted own body (param_scope (view_params own))) r
    (sym (ap (wanted params nodes) is
    ∙ ap (λ (ps : List code_param.Param). wanted ps nodes (param_scope (view_params ps))) of_params
    ∙ ap (λ (ns : List code_node.Node). wanted own ns (param_scope (view_params own))) of_body)) h
