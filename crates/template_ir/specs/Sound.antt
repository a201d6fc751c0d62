-- When a program can't go wrong, whatever the data are, as long as they have the types of the parameters.
--
-- Each op is checked where it stands: in a block, with the types of the variables that are visible there. The blocks
-- that it names end at or before it. Its expressions are formed and have types that the command allows; the place of a
-- print takes each class of the printed type, that of a call the class of its callee's kind, and that of a number takes
-- ints. A number stands in arms of plurals alone. A call names a template, hands it each parameter at most once, and
-- values of the parameters' types, and leaves out only those that aren't required. A plural and a select have the arm
-- `other`, and an offset is at most 9007199254740991.
-- Example: `Print $x` at the place of a tag is sound for no string $x, and for attributes it is.
use Rattle.std.specs.Prelude.{ℕ, Bool, true, false, not, ◌&&◌, ◌||◌, List, [], ◌∷◌, Option, Some, None, Result, Ok, Err}
use Rattle.std.specs.Prelude.{if◌then◌else◌, bytes_eq, codes, length, map, nat_le, slice_get}
use Rattle.std.specs.List.{list_all}
use Rattle.soy_base.specs.declared.place.Place.{Place}
use Rattle.soy_base.specs.declared.place.Placing.TheVariants.{Takes}
use Rattle.soy_base.specs.declared.place.ValueClass.TheVariants as class
use Rattle.plural_rules.specs.Category.{is_same}
use Rattle.plural_rules.specs.declared.category.Category.TheVariants as category
use Rattle.html_state.specs.TakesClass.{takes_class}
use Rattle.soy_tree.specs.Types.{Name, SoyType}
use Rattle.soy_rules.specs.Accepts.{accepts}
use Rattle.soy_rules.specs.Bodies.{is_printed, loop_scope, param_of}
use Rattle.soy_base.specs.Among.{is_among}
use Rattle.soy_tree.specs.Expressions.{Expr}
use Rattle.soy_rules.specs.Faults.{TypeFault}
use Rattle.soy_tree.specs.Formed.{is_formed_expr}
use Rattle.soy_base.specs.Limits.{largest}
use Rattle.soy_rules.specs.Members.{is_simple}
use Rattle.soy_rules.specs.Narrowing.{narrowed}
use Rattle.soy_rules.specs.Templates.{kind_type, param_scope, param_type}
use Rattle.soy_tree.specs.Trees.{Param}
use Rattle.soy_rules.specs.TypeOf.{Scope, is_int, is_string, type_of, variable_type}
use Rattle.soy_meaning.specs.Walks.FourPoints.{takes_classes}
use Rattle.soy_meaning.specs.Paths.PlanOfNodes.{kind_class}
use Rattle.soy_meaning.specs.Paths.PlanOfParts.{printed_classes}
use Rattle.template_ir.specs.Ops.{Branch, Callee, Choice, Handed, HandedBy, Op, Program, Routine, CallOp, ForOp}
use Rattle.template_ir.specs.Ops.{HandedBlock, HandedSame, HandedValue, IfOp, LetBlockOp, LetOp, NumberOp, PluralOp}
use Rattle.template_ir.specs.Ops.{PrintOp, SelectOp, StaticOp, SwitchOp}
use Rattle.template_ir.specs.Run.{part_of}
use Rattle.soy_base.specs.Table.{table}
use Rattle.template_ir.specs.declared.op.Block.{Block}
use Rattle.template_ir.specs.declared.op.ExactBlock.{ExactBlock}
use Rattle.template_ir.specs.declared.op.NamedBlock.{NamedBlock}
use Rattle.template_ir.specs.declared.op.WordBlock.{WordBlock}

-- how an op is checked: whether a number may stand there, and the variables that are visible, give those that are
-- visible past it, or none where it isn't sound
abbrev pub OpCheck : Type 0
OpCheck = Bool → Scope → Option Scope

abbrev pub scope_if : Bool → Scope → Option Scope
scope_if sound scope = if sound then Some scope else None

-- ---- expressions

-- whether an expression has a type that passes
abbrev pub type_passes : (SoyType → Bool) → Result SoyType TypeFault → Bool
type_passes test (Ok t) = test t
type_passes test (Err fault) = false

abbrev pub is_sound_expr : (SoyType → Bool) → Expr → Scope → Bool
is_sound_expr test e scope = is_formed_expr e && type_passes test (type_of e scope)

abbrev pub any_type : SoyType → Bool
any_type t = true

abbrev pub are_sound_values : List Expr → Scope → Bool
are_sound_values values scope = list_all (λ (e : Expr). is_sound_expr is_simple e scope) values

abbrev pub is_sound_print : Expr → Place → Scope → Bool
is_sound_print e point scope =
    is_sound_expr is_printed e scope && takes_classes (Takes point) (printed_classes e scope)

-- past a name that is bound to a value of this type
abbrev pub scope_bound : Name → Result SoyType TypeFault → Scope → Option Scope
scope_bound name (Ok t) scope = Some ((name, t) ∷ scope)
scope_bound name (Err fault) scope = None

abbrev pub scope_there : Result Scope TypeFault → Option Scope
scope_there (Ok scope) = Some scope
scope_there (Err fault) = None

-- the variables in the body of a loop, by the type of its list
abbrev pub scope_of_turn : Name → Option Name → Expr → Scope → Result SoyType TypeFault → Option Scope
scope_of_turn name index e scope (Err fault) = None
scope_of_turn name index e scope (Ok t) = scope_there (loop_scope name index e scope t)

-- ---- blocks, among the checks of the ops before the op that names them

abbrev pub goes_on : (Scope → Bool) → Option Scope → Bool
goes_on rest None = false
goes_on rest (Some scope) = rest scope

abbrev pub are_sound_ops : List OpCheck → Bool → Scope → Bool
are_sound_ops [] number scope = true
are_sound_ops (check ∷ checks) number scope =
    goes_on (λ past. are_sound_ops checks number past) (check number scope)

abbrev pub is_sound_block : List OpCheck → Block → Bool → Scope → Bool
is_sound_block checks b number scope =
    nat_le b.first b.end && nat_le b.end (length checks) && are_sound_ops (part_of checks b) number scope

abbrev pub is_sound_rest : List OpCheck → Option Block → Scope → Bool
is_sound_rest checks None scope = true
is_sound_rest checks (Some b) scope = is_sound_block checks b false scope

-- ---- calls

abbrev pub handed_names : List Handed → List Name
handed_names [] = []
handed_names (h ∷ handed) = h.name ∷ handed_names handed

abbrev pub takes_variable : SoyType → Option SoyType → Bool
takes_variable to None = false
takes_variable to (Some from) = accepts to from

-- whether what is handed is of this type
abbrev pub is_sound_given : List OpCheck → Name → HandedBy → SoyType → Scope → Bool
is_sound_given checks name (HandedValue e) to scope = is_sound_expr (accepts to) e scope
is_sound_given checks name (HandedBlock kind b) to scope =
    is_sound_block checks b false scope && accepts to (kind_type kind)
is_sound_given checks name HandedSame to scope = takes_variable to (variable_type name scope)

abbrev pub fits_param : (SoyType → Bool) → Option Param → Bool
fits_param test None = false
fits_param test (Some p) = test (param_type p)

abbrev pub are_sound_handed : List OpCheck → List Param → List Handed → Scope → Bool
are_sound_handed checks params [] scope = true
are_sound_handed checks params (h ∷ handed) scope =
    fits_param (λ to. is_sound_given checks h.name h.by to scope) (param_of h.name params)
    && not (is_among (handed_names handed) h.name)
    && are_sound_handed checks params handed scope

abbrev pub has_required : List Param → List Name → Bool
has_required params names = list_all (λ (p : Param). not p.required || is_among names p.name) params

abbrev pub is_sound_call : List OpCheck → Option Routine → Callee → Scope → Bool
is_sound_call checks None c scope = false
is_sound_call checks (Some r) c scope =
    takes_class (Takes c.place) (kind_class r.kind) && are_sound_handed checks r.params c.given scope
    && has_required r.params (handed_names c.given)

-- ---- messages

abbrev pub has_named_other : List NamedBlock → Bool
has_named_other [] = false
has_named_other (arm ∷ arms) = is_same arm.category category.Other || has_named_other arms

abbrev pub has_word_other : List WordBlock → Bool
has_word_other [] = false
has_word_other (arm ∷ arms) = bytes_eq arm.is (codes "other") || has_word_other arms

abbrev pub are_sound_arms : List OpCheck → Bool → List Block → Scope → Bool
are_sound_arms checks number blocks scope = list_all (λ (b : Block). is_sound_block checks b number scope) blocks

abbrev pub is_sound_plural : List OpCheck → Expr → ℕ → List ExactBlock → List NamedBlock → Scope → Bool
is_sound_plural checks e offset exact named scope =
    is_sound_expr is_int e scope && nat_le offset largest && has_named_other named
    && are_sound_arms checks true (map (λ (arm : ExactBlock). arm.body) exact) scope
    && are_sound_arms checks true (map (λ (arm : NamedBlock). arm.body) named) scope

abbrev pub is_sound_select : List OpCheck → Expr → List WordBlock → Scope → Bool
is_sound_select checks e arms scope =
    is_sound_expr is_string e scope && has_word_other arms
    && are_sound_arms checks false (map (λ (arm : WordBlock). arm.body) arms) scope

-- ---- ops

abbrev pub is_sound_branch : List OpCheck → Scope → Branch → Bool
is_sound_branch checks scope b =
    is_sound_expr any_type b.when scope && is_sound_block checks b.body false (narrowed b.when scope)

abbrev pub is_sound_choice : List OpCheck → Scope → Choice → Bool
is_sound_choice checks scope choice =
    are_sound_values choice.values scope && is_sound_block checks choice.body false scope

-- from the checks of the ops before it
abbrev pub op_check : List Routine → List OpCheck → Op → OpCheck
op_check templates checks (StaticOp text) number scope = Some scope
op_check templates checks (PrintOp e point) number scope = scope_if (is_sound_print e point scope) scope
op_check templates checks (NumberOp point) number scope =
    scope_if (number && takes_class (Takes point) class.Int) scope
op_check templates checks (IfOp branches other) number scope =
    scope_if (list_all (is_sound_branch checks scope) branches && is_sound_rest checks other scope) scope
op_check templates checks (SwitchOp e choices other) number scope =
    scope_if (is_sound_expr is_simple e scope && list_all (is_sound_choice checks scope) choices
    && is_sound_rest checks other scope) scope
op_check templates checks (ForOp name index e body) number scope =
    scope_if (is_formed_expr e
    && goes_on (is_sound_block checks body false)
    (scope_of_turn name index e scope (type_of e scope))) scope
op_check templates checks (LetOp name e) number scope =
    if is_formed_expr e then scope_bound name (type_of e scope) scope else None
op_check templates checks (LetBlockOp name kind b) number scope =
    if is_sound_block checks b false scope then Some ((name, kind_type kind) ∷ scope) else None
op_check templates checks (CallOp c) number scope =
    scope_if (is_sound_call checks (slice_get templates c.template) c scope) scope
op_check templates checks (PluralOp e offset ordinal exact named) number scope =
    scope_if (is_sound_plural checks e offset exact named scope) scope
op_check templates checks (SelectOp e arms) number scope = scope_if (is_sound_select checks e arms scope) scope

-- ---- programs

abbrev pub is_sound_template : List OpCheck → Routine → Bool
is_sound_template checks r = is_sound_block checks r.body false (param_scope r.params)

abbrev pub is_sound : Program → Bool
is_sound p = list_all (is_sound_template (table (op_check p.templates) p.ops)) p.templates
