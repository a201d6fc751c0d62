use Rattle.std.proofs.Common.{rules, ◌≡◌, ◌∙◌, ap, sym, false, Some, None, arith}
use Rattle.std.specs.Prelude.{slice_get}
use Rattle.soy_tree.specs.declared.soy_type.SoyType.{size-SoyType}
use Rattle.soy_tree.specs.ViewTypes.{view_fields, view_type}
use Rattle.soy_rules.specs.Accepts.{accepts_member, each_member, has_field}
use Rattle.soy_rules.specs.FieldNames.{field_names}
use Rattle.soy_rules.specs.FirstNames.{first_number}
use Rattle.soy_rules.proofs.Searches.{field_found, found_before, found_behind, most-before, most-behind}
use Rattle.soy_rules.proofs.Searches.{item_missing, item_there, passes_at, passes_found}
use Rattle.soy_rules.proofs.Views.{accepts_fields-drop}
use Rattle.soy_rules.proofs.acceptance_by_names.+accepting_by_names.Goals as goal

pub has_fields-returns-then-not-branch : goal.has_fields-returns-then-not-branch
has_fields-returns-then-not-branch t c =
    let q =
    accepts_fields-drop c.args.to.now (view_fields c.args.from.now) c.loop-field.field-index c.field-item.result
    c.loop-field-test.true c.field-item.is in
    search (rules, q)

pub has_fields-loop-field-preserved : goal.has_fields-loop-field-preserved
has_fields-loop-field-preserved t c =
    let q =
    accepts_fields-drop c.args.to.now (view_fields c.args.from.now) c.loop-field.field-index c.field-item.result
    c.loop-field-test.true c.field-item.is in
    search (rules, q)

pub has_field-returns-in_default : goal.has_field-returns-in_default
has_field-returns-in_default t c =
    let passes = each_member (accepts_member (view_type c.args.to.now)) in
    let fs = c.args.fields.now in
    let n : first_number c.args.name.now (field_names fs) ≡ None = search rules in
    sym (field_found c.args.name.now passes fs ∙ ap (passes_found passes fs) n)

pub has_field-returns-in-Some-get : goal.has_field-returns-in-Some-get
has_field-returns-in-Some-get t c =
    let passes = each_member (accepts_member (view_type c.args.to.now)) in
    let fs = c.args.fields.now in
    let n : first_number c.args.name.now (field_names fs) ≡ Some c.in-Some.number = search rules in
    let e : slice_get fs c.in-Some.number ≡ Some c.in-Some-get.field.now =
    item_there fs c.in-Some.number c.in-Some-get.field c.in-Some-get.ensures.lookup in
    let q : has_field c.args.name.now passes (view_fields fs) ≡ passes (view_type c.in-Some-get.field.now.of) =
    field_found c.args.name.now passes fs ∙ ap (passes_found passes fs) n ∙ ap (passes_at passes) e in
    rw q c.accepts_by_names.ensures

pub has_field-returns-in-None : goal.has_field-returns-in-None
has_field-returns-in-None t c =
    let passes = each_member (accepts_member (view_type c.args.to.now)) in
    let fs = c.args.fields.now in
    let n : first_number c.args.name.now (field_names fs) ≡ Some c.in-Some.number = search rules in
    let e : slice_get fs c.in-Some.number ≡ None = item_missing fs c.in-Some.number c.in-None.ensures.lookup in
    sym (field_found c.args.name.now passes fs ∙ ap (passes_found passes fs) n ∙ ap (passes_at passes) e)

pub some_accepts-one_accepts-requires : goal.some_accepts-one_accepts-requires
some_accepts-one_accepts-requires t c = (
  omega (
    arith,
    c.decreases,
    most-behind size-SoyType c.args.members.now c.split_at.result.1.now c.min-begin.result
        c.split_at.ensures.back,
  ),
  tt,
)

pub some_accepts-returns-then-branch : goal.some_accepts-returns-then-branch
some_accepts-returns-then-branch t c =
    found_behind c.args.members.now c.split_at.result.1.now c.min-begin.result (view_type c.args.from.now)
    c.in_ok-one_accepts.field-0 c.split_at.ensures.back c.in_ok-one_accepts.ensures c.if-branch.true

pub some_accepts-one_accepts-requires-2 : goal.some_accepts-one_accepts-requires-2
some_accepts-one_accepts-requires-2 t c = (
  omega (
    arith,
    c.decreases,
    most-before size-SoyType c.args.members.now c.split_at.result.0.now c.min-begin.result
        c.split_at.ensures.front,
  ),
  tt,
)

pub some_accepts-returns : goal.some_accepts-returns
some_accepts-returns t c =
    let same =
    found_before c.args.members.now c.split_at.result.0.now c.split_at.result.1.now c.min-begin.result
    (view_type c.args.from.now) c.in_ok-one_accepts.field-0 c.split_at.ensures.front c.split_at.ensures.back
    c.in_ok-one_accepts.ensures c.if-branch.false in
    rw same c.one_accepts-2.ensures
