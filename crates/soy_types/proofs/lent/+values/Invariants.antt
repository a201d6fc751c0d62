use Rattle.std.proofs.Common.{◌≡◌, drop}
use Rattle.json.specs.Value.{items_view, members_view}
use Rattle.soy_types.specs.LentData.{items_have_values, members_have_values}
use Rattle.soy_types.proofs.lent.+values.Given as goal

abbrev pub invariant-items_have_values-loop-item : goal.invariant-items_have_values-loop-item
invariant-items_have_values-loop-item l =
    items_have_values (items_view l.item-items) ≡ items_have_values (items_view (drop l.item-index l.item-items))

abbrev pub invariant-members_have_values-loop-member : goal.invariant-members_have_values-loop-member
invariant-members_have_values-loop-member l =
    members_have_values (members_view l.member-items)
    ≡ members_have_values (members_view (drop l.member-index l.member-items))
