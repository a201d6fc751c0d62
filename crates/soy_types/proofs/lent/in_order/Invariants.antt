use Rattle.std.proofs.Common.{◌≡◌, drop}
use Rattle.json.specs.Value.{members_view}
use Rattle.serde_json.specs.Data.{no_members}
use Rattle.soy_types.specs.LentData.{data_in_order, data_members}
use Rattle.soy_types.proofs.lent.in_order.Given as goal

abbrev pub invariant-loop-member : goal.invariant-loop-member
invariant-loop-member l =
    data_members (members_view l.member-items) no_members
    ≡ data_members (members_view (drop l.member-index l.member-items)) (data_in_order l.found.entries)
