use Rattle.std.proofs.Common.{◌≡◌, ◌+◌, ◌*◌, drop}
use denote.Param.Weighed.{most}
use Rattle.soy_tree.specs.declared.soy_type.SoyType.{size-SoyType}
use Rattle.soy_tree.specs.declared.soy_type.Field.{size-Field}
use Rattle.std.specs.List.{list_all}
use Rattle.soy_rules.specs.Members.{union_members}
use Rattle.soy_rules.specs.Accepts.{accepts_member, accepts_fields, some_accepts}
use Rattle.soy_tree.specs.ViewTypes.{view_type, view_members, view_fields}
use Rattle.soy_rules.proofs.acceptance_by_names.+accepting_by_names.Given as goal

abbrev pub invariant-accepts_all-loop-member : goal.invariant-accepts_all-loop-member
invariant-accepts_all-loop-member l =
    let passes = accepts_member (view_type l.to) in
    list_all passes (union_members (view_members l.members))
    ≡ list_all passes (union_members (view_members (drop l.member-index l.members)))

abbrev pub invariant-one_accepts-loop-number : goal.invariant-one_accepts-loop-number
invariant-one_accepts-loop-number l =
    some_accepts (view_members l.members) (view_type l.from)
    ≡ some_accepts (view_members (drop l.number l.members)) (view_type l.from)

abbrev pub invariant-has_fields-loop-field : goal.invariant-has_fields-loop-field
invariant-has_fields-loop-field l =
    accepts_fields (view_fields l.to) (view_fields l.from)
    ≡ accepts_fields (view_fields (drop l.field-index l.to)) (view_fields l.from)

abbrev pub decreases-accepts_by_names : goal.decreases-accepts_by_names
decreases-accepts_by_names l = 4 * (size-SoyType l.to.now + size-SoyType l.from.now) + 3

abbrev pub decreases-accepts_next : goal.decreases-accepts_next
decreases-accepts_next l = 4 * (size-SoyType l.to.now + size-SoyType l.from.now) + 2

abbrev pub decreases-accepts_all : goal.decreases-accepts_all
decreases-accepts_all l = 4 * (size-SoyType l.to.now + most size-SoyType l.members.now) + 3

abbrev pub decreases-accepts_member : goal.decreases-accepts_member
decreases-accepts_member l = 4 * (size-SoyType l.to.now + size-SoyType l.from.now) + 1

abbrev pub decreases-some_accepts : goal.decreases-some_accepts
decreases-some_accepts l = 4 * (most size-SoyType l.members.now + size-SoyType l.from.now) + 3

abbrev pub decreases-one_accepts : goal.decreases-one_accepts
decreases-one_accepts l = 4 * (most size-SoyType l.members.now + size-SoyType l.from.now) + 2

abbrev pub decreases-accepts_fields : goal.decreases-accepts_fields
decreases-accepts_fields l = 4 * (most size-Field l.to.now + most size-Field l.from.now) + 5

abbrev pub decreases-has_fields : goal.decreases-has_fields
decreases-has_fields l = 4 * (most size-Field l.to.now + most size-Field l.from.now) + 4

abbrev pub decreases-has_field : goal.decreases-has_field
decreases-has_field l = 4 * (size-SoyType l.to.now + most size-Field l.fields.now) + 3
