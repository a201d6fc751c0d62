use Rattle.std.proofs.Common.{◌≡◌, ◌+◌, ◌*◌, drop}
use denote.Param.Weighed.{most}
use Rattle.soy_tree.specs.declared.soy_type.SoyType.{size-SoyType}
use Rattle.soy_tree.specs.declared.soy_type.Field.{size-Field}
use Rattle.std.specs.List.{list_all}
use Rattle.soy_rules.specs.Members.{union_members}
use Rattle.soy_rules.specs.Accepts.{each_member, has_field, accepts_member, accepts_fields, some_accepts}
use Rattle.soy_tree.specs.ViewTypes.{view_type, view_members, view_fields}
use Rattle.soy_rules.proofs.acceptance.+accepting.Given as goal

abbrev pub invariant-accepts_all-loop-member : goal.invariant-accepts_all-loop-member
invariant-accepts_all-loop-member l =
    let passes = accepts_member (view_type l.to) in
    list_all passes (union_members (view_members l.members))
    ≡ list_all passes (union_members (view_members (drop l.member-index l.members)))

abbrev pub invariant-accepts_fields-loop-field : goal.invariant-accepts_fields-loop-field
invariant-accepts_fields-loop-field l =
    accepts_fields (view_fields l.to) (view_fields l.from)
    ≡ accepts_fields (view_fields (drop l.field-index l.to)) (view_fields l.from)

abbrev pub invariant-some_accepts-loop-member : goal.invariant-some_accepts-loop-member
invariant-some_accepts-loop-member l =
    some_accepts (view_members l.members) (view_type l.from)
    ≡ some_accepts (view_members (drop l.member-index l.members)) (view_type l.from)

abbrev pub invariant-has_field-loop-field : goal.invariant-has_field-loop-field
invariant-has_field-loop-field l =
    let passes = each_member (accepts_member (view_type l.to)) in
    has_field l.name passes (view_fields l.fields) ≡ has_field l.name passes (view_fields (drop l.field-index l.fields))

abbrev pub decreases-accepts : goal.decreases-accepts
decreases-accepts l = 4 * (size-SoyType l.to.now + size-SoyType l.from.now) + 2

abbrev pub decreases-accepts_all : goal.decreases-accepts_all
decreases-accepts_all l = 4 * (size-SoyType l.to.now + most size-SoyType l.members.now) + 3

abbrev pub decreases-accepts_member : goal.decreases-accepts_member
decreases-accepts_member l = 4 * (size-SoyType l.to.now + size-SoyType l.from.now) + 1

abbrev pub decreases-some_accepts : goal.decreases-some_accepts
decreases-some_accepts l = 4 * (most size-SoyType l.members.now + size-SoyType l.from.now) + 2

abbrev pub decreases-accepts_fields : goal.decreases-accepts_fields
decreases-accepts_fields l = 4 * (most size-Field l.to.now + most size-Field l.from.now) + 4

abbrev pub decreases-has_field : goal.decreases-has_field
decreases-has_field l = 4 * (size-SoyType l.to.now + most size-Field l.fields.now) + 3
