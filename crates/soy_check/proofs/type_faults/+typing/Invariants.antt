use Rattle.std.proofs.Common.{◌≡◌, [], drop}
use Rattle.soy_rules.specs.Declarations.{fields_fault, members_fault}
use Rattle.soy_tree.specs.ViewTypes.{view_fields, view_members}
use Rattle.soy_check.proofs.type_faults.+typing.Given as goal

abbrev pub invariant-check_members-loop-member : goal.invariant-check_members-loop-member
invariant-check_members-loop-member l =
    members_fault (view_members l.members) l.at l.alone
    ≡ members_fault (view_members (drop l.member-index l.members)) l.at l.alone

abbrev pub invariant-check_fields-loop-field : goal.invariant-check_fields-loop-field
invariant-check_fields-loop-field l =
    fields_fault (view_fields l.fields) l.at []
    ≡ fields_fault (view_fields (drop l.field-index l.fields)) l.at l.names
