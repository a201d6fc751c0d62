use Rattle.std.proofs.Common.{◌≡◌, ◌++◌, drop}
use Rattle.std.specs.Str.{chars}
use Rattle.std.specs.String.{string_bytes}
use Rattle.soy_rules.specs.TypeText.{members_text, fields_text}
use Rattle.soy_tree.specs.ViewTypes.{view_members, view_fields}
use Rattle.soy_expr.proofs.TextsLeft.{members_left, fields_left}
use Rattle.soy_expr.proofs.type_text.+pushing_types.Given as goal

abbrev pub invariant-push_members-loop-number : goal.invariant-push_members-loop-number
invariant-push_members-loop-number l =
    chars (string_bytes l.out)
    ++ members_left l.number (view_members (drop l.number l.members)) ≡ chars (string_bytes l.initial.out)
    ++ members_text (view_members l.members)

abbrev pub invariant-push_record-loop-number : goal.invariant-push_record-loop-number
invariant-push_record-loop-number l =
    chars (string_bytes l.out)
    ++ fields_left l.number (view_fields (drop l.number l.fields)) ≡ chars (string_bytes l.initial.out)
    ++ fields_text (view_fields l.fields)
