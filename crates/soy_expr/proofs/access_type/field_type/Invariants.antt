use Rattle.std.proofs.Common.{◌≡◌, drop}
use Rattle.soy_rules.specs.TypeOf.{field_type}
use Rattle.soy_tree.specs.ViewTypes.{view_fields}
use Rattle.soy_expr.proofs.access_type.field_type.Given as goal

abbrev pub invariant-loop-field : goal.invariant-loop-field
invariant-loop-field l =
    field_type l.name (view_fields l.fields) ≡ field_type l.name (view_fields (drop l.field-index l.fields))
