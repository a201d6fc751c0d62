use Rattle.std.proofs.Common.{◌≡◌, ◌++◌, drop, map}
use Rattle.soy_rules.specs.FieldNames.{field_names}
use Rattle.soy_rules.proofs.field_names.field_names.Given as goal

abbrev pub invariant-loop-field : goal.invariant-loop-field
invariant-loop-field l =
    map (λ name. name.now) l.names.items ++ field_names (drop l.field-index l.fields) ≡ field_names l.fields
