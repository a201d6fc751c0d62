use Rattle.std.proofs.Common.{◌≡◌, take}
use Rattle.soy_tree.proofs.soy_type.+copying_types.Given as goal

abbrev pub invariant-copied_types-loop-of : goal.invariant-copied_types-loop-of
invariant-copied_types-loop-of l = l.copied.items ≡ take l.of-index l.types

abbrev pub invariant-copied_fields-loop-field : goal.invariant-copied_fields-loop-field
invariant-copied_fields-loop-field l = l.copied.items ≡ take l.field-index l.fields
