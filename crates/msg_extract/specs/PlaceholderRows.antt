-- The names beside placeholders are theirs, in their order.
-- Example: beside no placeholders stand no names.
use Rattle.std.specs.Prelude.{◌≡◌, map}
use Rattle.msg_extract.specs.Views.ViewPlaceholders.{view_placeholder}
use Rattle.msg_extract.specs.declared.placeholder.PlaceholderRows.{PlaceholderRows}

abbrev pub HasRowNames : PlaceholderRows → Type 0
HasRowNames found = found.names.keys ≡ map (λ row. row.0) (map view_placeholder found.rows)
