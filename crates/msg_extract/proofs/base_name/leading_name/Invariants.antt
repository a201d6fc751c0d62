use Rattle.std.proofs.Common.{◌≡◌, ◌++◌, drop, map}
use Rattle.std.specs.Char.{to_ascii_lowercase}
use Rattle.std.specs.Str.{chars}
use Rattle.std.specs.String.{string_bytes}
use Rattle.soy_rules.specs.BaseNames.{leading_name}
use Rattle.msg_extract.specs.Views.ViewItems.{view_item}
use Rattle.msg_extract.proofs.base_name.leading_name.Given as goal

abbrev pub invariant-loop-item : goal.invariant-loop-item
invariant-loop-item l =
    chars (string_bytes l.name) ++ map to_ascii_lowercase (leading_name (map view_item (drop l.item-index l.items)))
    ≡ map to_ascii_lowercase (leading_name (map view_item l.items))
