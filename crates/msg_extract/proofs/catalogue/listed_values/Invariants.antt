use Rattle.std.proofs.Common.{◌≡◌, ◌++◌, drop, map}
use Rattle.serde_json.specs.View.{items_of, view}
use Rattle.msg_extract.specs.CatalogueText.{listed_data, listed_items}
use Rattle.msg_extract.proofs.catalogue.listed_values.Given as goal

abbrev pub invariant-loop-row : goal.invariant-loop-row
invariant-loop-row l =
    items_of (map view l.values.items ++ map listed_data (drop l.row-index l.rows)) ≡ listed_items l.rows
