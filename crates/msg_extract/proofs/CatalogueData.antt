-- The JSON of a catalogue has no number.
use Rattle.std.proofs.Common.{◌≡◌, Bool, false, ◌||◌, List, [], ◌∷◌, refl}
use Rattle.serde_json.specs.Written.{has_float, items_have_float}
use Rattle.msg_extract.specs.CatalogueText.{catalogue_data, listed_items}
use Rattle.msg_extract.specs.declared.catalogue.Listed.{Listed}

no_float_in : (ls : List Listed) → items_have_float (listed_items ls) ≡ false
no_float_in [] = refl
no_float_in (l ∷ ls) = no_float_in ls

pub no_float : (ls : List Listed) → has_float (catalogue_data ls) ≡ false
no_float ls = rw (no_float_in ls) refl
