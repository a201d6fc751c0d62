-- The ids of a listing are those of its rows, in their order.
-- Example: a listing without rows has no ids.
use Rattle.std.specs.Prelude.{◌≡◌, map}
use Rattle.msg_extract.specs.declared.catalogue.Listing.{Listing}

abbrev pub HasIds : Listing → Type 0
HasIds listing = listing.ids.keys ≡ map (λ l. l.id) listing.rows
