use Rattle.std.proofs.Common.{◌≡◌, drop, map}
use Rattle.msg_extract.specs.Catalogue.{all_listed}
use Rattle.msg_extract.specs.ListedIds.{HasIds}
use Rattle.msg_extract.specs.Views.ViewMessages.{view_found}
use Rattle.msg_extract.proofs.catalogue.add_all.Given as goal

abbrev pub invariant-loop-message : goal.invariant-loop-message
invariant-loop-message l = record {
  ids : HasIds l.listing;
  same : all_listed l.listing.rows l.file (map view_found (drop l.message-index l.messages))
      ≡ all_listed l.initial.listing.rows l.file (map view_found l.messages);
}
