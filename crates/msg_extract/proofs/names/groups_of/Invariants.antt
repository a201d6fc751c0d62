use Rattle.std.proofs.Common.{◌≡◌, [], drop, map}
use Rattle.msg_extract.specs.NameGroups.{bases_after, groups_after}
use Rattle.msg_extract.specs.Canonical.Pieces.{uses_in}
use Rattle.msg_extract.specs.Views.ViewKeys.{view_groups}
use Rattle.msg_extract.specs.Views.ViewPieces.{view_piece}
use Rattle.msg_extract.proofs.names.groups_of.Given as goal

abbrev pub invariant-loop-piece : goal.invariant-loop-piece
invariant-loop-piece l = record {
  bases : bases_after l.groups.bases.keys (uses_in (map view_piece (drop l.piece-index l.pieces)))
      ≡ bases_after [] (uses_in (map view_piece l.pieces));
  contents : groups_after l.groups.bases.keys (view_groups l.groups.contents.items)
      (uses_in (map view_piece (drop l.piece-index l.pieces)))
      ≡ groups_after [] [] (uses_in (map view_piece l.pieces));
}
