use Rattle.std.proofs.Common.{◌≡◌, ◌≤◌, ◌+◌, drop, length, map}
use Rattle.msg_extract.specs.Canonical.Pieces.{uses_in}
use Rattle.msg_extract.specs.Views.ViewPieces.{view_piece}
use Rattle.msg_extract.proofs.names.use_count.Given as goal

abbrev pub invariant-loop-piece : goal.invariant-loop-piece
invariant-loop-piece l = record {
  small : l.count ≤ l.piece-index;
  same : l.count + length (uses_in (map view_piece (drop l.piece-index l.pieces)))
      ≡ length (uses_in (map view_piece l.pieces));
}
