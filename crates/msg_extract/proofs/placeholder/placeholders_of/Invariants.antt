use Rattle.std.proofs.Common.{◌≡◌, [], drop, map}
use Rattle.msg_extract.specs.Canonical.Pieces.{uses_in}
use Rattle.msg_extract.specs.PlaceholderNodes.{rows_after}
use Rattle.msg_extract.specs.PlaceholderRows.{HasRowNames}
use Rattle.msg_extract.specs.Views.ViewNames.{named_uses}
use Rattle.msg_extract.specs.Views.ViewPieces.{view_piece}
use Rattle.msg_extract.specs.Views.ViewPlaceholders.{view_placeholder}
use Rattle.msg_extract.proofs.placeholder.placeholders_of.Given as goal

abbrev pub invariant-loop-piece : goal.invariant-loop-piece
invariant-loop-piece l = record {
  names : HasRowNames l.found;
  same : rows_after (named_uses l.names) (map view_placeholder l.found.rows)
      (uses_in (map view_piece (drop l.piece-index l.names.pieces)))
      ≡ rows_after (named_uses l.names) [] (named_uses l.names);
}
