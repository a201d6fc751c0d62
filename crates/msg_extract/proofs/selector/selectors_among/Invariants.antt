use Rattle.std.proofs.Common.{◌≡◌, ◌++◌, drop, map}
use Rattle.msg_extract.specs.Canonical.Pieces.{uses_in}
use Rattle.msg_extract.specs.SelectorRows.{selector_rows, view_selector}
use Rattle.msg_extract.specs.Views.ViewNames.{named_uses}
use Rattle.msg_extract.specs.Views.ViewPieces.{view_piece}
use Rattle.msg_extract.proofs.selector.selectors_among.Given as goal

abbrev pub invariant-loop-piece : goal.invariant-loop-piece
invariant-loop-piece l =
    map view_selector l.rows ++ selector_rows (named_uses l.names)
    (uses_in (map view_piece (drop l.piece-index l.names.pieces)))
    ≡ selector_rows (named_uses l.names) (named_uses l.names)
