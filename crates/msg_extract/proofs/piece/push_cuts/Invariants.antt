use Rattle.std.proofs.Common.{◌≡◌, ◌++◌, drop, map}
use Rattle.msg_extract.specs.Canonical.Pieces.{cut_pieces}
use Rattle.msg_extract.specs.Views.ViewItems.{view_cut}
use Rattle.msg_extract.specs.Views.ViewPieces.{view_piece}
use Rattle.msg_extract.proofs.piece.push_cuts.Given as goal

abbrev pub invariant-loop-cut : goal.invariant-loop-cut
invariant-loop-cut l =
    map view_piece l.pieces ++ cut_pieces l.in_plural (map view_cut (drop l.cut-index l.cuts))
    ≡ map view_piece l.initial.pieces ++ cut_pieces l.in_plural (map view_cut l.cuts)
