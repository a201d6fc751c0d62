use Rattle.std.proofs.Common.{◌≡◌, drop, map}
use Rattle.msg_extract.specs.Catalogue.{names_after, role_names}
use Rattle.msg_extract.specs.Canonical.Pieces.{uses_in}
use Rattle.msg_extract.specs.Views.ViewNames.{named_uses}
use Rattle.msg_extract.specs.Views.ViewPieces.{view_piece}
use Rattle.msg_extract.proofs.role_names.role_names.Given as goal

abbrev pub invariant-loop-piece : goal.invariant-loop-piece
invariant-loop-piece l =
    names_after l.kind (named_uses l.names) l.found.keys (uses_in (map view_piece (drop l.piece-index l.names.pieces)))
    ≡ role_names l.kind (named_uses l.names)
