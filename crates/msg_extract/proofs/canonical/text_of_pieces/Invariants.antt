use Rattle.std.proofs.Common.{◌≡◌, ◌++◌, drop, map}
use Rattle.std.specs.Str.{chars}
use Rattle.std.specs.String.{string_bytes}
use Rattle.msg_extract.specs.Canonical.Pieces.{pieces_text}
use Rattle.msg_extract.specs.Views.ViewNames.{named_uses}
use Rattle.msg_extract.specs.Views.ViewPieces.{view_piece}
use Rattle.msg_extract.proofs.canonical.text_of_pieces.Given as goal

abbrev pub invariant-loop-piece : goal.invariant-loop-piece
invariant-loop-piece l =
    chars (string_bytes l.out)
    ++ pieces_text (named_uses l.names) (map view_piece (drop l.piece-index l.names.pieces))
    ≡ pieces_text (named_uses l.names) (map view_piece l.names.pieces)
