-- The pieces of the line of a body: where its first or last piece is a space, that is written as `{sp}`.
-- Example: the pieces ` `, `a` and ` ` are those of the line `{sp}a{sp}`.
use Rattle.std.specs.Prelude.{◌==◌, if◌then◌else◌, List, [], ◌∷◌, codes}
use Rattle.soy_base.specs.Characters.{space}
use Rattle.formatted_source.specs.CommandPieces.{word_piece}
use Rattle.formatted_source.specs.Pieces.{Piece, Plain, Written}

abbrev pub space_piece : Piece
space_piece = word_piece (codes "{sp}") (codes "sp")

abbrev pub edge_piece : Piece → Piece
edge_piece (Plain c) = if c == space then space_piece else Plain c
edge_piece (Written text ls) = Written text ls

-- what stands after the first piece of a line
abbrev pub after_first_piece : List Piece → List Piece
after_first_piece [] = []
after_first_piece (p ∷ []) = edge_piece p ∷ []
after_first_piece (p ∷ q ∷ ps) = p ∷ after_first_piece (q ∷ ps)

abbrev pub edged_pieces : List Piece → List Piece
edged_pieces [] = []
edged_pieces (p ∷ ps) = edge_piece p ∷ after_first_piece ps
