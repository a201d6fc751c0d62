-- The text of one piece of a canonical text, where these are all uses of names.
-- Example: the use of the only name with the base name WHO has the text `WHO`.
use Rattle.std.specs.Prelude.{ℕ, List}
use Rattle.soy_rules.specs.Placeholders.{Use, name_of}
use Rattle.msg_extract.specs.Canonical.Pieces.{Piece, TextPiece, UsePiece}

abbrev pub piece_text : List Use → Piece → List ℕ
piece_text uses (TextPiece text) = text
piece_text uses (UsePiece u) = name_of uses u.base u.content
