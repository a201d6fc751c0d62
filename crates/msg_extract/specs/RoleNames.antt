-- The names of a kind piece by piece.
-- Example: of placeholders a piece that uses the name of a plural's selector adds none.
use Rattle.std.specs.Prelude.{List, if◌then◌else◌}
use Rattle.soy_tree.specs.Types.{Name}
use Rattle.soy_rules.specs.Placeholders.{Use, name_of}
use Rattle.msg_extract.specs.Catalogue.{is_of_kind, with_name}
use Rattle.msg_extract.specs.Canonical.Pieces.{Piece, TextPiece, UsePiece}
use Rattle.msg_extract.specs.declared.role_names.NameKind.{NameKind}

abbrev pub kind_step : NameKind → List Use → List Name → Piece → List Name
kind_step of all names (TextPiece text) = names
kind_step of all names (UsePiece u) =
    if is_of_kind of u.role then with_name names (name_of all u.base u.content) else names
