-- The names of a kind, piece by piece.
use Rattle.std.proofs.Common.{◌≡◌, List, ◌∷◌, refl}
use Rattle.soy_tree.specs.Types.{Name}
use Rattle.soy_rules.specs.Placeholders.{Use}
use Rattle.msg_extract.specs.Catalogue.{names_after}
use Rattle.msg_extract.specs.Canonical.Pieces.{Piece, TextPiece, UsePiece, uses_in}
use Rattle.msg_extract.specs.RoleNames.{kind_step}
use Rattle.msg_extract.specs.declared.role_names.NameKind.{NameKind}

pub names_step : (of : NameKind) (all : List Use) (names : List Name) (p : Piece) (ps : List Piece)
    → names_after of all names (uses_in (p ∷ ps)) ≡ names_after of all (kind_step of all names p) (uses_in ps)
names_step of all names (TextPiece text) ps = refl
names_step of all names (UsePiece u) ps = refl
