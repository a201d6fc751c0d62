-- The placeholders of a message, piece by piece.
use Rattle.std.proofs.Common.{◌≡◌, List, ◌∷◌, ◌++◌, refl}
use Rattle.soy_tree.specs.Types.{Name}
use Rattle.soy_tree.specs.Nodes.{Nodes}
use Rattle.soy_rules.specs.Placeholders.{Use}
use Rattle.soy_tree.specs.MessageText.{MessageItem}
use Rattle.msg_extract.specs.Canonical.Pieces.{Piece, TextPiece, UsePiece, uses_in}
use Rattle.msg_extract.specs.PlaceholderNodes.{BegunText, begun_after, flushed, nodes_behind, row_step, rows_after}

pub item_step : (begun : BegunText) (item : MessageItem) (items : List MessageItem)
    → nodes_behind begun (item ∷ items) ≡ flushed begun item ++ nodes_behind (begun_after begun item) items
item_step begun item items = refl

pub rows_step : (all : List Use) (rows : List (Name × Nodes)) (p : Piece) (ps : List Piece)
    → rows_after all rows (uses_in (p ∷ ps)) ≡ rows_after all (row_step all rows p) (uses_in ps)
rows_step all rows (TextPiece text) ps = refl
rows_step all rows (UsePiece u) ps = refl
