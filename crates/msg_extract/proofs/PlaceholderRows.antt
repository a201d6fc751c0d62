-- A placeholder is there where its name is among those of the placeholders.
use Rattle.std.proofs.Common.{◌≡◌, ◌||◌, List, [], ◌∷◌, map, bytes_eq, refl, ap, ◌∙◌}
use Rattle.soy_base.specs.Among.{is_among}
use Rattle.soy_tree.specs.Types.{Name}
use Rattle.soy_tree.specs.Nodes.{Nodes}
use Rattle.msg_extract.specs.PlaceholderNodes.{has_row}
use Rattle.msg_extract.proofs.Texts.AsciiTexts.{same_swapped}

pub row_among : (name : Name) (rows : List (Name × Nodes)) → is_among (map (λ row. row.0) rows) name ≡ has_row name rows
row_among name [] = refl
row_among name (row ∷ rows) =
    ap (λ t. t || is_among (map (λ row. row.0) rows) name) (same_swapped name row.0)
    ∙ ap (λ t. bytes_eq row.0 name || t) (row_among name rows)
