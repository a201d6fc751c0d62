-- The selectors of a message, piece by piece.
use Rattle.std.proofs.Common.{◌≡◌, false, List, ◌∷◌, ◌++◌, refl, ap, ◌∙◌}
use Rattle.soy_tree.specs.Nodes.{MessageBody}
use Rattle.soy_rules.specs.Placeholders.{Use, body_uses}
use Rattle.msg_extract.specs.Canonical.Pieces.{Piece, TextPiece, UsePiece, body_pieces, uses_in}
use Rattle.msg_extract.specs.SelectorRows.{piece_rows, selector_rows}
use Rattle.msg_extract.proofs.Texts.PieceLists.{body_pieces_uses}

pub selectors_step : (all : List Use) (p : Piece) (ps : List Piece)
    → selector_rows all (uses_in (p ∷ ps)) ≡ piece_rows all p ++ selector_rows all (uses_in ps)
selectors_step all (TextPiece text) ps = refl
selectors_step all (UsePiece u) ps = refl

-- the selectors of pieces that are a message's
pub rows_of_message : (body : MessageBody) (ps : List Piece) → ps ≡ body_pieces false body
    → selector_rows (uses_in ps) (uses_in ps) ≡ selector_rows (body_uses body) (body_uses body)
rows_of_message body ps e = ap (λ us. selector_rows us us) (ap uses_in e ∙ body_pieces_uses false body)
