use Rattle.html_state.specs.AfterPieces.{after_piece}
use Rattle.html_state.proofs.Pieces.{after_all-append}
use Rattle.html_state.proofs.laws.law_joined_pieces.Goals as goal

pub returns : goal.returns
returns c = after_all-append after_piece
