-- Without translations all files fit.
use Rattle.std.proofs.Common.{List, [], ◌∷◌, None}
use Rattle.soy_tree.specs.Nodes.{Message}
use Rattle.soy_tree.specs.Trees.{Tree}
use Rattle.msg_extract.specs.Fits.{FitsMessages, FitsTrees}
use Rattle.msg_extract.specs.MessagesIn.{tree_messages}

no_message : (ms : List Message) → FitsMessages (λ id. None) ms
no_message [] = tt
no_message (m ∷ ms) = (tt, no_message ms)

pub no_translation : (trees : List Tree) → FitsTrees (λ id. None) trees
no_translation [] = tt
no_translation (tree ∷ trees) = (no_message (tree_messages tree), no_translation trees)
