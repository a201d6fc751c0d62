-- The ids of the messages of trees, in source order.
-- Example: a tree without messages has none.
use Rattle.std.specs.Prelude.{ℕ, List, [], ◌∷◌, ◌++◌, map}
use Rattle.soy_tree.specs.Trees.{Tree}
use Rattle.msg_extract.specs.MessageId.{id_of}
use Rattle.msg_extract.specs.MessagesIn.{tree_messages}

abbrev pub ids_in : List Tree → List (List ℕ)
ids_in [] = []
ids_in (tree ∷ trees) = map id_of (tree_messages tree) ++ ids_in trees
