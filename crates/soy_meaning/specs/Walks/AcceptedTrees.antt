-- The walk over the trees of all files, and what is demanded of their paths.
--
-- Each template is a frame of its own, in source order. A message has the translation that is given for it, if any.
-- Example: a tree whose one template is `<a href="{$a}{$b}">` isn't accepted, and the walk refuses the second print.
use Rattle.std.specs.Prelude.{List, [], Option, Result}
use Rattle.html_state.specs.declared.row.State.{State}
use Rattle.soy_tree.specs.MessageParts.{MsgParts}
use Rattle.soy_tree.specs.Nodes.{Message}
use Rattle.soy_tree.specs.Trees.{Tree}
use Rattle.soy_meaning.specs.Walks.FourPoints.{AcceptedPaths}
use Rattle.soy_meaning.specs.Walks.PageMachine.{page_machine}
use Rattle.soy_meaning.specs.Paths.PlanOfNodes.{trees_plan}
use Rattle.soy_meaning.specs.Walks.Walk.{WalkFault, Walked, walk, walked}

abbrev pub AcceptedTrees : (Message → Option MsgParts) → List Tree → Type 0
AcceptedTrees translation trees = AcceptedPaths page_machine (trees_plan translation trees)

abbrev pub walk_trees : (Message → Option MsgParts) → List Tree → Result (Walked State) WalkFault
walk_trees translation trees = walk page_machine (trees_plan translation trees) (walked [] [])
