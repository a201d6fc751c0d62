-- The walk of a table that stands for trees is that of the trees.
use Rattle.std.proofs.Common.{◌≡◌, [], ap}
use Rattle.soy_tree.specs.MessageParts.{MsgParts}
use Rattle.soy_tree.specs.Nodes.{Message}
use Rattle.soy_tree.specs.Trees.{Tree}
use Rattle.std.specs.Prelude.{List, Option}
use Rattle.soy_meaning.specs.Walks.AcceptedTrees.{walk_trees}
use Rattle.soy_meaning.specs.Walks.PageMachine.{page_machine}
use Rattle.soy_meaning.specs.Paths.PlanOfNodes.{trees_plan}
use Rattle.soy_meaning.specs.Walks.Walk.{walk, walked}
use Rattle.html_context.specs.RowPlans.{plan_at}
use Rattle.html_context.specs.StandsFor.{StandsFor}
use Rattle.html_context.specs.declared.table.Table.{Table}

pub inferred : (table : Table) (translation : Message → Option MsgParts) (trees : List Tree)
    → StandsFor table (trees_plan translation trees)
    → walk page_machine (plan_at table.rows.items table.root) (walked [] []) ≡ walk_trees translation trees
inferred table translation trees stands = ap (λ f. f (walked [] [])) stands
