-- The plan of the texts and prints that stand for a placeholder, at the site of its message.
use Rattle.soy_rules.specs.TypeOf.{Scope}
use Rattle.soy_tree.specs.Nodes.{Node, Nodes, TextNode, Print, no_node, node}
use Rattle.soy_meaning.specs.Paths.Plan.{Plan, Nothing, Hole, Then}
use Rattle.soy_pieces.specs.Site.{Site}
use Rattle.soy_meaning.specs.Paths.PlanOfParts.{printed_classes, text_plan}

abbrev pub placed_node : Scope → Site → Node → Plan
placed_node scope at (TextNode text span) = text_plan at text
placed_node scope at (Print e phname span) = Hole at (printed_classes e scope)
placed_node scope at _ = Nothing

abbrev pub placed_nodes : Scope → Site → Nodes → Plan
placed_nodes scope at no_node = Nothing
placed_nodes scope at (node n ns) = Then (placed_node scope at n) (placed_nodes scope at ns)
