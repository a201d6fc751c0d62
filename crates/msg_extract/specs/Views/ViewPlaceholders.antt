-- The placeholders that those of the code stand for.
use Rattle.std.specs.Prelude.{List, map, Option, Some, None, string_bytes}
use Rattle.std.specs.Str.{chars}
use Rattle.soy_tree.specs.Types.{Name}
use Rattle.soy_tree.specs.Nodes.{Nodes, no_node}
use Rattle.soy_tree.specs.ViewNodes.{view_nodes}
use Rattle.msg_extract.specs.PlaceholderNodes.{BegunText}
use Rattle.msg_extract.specs.declared.placeholder.Begun.{Begun}
use Rattle.msg_extract.specs.declared.placeholder.Placeholder.{Placeholder}

abbrev pub view_begun : Option Begun → BegunText
view_begun None = None
view_begun (Some begun) = Some (chars (string_bytes begun.text), begun.span)

abbrev pub view_placeholder : Placeholder → Name × Nodes
view_placeholder p = (p.name, view_nodes p.nodes)

abbrev pub names_of : List Placeholder → List Name
names_of = map (λ p. p.name)

abbrev pub nodes_there : Option Placeholder → Nodes
nodes_there None = no_node
nodes_there (Some p) = view_nodes p.nodes
