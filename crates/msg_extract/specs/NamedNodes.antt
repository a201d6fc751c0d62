-- What stands in the source for a placeholder of a translation: the nodes of the first row of its name.
--
-- Example: for START_BOLD in `<b title="{$x}">` stand the text `<b title="`, the print `{$x}` and the text `">`.
use Rattle.std.specs.Prelude.{List, [], ◌∷◌, if◌then◌else◌, bytes_eq}
use Rattle.soy_tree.specs.Nodes.{Nodes, no_node}
use Rattle.soy_tree.specs.Types.{Name}

-- no node where the name isn't there
abbrev pub named_nodes : Name → List (Name × Nodes) → Nodes
named_nodes name [] = no_node
named_nodes name (row ∷ rows) = if bytes_eq row.0 name then row.1 else named_nodes name rows
