-- What worked rows are made of: small trees, written by hand.
-- Example: `print_node 3 x` is the print `{$x}` at offset 3.
use Rattle.std.specs.Prelude.{ℕ, true, List, [], ◌∷◌, None}
use Rattle.soy_base.specs.declared.fault.Span.{Span}
use Rattle.soy_tree.specs.Types.{Name, SoyType}
use Rattle.soy_tree.specs.Expressions.{Expr, Variable}
use Rattle.soy_tree.specs.Nodes.{Node, Nodes, TextNode, Print, no_node, node}
use Rattle.soy_tree.specs.Trees.{Param}
use Rattle.soy_pieces.specs.Site.{Site}

abbrev pub span_between : ℕ → ℕ → Span
span_between start end = record { start = start; end = end }

abbrev pub span_at : ℕ → Span
span_at at = span_between at 100

abbrev pub site_at : ℕ → Site
site_at at = record { file = 0; at = at }

abbrev pub text_node : ℕ → List ℕ → Node
text_node at text = TextNode text (span_at at)

abbrev pub print_node : ℕ → List ℕ → Node
print_node at name = Print (Variable name (span_at at)) None (span_at at)

abbrev pub all_nodes : List Node → Nodes
all_nodes [] = no_node
all_nodes (n ∷ ns) = node n (all_nodes ns)

abbrev pub row_param : Name × SoyType → Param
row_param p = record { name = p.0; of = p.1; required = true; span = span_at 0 }

abbrev pub variable : ℕ → List ℕ → Expr
variable at name = Variable name (span_at at)
