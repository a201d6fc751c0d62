-- Commands that are a node, or the nodes of a body, that are alike to these.
use Rattle.std.proofs.Common.{◌≡◌, ℕ, List}
use Rattle.soy_tree.specs.Nodes.{Node, Nodes}
use Rattle.soy_tree.specs.ViewNodes.{view_node, view_nodes}
use Rattle.soy_tree.specs.declared.node.Node as code
use Rattle.soy_parser.specs.declared.command.Command.{Command}
use Rattle.soy_parser.specs.SpellsTree.{SpellsBody, SpellsNode}
use Rattle.soy_format.specs.WithoutSpans.{node_without_spans, nodes_without_spans}

-- a node as one of the grammar's rows has it
pub record NodeAs (One : List Command → List ℕ → code.Node → Type 0) (n : Node) (cs : List Command) (ks : List ℕ)
    : Type 0 where
  pub own : code.Node
  pub spells : One cs ks own
  pub alike : node_without_spans (view_node own) ≡ node_without_spans n

-- outside of messages
abbrev pub NodeIs : Node → List Command → List ℕ → Type 0
NodeIs n cs ks = NodeAs SpellsNode n cs ks

pub record BodyIs (ns : Nodes) (cs : List Command) (ks : List ℕ) : Type 0 where
  pub own : List code.Node
  pub spells : SpellsBody cs ks own
  pub alike : nodes_without_spans (view_nodes own) ≡ nodes_without_spans ns
