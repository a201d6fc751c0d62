use Rattle.std.proofs.Common.{◌≡◌, [], ◌++◌, drop, map}
use Rattle.soy_tree.specs.ViewNodes.{view_nodes}
use Rattle.msg_extract.specs.PlainPieces.{plain_pieces}
use Rattle.msg_extract.specs.Views.ViewPieces.{view_piece}
use Rattle.msg_extract.proofs.piece.push_plain.Given as goal

abbrev pub invariant-loop-node : goal.invariant-loop-node
invariant-loop-node l =
    map view_piece l.pieces ++ plain_pieces l.begun (view_nodes (drop l.node-index l.nodes))
    ≡ map view_piece l.initial.pieces ++ plain_pieces [] (view_nodes l.nodes)
