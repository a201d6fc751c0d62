use Rattle.std.proofs.Common.{◌≡◌, drop, map}
use Rattle.msg_extract.specs.Views.ViewPlaceholders.{view_placeholder}
use Rattle.msg_extract.specs.NamedNodes.{named_nodes}
use Rattle.msg_extract.proofs.named_placeholders.first_nodes.Given as goal

abbrev pub invariant-loop-placeholder : goal.invariant-loop-placeholder
invariant-loop-placeholder l =
    named_nodes l.name (map view_placeholder (drop l.placeholder-index l.placeholders))
    ≡ named_nodes l.name (map view_placeholder l.placeholders)
