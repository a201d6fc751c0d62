use Rattle.std.proofs.Common.{◌∙◌, ap, map}
use Rattle.msg_extract.specs.NamedNodes.{named_nodes}
use Rattle.msg_extract.specs.Views.ViewPlaceholders.{view_placeholder}
use Rattle.msg_extract.proofs.named_placeholders.NamedPlaceholders.nodes.Goals as goal

pub returns-in-Some : goal.returns-in-Some
returns-in-Some c =
    c.known_nodes.ensures ∙ ap (λ ps. named_nodes c.args.name.now (map view_placeholder ps)) c.self.view_is

pub returns-in-None : goal.returns-in-None
returns-in-None c =
    c.first_nodes.ensures ∙ ap (λ ps. named_nodes c.args.name.now (map view_placeholder ps)) c.self.view_is
