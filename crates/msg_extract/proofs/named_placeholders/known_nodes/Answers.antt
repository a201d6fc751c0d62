use Rattle.std.proofs.Common.{◌∙◌, ap, sym}
use Rattle.soy_rules.specs.FirstNames.{first_number}
use Rattle.msg_extract.proofs.FoundNodes.{found_nodes, nodes_found}
use Rattle.msg_extract.proofs.named_placeholders.known_nodes.Goals as goal

pub returns-in-Some : goal.returns-in-Some
returns-in-Some c =
    let all = c.args.placeholders.now in
    c.nodes_at.ensures
    ∙ ap (found_nodes all) (sym c.in-Some.is ∙ c.number.ensures ∙ ap (first_number c.args.name.now) c.requires)
    ∙ sym (nodes_found c.args.name.now all)

pub returns-in-None : goal.returns-in-None
returns-in-None c =
    let all = c.args.placeholders.now in
    ap (found_nodes all) (sym c.in-None.is ∙ c.number.ensures ∙ ap (first_number c.args.name.now) c.requires)
    ∙ sym (nodes_found c.args.name.now all)
