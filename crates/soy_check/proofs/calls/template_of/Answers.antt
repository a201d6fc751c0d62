use Rattle.std.proofs.Common.{◌∙◌, ap, option_map, sym}
use Rattle.soy_check.specs.ViewAround.{view_indexed}
use Rattle.soy_check.proofs.Indexes.{indexed_position, view_through, template_found, template_missing}
use Rattle.soy_check.proofs.calls.template_of.Goals as goal

pub returns-in-Some : goal.returns-in-Some
returns-in-Some c =
    let around = c.args.around.now in
    view_through c.declared_at.result
    ∙ ap (option_map view_indexed) c.declared_at.ensures
    ∙ sym (template_found c.args.full.now around.declared.now c.in-Some.at
    (indexed_position c.args.full.now around.names.now around.declared.now c.position.result around.indexed
    c.position.ensures ∙ c.in-Some.is))

pub returns-in-None : goal.returns-in-None
returns-in-None c =
    let around = c.args.around.now in
    sym (template_missing c.args.full.now around.declared.now
    (indexed_position c.args.full.now around.names.now around.declared.now c.position.result around.indexed
    c.position.ensures ∙ c.in-None.is))
