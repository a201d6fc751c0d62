use Rattle.std.proofs.Common.{◌∙◌, ap, option_map, sym}
use Rattle.soy_rules.specs.FirstNames.{first_number}
use Rattle.soy_rules.specs.ViewTemplates.{view_declared}
use Rattle.soy_rules.proofs.FoundTemplates.{found_template, template_found, view_through}
use Rattle.soy_rules.proofs.templates.Templates.of_name.Goals as goal

pub returns-in-Some : goal.returns-in-Some
returns-in-Some c =
    view_through c.get.result ∙ ap (option_map view_declared) c.get.ensures
    ∙ ap (found_template c.args.self.now) (sym c.in-Some.is ∙ c.number.ensures)
    ∙ sym (template_found c.args.full.now c.args.self.now)

pub returns-in-None : goal.returns-in-None
returns-in-None c =
    ap (found_template c.args.self.now) (sym c.in-None.is ∙ c.number.ensures)
    ∙ sym (template_found c.args.full.now c.args.self.now)
