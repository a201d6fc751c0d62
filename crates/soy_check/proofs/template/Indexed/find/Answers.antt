use Rattle.std.proofs.Common.{◌∙◌, List, ap, option_map, ℕ}
use Rattle.std.specs.Str.{chars}
use Rattle.soy_rules.specs.Bodies.{param_of}
use Rattle.soy_tree.specs.ViewTrees.{view_param, view_params}
use Rattle.soy_check.proofs.FirstOfNames.{first_named_view, view_through_borrows}
use Rattle.soy_check.proofs.template.Indexed.find.Goals as goal

pub returns : goal.returns
returns c =
    let text = c.text.result.now in
    let params = c.args.self.now.declared.template.now.params in
    view_through_borrows c.copied.result
    ∙ ap (option_map view_param)
    (ap (option_map (λ p. p.now)) (c.copied.ensures ∙ c.get.ensures.value) ∙ c.args.self.now.found text c.text.utf8)
    ∙ first_named_view (chars text) params
    ∙ ap (λ (n : List ℕ). param_of n (view_params params)) c.text.ensures.characters
