use Rattle.std.proofs.Common.{◌≡◌, ◌∙◌, ◌++◌, ◌-◌, List, ap, reverse, take}
use Rattle.soy_tree.specs.declared.soy_type.Field as code_field
use Rattle.soy_expr.proofs.Keyed.{fields_of, left_of_entries}
use Rattle.soy_expr.proofs.visible_variables.VisibleVariables.leave.Goals as goal

pub returns : goal.returns
returns c =
    let es = c.self.inside.types.entries in
    let vars = c.self.inside.others.items in
    let count = c.args.count in
    ap (λ xs. reverse (fields_of xs ++ c.truncate.new.self.items)) c.truncate-2.ensures.entries
    ∙ ap (λ (l : List code_field.Field). reverse (fields_of (take count es) ++ l)) c.truncate.ensures.items
    ∙ ap (λ n. reverse (fields_of (take count es) ++ take n vars))
    (c.saturating_sub.ensures ∙ ap (λ n. count - n) c.len-keyed.ensures.len)
    ∙ left_of_entries es vars c.args.self.now count c.self.view_is
