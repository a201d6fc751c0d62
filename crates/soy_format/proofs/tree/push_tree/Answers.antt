use Rattle.std.proofs.Common.{◌++◌, List, ℕ, map, ap, ◌∙◌}
use Rattle.std.specs.Prelude.{codes}
use Rattle.std.specs.Str.{chars}
use Rattle.std.specs.String.{string_bytes}
use Rattle.std.proofs.lemmas.Result.{on_ok_weaker}
use Rattle.soy_tree.specs.declared.tree.Template.{Template}
use Rattle.soy_tree.specs.ViewTrees.{view_template}
use Rattle.soy_format.specs.Formatted.{formatted_templates}
use Rattle.soy_format.proofs.Pushes.{four_pushed}
use Rattle.soy_format.proofs.tree.push_tree.Goals as goal

pub returns : goal.returns
returns c =
    let p : List ℕ = chars (string_bytes c.push_ascii.new.out) in
    let r : List ℕ = chars (string_bytes c.push_ascii-2.new.out) in
    on_ok_weaker c.push_templates.result
    (λ h. four_pushed (chars (string_bytes c.args.out.now)) p (chars (string_bytes c.push_text.new.out)) r
    (chars (string_bytes c.push_templates.new.out)) (codes "{namespace ") c.args.tree.now.namespace (codes "}\n")
    (formatted_templates (map view_template c.args.tree.now.templates)) c.in_ok-push_ascii.ensures
    (c.in_ok-push_text.ensures.ok ∙ ap (λ (l : List ℕ). p ++ l) c.text.ensures.characters)
    c.in_ok-push_ascii-2.ensures
    (h ∙ ap (λ (ts : List Template). r ++ formatted_templates (map view_template ts)) c.items.ensures))
    c.push_templates.ensures
