use Rattle.std.proofs.Common.{◌++◌, ℕ, List, ap, ◌∙◌}
use Rattle.std.specs.Str.{chars}
use Rattle.std.proofs.lemmas.Str.{chars-nil}
use Rattle.soy_rules.specs.TypeText.{type_text}
use Rattle.soy_tree.specs.ViewTypes.{view_type}
use Rattle.soy_expr.proofs.type_text.text_of.Goals as goal

pub returns : goal.returns
returns c =
    c.new.ensures ∙ c.in_ok-push_type.ensures
    ∙ ap (λ (x : List ℕ). x ++ type_text (view_type c.args.of.now)) (ap chars c.new-text.ensures.bytes ∙ chars-nil)
