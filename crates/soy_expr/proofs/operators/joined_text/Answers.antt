use Rattle.std.proofs.Common.{◌++◌, ℕ, List, ap, ◌∙◌}
use Rattle.std.specs.Str.{chars}
use Rattle.std.proofs.lemmas.Str.{chars-nil}
use Rattle.soy_rules.specs.Val.{value_text}
use Rattle.soy_expr.specs.ViewShallow.{view_shallow}
use Rattle.soy_expr.proofs.operators.joined_text.Goals as goal

pub returns : goal.returns
returns c =
    let none = ap chars c.new-joined.ensures.bytes ∙ chars-nil in
    let left = c.in_ok-push_operand.ensures ∙ ap (λ (x : List ℕ). x ++ value_text (view_shallow c.args.left)) none in
    c.new.ensures ∙ c.in_ok-push_operand-2.ensures ∙ ap
    (λ (x : List ℕ). x ++ value_text (view_shallow c.args.right)) left
