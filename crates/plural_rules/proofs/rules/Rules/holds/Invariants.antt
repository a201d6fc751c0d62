use Rattle.std.proofs.Common.{◌≡◌, drop}
use Rattle.plural_rules.specs.Category.{holds_for}
use Rattle.plural_rules.proofs.rules.Rules.holds.Given as goal

-- no rule so far is of the category
abbrev pub invariant-loop-rule : goal.invariant-loop-rule
invariant-loop-rule l =
    holds_for (drop l.rule-index l.rule-items) l.n l.category ≡ holds_for l.rule-items l.n l.category
