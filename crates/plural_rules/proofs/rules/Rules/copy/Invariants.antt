use Rattle.std.proofs.Common.{◌≡◌, take}
use Rattle.plural_rules.proofs.rules.Rules.copy.Given as goal

-- so far each rule is equal
abbrev pub invariant-loop-rule : goal.invariant-loop-rule
invariant-loop-rule l = l.rules.items ≡ take l.rule-index l.rule-items
