use Rattle.std.proofs.Common.{take}
use Rattle.plural_rules.specs.AreRulesOf.{AreRulesOf}
use Rattle.plural_rules.proofs.rules.Rules.parse.Given as goal

-- so far each rule is that of its entry
abbrev pub invariant-loop-entry : goal.invariant-loop-entry
invariant-loop-entry l = AreRulesOf (take l.entry-index l.entries) l.rules.items
