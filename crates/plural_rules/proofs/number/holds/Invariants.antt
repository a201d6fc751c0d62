use Rattle.std.proofs.Common.{◌≡◌, drop}
use Rattle.plural_rules.specs.Holds.{holds}
use Rattle.plural_rules.specs.Parts.{condition_of, rest_of}
use Rattle.plural_rules.proofs.TallyLaws.{holds_with}
use Rattle.plural_rules.proofs.number.holds.Given as goal

-- the tally and the parts to come tell whether the condition holds
abbrev pub invariant-loop-part : goal.invariant-loop-part
invariant-loop-part l = holds_with l.n (rest_of (drop l.part-index l.parts)) l.tally ≡ holds (condition_of l.parts) l.n
