use Rattle.std.proofs.Common.{◌≡◌, drop}
use Rattle.soy_types.specs.Filling.{are_distinct}
use Rattle.soy_types.proofs.shape.are_distinct.Given as goal

abbrev pub invariant-loop-index : goal.invariant-loop-index
invariant-loop-index l = are_distinct l.entries ≡ are_distinct (drop l.index l.entries)
