use Rattle.std.proofs.Common.{◌≡◌, drop}
use Rattle.soy_types.specs.Filling.{has_entry}
use Rattle.soy_types.proofs.shape.walked_index.Given as goal

abbrev pub invariant-loop-index : goal.invariant-loop-index
invariant-loop-index l = has_entry l.key l.entries ≡ has_entry l.key (drop l.index l.entries)
