use Rattle.std.proofs.Common.{◌≡◌, ◌-◌}
use Rattle.msg_extract.specs.NameGroups.{free_among}
use Rattle.msg_extract.proofs.names.free_number.Given as goal

abbrev pub invariant-loop-turn : goal.invariant-loop-turn
invariant-loop-turn l =
    free_among (l.tries - l.turn) l.bases.keys l.base l.number ≡ free_among l.tries l.bases.keys l.base l.from
