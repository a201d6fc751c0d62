use Rattle.std.proofs.Common.{◌≡◌, ◌+◌}
use Rattle.soy_base.specs.Position.{breaks_within, characters_before}
use Rattle.soy_base.proofs.position.line_of.Given as goal

abbrev pub invariant-loop-i : goal.invariant-loop-i
invariant-loop-i l = record {
  line : l.position.line ≡ breaks_within l.text l.i + 1;
  column : l.position.column ≡ characters_before l.text l.i + 1;
}
