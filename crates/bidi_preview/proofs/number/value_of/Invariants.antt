use Rattle.std.proofs.Common.{◌≡◌, ◌≤◌, drop}
use Rattle.html_state.specs.References.{value_from, beyond}
use Rattle.bidi_preview.proofs.number.value_of.Given as goal

abbrev pub invariant-loop-digit : goal.invariant-loop-digit
invariant-loop-digit l = record {
  same : value_from l.base l.value (drop l.digit-index l.digits) ≡ value_from l.base 0 l.digits;
  small : l.value ≤ beyond;
}
