use Rattle.std.proofs.Common.{◌≡◌, ◌≤◌, drop}
use Rattle.soy_base.specs.Limits.{largest}
use Rattle.soy_types.specs.ShortInt.{int_after}
use Rattle.soy_types.proofs.number.short_int.Given as goal

-- the digits that are left, after those that were read, write the same int
abbrev pub invariant-loop-digit : goal.invariant-loop-digit
invariant-loop-digit l = record {
  within : l.value ≤ largest;
  same : int_after l.value (drop l.digit-index l.text) ≡ int_after 0 l.text;
}
