use Rattle.std.proofs.Common.{◌≡◌, ◌≤◌}
use Rattle.std.specs.Str.{chars, IsUtf8}
use Rattle.std.specs.Str.Iter.{chars_rest}
use Rattle.soy_base.specs.Limits.{largest}
use Rattle.soy_parser.specs.Heads.{digits_value}
use Rattle.soy_parser.proofs.values.digits_value.Given as goal

-- the digits that are left, after those that were read, write the same number
abbrev pub invariant-loop-c : goal.invariant-loop-c
invariant-loop-c l = record {
  utf8 : IsUtf8 (chars_rest l.c-iterator);
  within : l.value ≤ largest;
  same : digits_value l.value (chars (chars_rest l.c-iterator)) ≡ digits_value 0 (chars l.digits);
}
