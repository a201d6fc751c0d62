use Rattle.std.proofs.Common.{◌≡◌, ◌≤◌}
use Rattle.std.specs.Str.{chars, IsUtf8}
use Rattle.std.specs.Str.Iter.{chars_rest}
use Rattle.soy_lexer.specs.CommandSegment.{number_after}
use Rattle.soy_base.specs.Limits.{largest}
use Rattle.soy_lexer.proofs.command.is_within_limit.Given as goal

abbrev pub invariant-loop-digit : goal.invariant-loop-digit
invariant-loop-digit l = record {
  within : l.number ≤ largest;
  utf8 : IsUtf8 (chars_rest l.digit-iterator);
  number : number_after l.number (chars (chars_rest l.digit-iterator)) ≡ number_after 0 (chars l.digits);
}
