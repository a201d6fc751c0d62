use Rattle.std.proofs.Common.{◌≡◌, length}
use Rattle.std.specs.Str.{chars, IsUtf8}
use Rattle.std.specs.String.{string_bytes}
use Rattle.soy_lexer.specs.Strings.{quoted}
use Rattle.soy_lexer.specs.StringSteps.{value_and_rest}
use Rattle.soy_lexer.proofs.StringReading.{with_before}
use Rattle.soy_lexer.proofs.string.characters.Given as goal

abbrev pub invariant-loop-c : goal.invariant-loop-c
invariant-loop-c l = record {
  read : value_and_rest (quoted (chars l.text)) ≡ with_before (chars (string_bytes l.value))
      (value_and_rest (quoted (chars l.left)));
  utf8 : IsUtf8 l.left;
}

abbrev pub decreases-loop-c : goal.decreases-loop-c
decreases-loop-c l = length (chars l.left)
