use Rattle.std.proofs.Common.{◌≡◌, ◌++◌}
use Rattle.std.specs.Str.{chars, IsUtf8}
use Rattle.std.specs.Str.Iter.{chars_rest}
use Rattle.std.specs.String.{string_bytes}
use Rattle.soy_format.specs.FormattedString.{string_characters}
use Rattle.soy_format.proofs.string.push_string_characters.Given as goal

abbrev pub invariant-loop-c : goal.invariant-loop-c
invariant-loop-c l = record {
  utf8 : IsUtf8 (chars_rest l.c-iterator);
  pushed : chars (string_bytes l.out) ++ string_characters (chars (chars_rest l.c-iterator))
      ≡ chars (string_bytes l.initial.out) ++ string_characters (chars l.text);
}
