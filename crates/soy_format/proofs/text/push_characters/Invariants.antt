use Rattle.std.proofs.Common.{◌≡◌, ◌++◌, false}
use Rattle.std.specs.Str.{chars, IsUtf8}
use Rattle.std.specs.Str.Iter.{chars_rest}
use Rattle.std.specs.String.{string_bytes}
use Rattle.soy_format.specs.FormattedText.{text_characters}
use Rattle.soy_format.proofs.text.push_characters.Given as goal

abbrev pub invariant-loop-c : goal.invariant-loop-c
invariant-loop-c l = record {
  utf8 : IsUtf8 (chars_rest l.c-iterator);
  pushed : chars (string_bytes l.out) ++ text_characters l.after_slash (chars (chars_rest l.c-iterator))
      ≡ chars (string_bytes l.initial.out) ++ text_characters false (chars l.text);
}
