use Rattle.std.proofs.Common.{◌≡◌}
use Rattle.std.specs.Str.{chars, IsUtf8}
use Rattle.std.specs.Str.Iter.{chars_rest}
use Rattle.soy_tree.specs.TagScan.{after_characters}
use Rattle.soy_tree.proofs.message_text.scan_characters.Given as goal

abbrev pub invariant-loop-c : goal.invariant-loop-c
invariant-loop-c l = record {
  utf8 : IsUtf8 (chars_rest l.c-iterator);
  last : after_characters l.last (chars (chars_rest l.c-iterator)) ≡ after_characters l.fn.scan (chars l.text);
}
