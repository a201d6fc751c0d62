use Rattle.std.proofs.Common.{◌≡◌, ◌++◌}
use Rattle.std.specs.Prelude.{encode_utf8_all}
use Rattle.std.specs.List.{flat_map}
use Rattle.std.specs.Str.{chars, IsUtf8}
use Rattle.std.specs.Str.Iter.{chars_rest}
use Rattle.std.specs.String.{string_bytes}
use Rattle.soy_top.specs.Pointer.{key_character}
use Rattle.soy_top.proofs.line.push_key.Given as goal

abbrev pub invariant-loop-c : goal.invariant-loop-c
invariant-loop-c l = record {
  utf8 : IsUtf8 (chars_rest l.c-iterator);
  so_far : string_bytes l.text ++ encode_utf8_all (flat_map key_character (chars (chars_rest l.c-iterator)))
      ≡ string_bytes l.initial.text ++ encode_utf8_all (flat_map key_character (chars l.key));
}
