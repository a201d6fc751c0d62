use Rattle.std.proofs.Common.{◌≡◌, ◌++◌, length, map}
use Rattle.std.specs.Str.{chars, IsUtf8}
use Rattle.std.specs.String.{string_bytes}
use Rattle.soy_rules.specs.BaseNames.{upper_character}
use Rattle.msg_extract.proofs.base_name.push_upper_characters.Given as goal

abbrev pub invariant-loop-c : goal.invariant-loop-c
invariant-loop-c l = record {
  utf8 : IsUtf8 l.rest;
  same : chars (string_bytes l.out) ++ map upper_character (chars l.rest)
      ≡ chars (string_bytes l.initial.out) ++ map upper_character (chars l.name);
}

abbrev pub decreases-loop-c : goal.decreases-loop-c
decreases-loop-c l = length (chars l.rest)
