use Rattle.std.proofs.Common.{◌≡◌, ◌++◌, length}
use Rattle.std.specs.Str.{chars, IsUtf8}
use Rattle.std.specs.String.{string_bytes}
use Rattle.soy_rules.specs.BaseNames.{base_of_name, upper_name}
use Rattle.msg_extract.proofs.base_name.base_of_name.Given as goal

abbrev pub invariant-loop-c : goal.invariant-loop-c
invariant-loop-c l = record {
  utf8 : IsUtf8 l.rest;
  same : chars (string_bytes l.base) ++ upper_name l.follows_lower (chars l.rest) ≡ base_of_name (chars l.name);
}

abbrev pub decreases-loop-c : goal.decreases-loop-c
decreases-loop-c l = length (chars l.rest)
