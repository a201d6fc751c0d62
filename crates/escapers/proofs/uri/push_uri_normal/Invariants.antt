use Rattle.std.proofs.Common.{◌≡◌, ◌++◌, length}
use denote.Text.{Utf8}
use denote.Shadow.{shadow}
use Rattle.std.specs.Str.{chars}
use Rattle.std.specs.String.{string_bytes}
use Rattle.escapers.specs.UriNormal.{uri_normal}
use Rattle.escapers.proofs.uri.push_uri_normal.Given as goal

-- what is pushed and what is still to come make the whole
abbrev pub invariant-loop-part : goal.invariant-loop-part
invariant-loop-part l =
    shadow (Utf8 l.rest)
    × (chars (string_bytes l.out) ++ uri_normal (chars l.rest) ≡ chars (string_bytes l.initial.out) ++ uri_normal
    (chars l.initial.rest))

abbrev pub decreases-loop-part : goal.decreases-loop-part
decreases-loop-part l = length (chars l.rest)
