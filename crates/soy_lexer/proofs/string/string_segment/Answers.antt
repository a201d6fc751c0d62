use Rattle.std.proofs.Common.{sym}
use Rattle.std.specs.Str.{chars}
use Rattle.std.specs.String.{string_bytes}
use Rattle.soy_lexer.proofs.CommandSegments.{string_found, string_rest, no_string}
use Rattle.soy_lexer.proofs.string.string_segment.Goals as goal

pub before-source_text-requires : goal.before-source_text-requires
before-source_text-requires c =
    string_rest (chars c.args.inner.now) (chars c.args.text.now) (chars (string_bytes c.in-Some.value))
    (chars c.in-Some.rest.now) c.requires (rw c.in-Some.is at c.in_ok-value.ensures)

pub returns-in-Some : goal.returns-in-Some
returns-in-Some c =
    string_found (chars c.args.inner.now) (chars c.args.text.now) (chars c.before-source_text.result.now)
    (chars (string_bytes c.in-Some.value)) (chars c.in-Some.rest.now) c.begins.result c.requires
    (rw c.in-Some.is at c.in_ok-value.ensures) c.before-source_text.ensures (rw (sym c.new.ensures) c.begins.ensures)

pub returns-in-None : goal.returns-in-None
returns-in-None c = no_string (chars c.args.inner.now) (rw c.in-None.is at c.in_ok-value.ensures)
