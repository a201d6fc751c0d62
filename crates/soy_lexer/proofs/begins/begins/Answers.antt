use Rattle.std.proofs.Common.{sym, ap, ◌∙◌}
use Rattle.std.specs.Str.{chars}
use Rattle.soy_lexer.specs.Found.Found.{Fails}
use Rattle.soy_lexer.specs.ReadsSegment.{view_segment}
use Rattle.soy_lexer.proofs.CommandSegments.{null_free, null_within}
use Rattle.soy_lexer.proofs.begins.begins.Goals as goal

pub returns : goal.returns
returns c =
    null_free (view_segment c.args.segment) (chars c.args.text.now) (chars c.args.rest.now) c.requires
    c.in-None.ensures.parts

pub returns-in-Some : goal.returns-in-Some
returns-in-Some c =
    null_within (view_segment c.args.segment) (chars c.args.text.now) (chars c.in-Some.prefix.now)
    (chars c.in-Some.field-0-1.now) (chars c.args.rest.now) c.requires
    c.in-Some.ensures.parts
    ∙ ap Fails (sym c.byte_len.ensures)
