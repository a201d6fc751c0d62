use Rattle.std.specs.Str.{chars}
use Rattle.value_cursor.proofs.PlainRuns.{prefix_plain}
use Rattle.value_cursor.proofs.runs.plain_bytes.Goals as goal

pub returns-in-None-clause-plain : goal.returns-in-None-clause-plain
returns-in-None-clause-plain c =
    prefix_plain c.args.plan.now.how (chars c.plain_prefix.result.0.now) (chars c.args.text.now)
    c.plain_prefix.ensures.prefix
