use Rattle.std.proofs.Common.{arith}
use Rattle.value_cursor.proofs.PlainTexts.{plain_table}
use Rattle.value_cursor.proofs.plain.is_plain.Goals as goal

pub returns : goal.returns
returns c = plain_table c.args.byte (omega (arith, c.ranges.byte))
