use Rattle.soy_top.proofs.CheckedLines.{characters_within}
use Rattle.soy_top.proofs.play.bytes_of.Goals as goal

pub returns-clause-within : goal.returns-clause-within
returns-clause-within c = characters_within c.args.text.now c.utf8.text
