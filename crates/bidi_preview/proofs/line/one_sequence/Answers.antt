use Rattle.bidi_preview.proofs.FlatLines.{flat_is}
use Rattle.bidi_preview.proofs.line.one_sequence.Goals as goal

pub returns : goal.returns
returns c = cc (
  flat_is c.args.base c.args.line.now c.args.classes.now c.in_ok-levels.levels.items c.requires.base
      c.requires.classes c.requires.flat c.in_ok-levels.ensures.long c.in_ok-levels.ensures.levels,
  c.new.ensures,
  c.reset_line.ensures,
)
