use Rattle.bidi_preview.proofs.LineLevels.{levels_by}
use Rattle.bidi_preview.proofs.line.turned_levels.Goals as goal

pub returns : goal.returns
returns c = cc (
  levels_by c.args.base c.args.line.now,
  c.new.ensures,
  c.reset_line.ensures,
  c.in_ok-levels.ensures,
  c.in_ok-kept.ensures,
  c.in_ok-classes.ensures,
  c.requires.classes,
  c.deref-2.ensures.value,
  c.deref-3.ensures.value,
)
