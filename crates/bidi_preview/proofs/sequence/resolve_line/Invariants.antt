use Rattle.bidi_preview.specs.SequenceSteps.{ResolvedUpTo}
use Rattle.bidi_preview.proofs.sequence.resolve_line.Given as goal

abbrev pub invariant-loop-index : goal.invariant-loop-index
invariant-loop-index l = ResolvedUpTo l.base l.line l.index l.before l.levels.items
