use Rattle.std.proofs.Common.{rules, arith}
use Rattle.std.proofs.lemmas.Grind.{common_steps}
use Rattle.bidi_preview.proofs.ResolveLines.{up_end}
use Rattle.bidi_preview.proofs.sequence.resolve_line.Goals as goal

pub returns : goal.returns
returns c = up_end c.args.base c.args.line.now c.loop-index.index c.loop-index.before c.loop-index.levels.items
    c.loop-index.invariant (first_of (omega arith, search rules, grind (arith, common_steps)))
