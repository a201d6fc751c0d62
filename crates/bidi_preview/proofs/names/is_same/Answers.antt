use Rattle.std.proofs.Common.{sym}
use Rattle.bidi_preview.proofs.FoundNames.{lengths_differ}
use Rattle.bidi_preview.proofs.names.is_same.Goals as goal

pub returns-then-one-other : goal.returns-then-one-other
returns-then-one-other c = sym (lengths_differ c.args.one.now c.args.other.now c.if-one-other.true)
