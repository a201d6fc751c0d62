use Rattle.std.proofs.Common.{sym}
use Rattle.bidi_preview.proofs.FoundNames.{lengths_differ}
use Rattle.bidi_preview.proofs.names.is_text.Goals as goal

pub returns-then-characters-text : goal.returns-then-characters-text
returns-then-characters-text c = sym (lengths_differ c.args.characters.now c.args.text.now c.if-characters-text.true)
