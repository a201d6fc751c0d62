use Rattle.std.proofs.Common.{sym}
use Rattle.html_state.proofs.Texts.{lengths_differ}
use Rattle.html_state.proofs.text.is_text.Goals as goal

pub returns-then-characters-text : goal.returns-then-characters-text
returns-then-characters-text c = sym (lengths_differ c.args.characters.now c.args.text.now c.if-characters-text.true)
