use Rattle.std.proofs.lemmas.Str.{chars-nil}
use Rattle.render_core.proofs.begun.no_text.Goals as goal

pub returns-clause-characters : goal.returns-clause-characters
returns-clause-characters c = chars-nil
