use Rattle.std.specs.Str.{chars}
use Rattle.escapers.proofs.PlainForms.{plain_form}
use Rattle.escapers.proofs.escaping.push.Goals as goal

pub returns-in-Plain : goal.returns-in-Plain
returns-in-Plain c = rw (c.in-Plain.is, plain_form (chars c.args.text.now)) c.push_text.ensures.ok
