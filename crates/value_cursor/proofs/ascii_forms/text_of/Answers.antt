use Rattle.value_cursor.proofs.AsciiForms.{form_at}
use Rattle.value_cursor.proofs.ascii_forms.text_of.Goals as goal

pub returns : goal.returns
returns c = form_at c.args._how c.args.c c.args.texts.now _ c.requires.texts c.requires.low
