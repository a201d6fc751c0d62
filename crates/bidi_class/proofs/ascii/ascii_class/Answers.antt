use Rattle.bidi_class.proofs.AsciiTable.{ascii}
use Rattle.bidi_class.proofs.ascii.ascii_class.Goals as goal

pub returns : goal.returns
returns c = ascii c.args.c c.requires
