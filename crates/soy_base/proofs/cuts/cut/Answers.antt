use Rattle.soy_base.proofs.Texts.{split_once-cut}
use Rattle.soy_base.proofs.cuts.cut.Goals as goal

pub returns : goal.returns
returns c = split_once-cut c.args.delimiter.now c.args.text.now c.utf8.delimiter c.utf8.text c.split_once.result
    c.requires c.split_once.ensures.cases
