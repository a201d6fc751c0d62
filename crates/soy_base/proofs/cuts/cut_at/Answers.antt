use Rattle.soy_base.proofs.CutAt.{around-cut, split_once-around}
use Rattle.soy_base.proofs.cuts.cut_at.Goals as goal

pub returns-clause-parts : goal.returns-clause-parts
returns-clause-parts c =
    around-cut c.args.delimiter c.args.text.now c.split_once.result
    (split_once-around c.args.delimiter c.args.text.now c.split_once.result c.requires c.utf8.text
    c.split_once.ensures.cases)

pub returns-clause-around : goal.returns-clause-around
returns-clause-around c =
    split_once-around c.args.delimiter c.args.text.now c.split_once.result c.requires c.utf8.text
    c.split_once.ensures.cases
