use Rattle.soy_base.proofs.Texts.{strip_prefix-after_prefix}
use Rattle.soy_base.proofs.cuts.after_prefix.Goals as goal

pub returns : goal.returns
returns c = strip_prefix-after_prefix c.args.prefix.now c.args.text.now c.strip_prefix.result c.utf8.prefix
    c.utf8.text c.strip_prefix.ensures.cases
