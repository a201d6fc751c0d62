use Rattle.soy_format.proofs.AlikeTrees.{alike_formats}
use Rattle.soy_format.proofs.laws.law_alike_trees.Goals as goal

pub returns : goal.returns
returns c = alike_formats
