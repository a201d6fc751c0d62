use Rattle.std.proofs.lemmas.Result.{IfOk-weaker}
use Rattle.soy_top.proofs.CanonicalTexts.{canonical_bytes}
use Rattle.soy_top.proofs.formatted.canonical_source.Goals as goal

pub returns : goal.returns
returns c = IfOk-weaker c.format.result _ _ (canonical_bytes c.args.tree.now) c.format.ensures
