use Rattle.std.proofs.Common.{refl}
use Rattle.soy_base.proofs.Texts.{no_bytes}
use Rattle.soy_base.proofs.cuts.is_empty.Goals as goal

pub returns : goal.returns
returns c = no_bytes c.args.text.now _ _ c.utf8.text refl c.is_empty.ensures
