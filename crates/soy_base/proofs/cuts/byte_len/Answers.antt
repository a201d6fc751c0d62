use Rattle.std.proofs.Common.{sym}
use Rattle.soy_base.proofs.Texts.{byte_len-chars}
use Rattle.soy_base.proofs.cuts.byte_len.Goals as goal

pub returns : goal.returns
returns c = sym (byte_len-chars c.args.text.now c.utf8.text)
