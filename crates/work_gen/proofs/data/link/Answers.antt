use Rattle.std.proofs.Common.{◌∙◌}
use lib.Utf8.{encode}
use Rattle.work_gen.specs.Data.{links}
use Rattle.work_gen.proofs.TextAt.{text_at-bytes}
use Rattle.work_gen.proofs.data.link.Goals as goal

pub returns : goal.returns
unfolding encode
returns c = c.text_at.ensures ∙ text_at-bytes links c.args.index
