use Rattle.std.proofs.Common.{◌∙◌}
use lib.Utf8.{encode}
use Rattle.work_gen.specs.Data.{words}
use Rattle.work_gen.proofs.TextAt.{text_at-bytes}
use Rattle.work_gen.proofs.data.word.Goals as goal

pub returns : goal.returns
unfolding encode
returns c = c.text_at.ensures ∙ text_at-bytes words c.args.index
