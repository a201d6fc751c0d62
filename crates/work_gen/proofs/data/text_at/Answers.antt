use Rattle.work_gen.proofs.TextAt.{text_at-table}
use Rattle.work_gen.proofs.data.text_at.Goals as goal

pub returns : goal.returns
returns c = text_at-table _ _ _ c.requires
