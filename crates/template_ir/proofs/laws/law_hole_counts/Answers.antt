use Rattle.template_ir.proofs.Counts.{nodes_count}
use Rattle.template_ir.proofs.laws.law_hole_counts.Goals as goal

pub returns : goal.returns
returns c = λ d ns scope. nodes_count d ns scope
