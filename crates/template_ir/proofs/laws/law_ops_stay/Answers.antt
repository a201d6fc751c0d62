use Rattle.template_ir.proofs.Stay.{nodes_stay}
use Rattle.template_ir.proofs.laws.law_ops_stay.Goals as goal

pub returns : goal.returns
returns c = λ d more ns hole at end h. nodes_stay d more ns hole at end h
