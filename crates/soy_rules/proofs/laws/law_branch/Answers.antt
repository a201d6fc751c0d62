use Rattle.soy_rules.proofs.Branches.{branch_fits}
use Rattle.soy_rules.proofs.laws.law_branch.Goals as goal

pub returns : goal.returns
returns row c when scope env e f = branch_fits when scope env e f
