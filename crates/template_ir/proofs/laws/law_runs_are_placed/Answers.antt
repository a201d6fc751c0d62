use Rattle.template_ir.proofs.PlacedRuns.{runs_placed}
use Rattle.template_ir.proofs.laws.law_runs_are_placed.Goals as goal

pub returns : goal.returns
returns c = λ trees l v typed fits walks number d found env data_.
    runs_placed trees l v typed fits walks number d found env data_
