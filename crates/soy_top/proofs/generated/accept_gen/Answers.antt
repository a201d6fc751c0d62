use Rattle.std.proofs.Common.{◌≤◌, length, subst, sym, arith}
use Rattle.soy_top.specs.Accepts.{Accepts}
use Rattle.soy_top.specs.Answer.{workload_answer}
use Rattle.work_gen.specs.declared.workload.Workload.{Workload}
use Rattle.soy_top.proofs.generated.accept_gen.Goals as goal

pub accept_workload-requires : goal.accept_workload-requires
accept_workload-requires c = subst (λ (w : Workload). length w.sources ≤ 64) (sym c.in-Ok.ensures) (omega arith)

pub returns-in-Ok : goal.returns-in-Ok
returns-in-Ok c =
    subst (λ w. Accepts (workload_answer w) c.accept_workload.result) c.in-Ok.ensures c.accept_workload.ensures
