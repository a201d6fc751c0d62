use Rattle.std.proofs.Common.{◌/◌, ◌%◌, ap}
use Rattle.std.proofs.Math.Nat.{mod-add-mod}
use Rattle.work_gen.specs.Draws.{next_state}
use Rattle.work_gen.proofs.draws.Draws.pick.Goals as goal

pub returns-clause-value : goal.returns-clause-value
unfolding next_state
returns-clause-value c = ap (λ s. s / 8589934592 % c.args.k) (mod-add-mod _ _ _)

pub returns-clause-state : goal.returns-clause-state
unfolding next_state
returns-clause-state c = mod-add-mod _ _ _
