use Rattle.soy_types.proofs.Pushed.{pushed}
use Rattle.soy_types.proofs.lending.push_read.Goals as goal

pub returns-in_ok-put-in-Ok : goal.returns-in_ok-put-in-Ok
returns-in_ok-put-in-Ok c = λ is fits short.
    pushed is _ _ c.args.name.now _ c.in_ok-put-in-Ok.ensures.ok c.in_ok-name-in-Ok.ensures
    (rw c.in-Ok.is at fits) (rw c.in-Ok.is at short)
