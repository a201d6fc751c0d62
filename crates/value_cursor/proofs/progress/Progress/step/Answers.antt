use Rattle.std.proofs.Common.{arith}
use Rattle.value_cursor.proofs.Givings.{behind_size, gives_behind, gives_then, room_end}
use Rattle.value_cursor.proofs.progress.Progress.step.Goals as goal

pub returns-clause-gives : goal.returns-clause-gives
returns-clause-gives c =
    let between = c.copy_run-copied.new.room in
    let copied = c.copy_run-copied.result in
    gives_then c.copy_run-copied.ensures.gives (gives_behind between copied c.give_next.ensures.gives)
    (room_end between c.give_next.new.room copied)

pub returns-clause-full : goal.returns-clause-full
returns-clause-full c less =
    c.give_next.ensures.full (omega (
      arith,
      less,
      c.copy_run-copied.ensures.gives.size,
      behind_size c.copy_run-copied.new.room c.copy_run-copied.result,
    ))
