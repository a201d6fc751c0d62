use Rattle.std.proofs.Common.{arith}
use Rattle.value_cursor.specs.BytesLeft.{bytes_from}
use Rattle.value_cursor.proofs.Givings.{all_given, behind_size, gives_behind, gives_pending, gives_then, room_end}
use Rattle.value_cursor.proofs.progress.Progress.run.Goals as goal

pub loop-filled-init : goal.loop-filled-init
loop-filled-init c = record {
  gives = gives_pending c.args.self.now.pending c.take-filled.new.self
      (bytes_from c.args.plan.now c.args.source.now c.args.self.now.offset) c.args.room.now c.take-filled.new.room
      c.take-filled.result
      c.take-filled.ensures.count c.take-filled.ensures.given c.take-filled.ensures.rest;
  boundary = c.requires.boundary;
  none_pending = all_given c.args.self.now.pending c.take-filled.new.self c.args.room.now c.take-filled.result
      c.take-filled.ensures.count c.take-filled.ensures.rest;
}

pub loop-filled-preserved : goal.loop-filled-preserved
loop-filled-preserved c =
    let so_far = c.loop-filled.invariant in
    record {
      gives = gives_then so_far.gives
          (gives_behind c.loop-filled.room c.loop-filled.filled c.step-filled.ensures.gives)
          (room_end c.loop-filled.room c.step-filled.new.room c.loop-filled.filled);
      boundary = c.step-filled.ensures.boundary;
      none_pending = λ less. c.step-filled.ensures.full
          (omega (arith, less, so_far.gives.size, behind_size c.loop-filled.room c.loop-filled.filled));
    }
