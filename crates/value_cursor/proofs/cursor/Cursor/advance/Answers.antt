use Rattle.std.proofs.Common.{◌≡◌, ◌≤◌, ◌∙◌, List, ℕ, ap, length, subst, arith}
use Rattle.value_cursor.specs.BytesLeft.{bytes_after, bytes_left, source}
use Rattle.value_cursor.specs.Gives.{Gives}
use Rattle.value_cursor.proofs.Closed.{closing_given, pending_left}
use Rattle.value_cursor.proofs.Givings.{behind_size, gives_after}
use Rattle.value_cursor.proofs.cursor.Cursor.advance.Goals as goal

pub returns-clause-gives : goal.returns-clause-gives
returns-clause-gives c =
    let plan = c.args.self.now.plan in
    let text : List ℕ = source plan c.args.text.now in
    let same : c.source-source.result.now ≡ text = c.source-source.ensures in
    let run = c.run-filled.ensures in
    let done = run.finished (omega (arith, run.gives.within, c.if-filled-room.false)) in
    let end : length text ≤ c.run-filled.new.self.offset = omega (arith, ap length same, done.1) in
    let first : Gives (bytes_after plan text c.args.self.now.progress) (bytes_after plan text c.run-filled.new.self)
    c.args.room.now c.run-filled.new.room c.run-filled.result =
    subst (λ s. Gives (bytes_after plan s c.args.self.now.progress) (bytes_after plan s c.run-filled.new.self)
    c.args.room.now c.run-filled.new.room c.run-filled.result) same run.gives in
    gives_after (bytes_left c.close.new.self c.args.text.now)
    (closing_given plan text c.run-filled.new.self c.args.self.now.closing.now c.close.new.self.progress.pending first
    done.0 end c.close.ensures.gives)
    (pending_left c.close.new.self.plan (source c.close.new.self.plan c.args.text.now)
    c.close.new.self.progress.pending c.close.new.self.closing.now c.close.new.self.progress.offset
    (omega (arith, ap (λ p. length (source p c.args.text.now)) c.close.ensures.plan, end, c.close.ensures.offset))
    c.close.ensures.closed)

pub returns-clause-all : goal.returns-clause-all
returns-clause-all c less =
    let run = c.run-filled.ensures in
    let done = run.finished (omega (arith, run.gives.within, c.if-filled-room.false)) in
    pending_left c.close.new.self.plan (source c.close.new.self.plan c.args.text.now)
    c.close.new.self.progress.pending c.close.new.self.closing.now c.close.new.self.progress.offset
    (omega (
      arith,
      ap (λ p. length (source p c.args.text.now)) c.close.ensures.plan,
      ap length
          c.source-source.ensures,
      done.1,
      c.close.ensures.offset,
    )) c.close.ensures.closed
    ∙ c.close.ensures.all (omega (arith, less, run.gives.size, behind_size c.run-filled.new.room c.run-filled.result))
