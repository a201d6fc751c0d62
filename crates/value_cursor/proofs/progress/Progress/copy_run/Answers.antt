use Rattle.std.proofs.Common.{◌≡◌, ◌+◌, ◌≤◌, ◌∙◌, ◌++◌, List, ℕ, ap, append_assoc, drop, length, length-append, refl}
use Rattle.std.proofs.Common.{sym, arith}
use Rattle.std.proofs.lemmas.Str.{IsUtf8-append}
use Rattle.value_cursor.specs.BytesLeft.{bytes_from}
use Rattle.value_cursor.proofs.Forms.{run_boundary, run_bytes}
use Rattle.value_cursor.proofs.Givings.{gives_prefix, gives_same}
use Rattle.value_cursor.proofs.progress.Progress.copy_run.Goals as goal

pub returns-clause-gives : goal.returns-clause-gives
returns-clause-gives c =
    let plan = c.args.plan.now in
    let source = c.args.source.now in
    let offset = c.args.self.now.offset in
    let run = c.plain_run.result.0.now in
    let clip = c.clipped.ensures.prefix in
    let split = c.plain_run.ensures in
    let others : List ℕ = c.plain_run.result.1.now ++ clip.0 in
    let whole : c.split_at.result.1.now ≡ run ++ others = clip.1 ∙ ap (λ l. l ++ clip.0) split.whole
    ∙ append_assoc run c.plain_run.result.1.now clip.0 in
    let bytes = run_bytes plan source c.split_at.result.1.now offset c.utf8.source c.requires.boundary
    c.split_at.ensures.back run others whole split.run_utf8
    (IsUtf8-append c.plain_run.result.1.now clip.0 split.rest_utf8 clip.2) split.plain in
    let within : length run ≤ length c.args.room.now =
    omega (arith, ap length split.whole, length-append run c.plain_run.result.1.now, c.clipped.ensures.within) in
    gives_same _
    (gives_prefix run (c.args.self.now.pending ++ bytes_from plan source (offset + length run)) c.args.room.now _
    (length run) refl within
    (ap (λ l. l ++ drop (length run) c.args.room.now) (c.copy_from_slice.ensures.after ∙ c.as_bytes.ensures.value)))
    (ap (λ l. l ++ bytes_from plan source offset) c.requires.none_pending ∙ bytes
    ∙ ap (λ l. run ++ (l ++ bytes_from plan source (offset + length run))) (sym c.requires.none_pending))

pub returns-clause-boundary : goal.returns-clause-boundary
returns-clause-boundary c =
    let clip = c.clipped.ensures.prefix in
    let split = c.plain_run.ensures in
    run_boundary c.args.plan.now c.args.source.now c.split_at.result.1.now c.args.self.now.offset c.utf8.source
    c.requires.boundary c.split_at.ensures.back
    c.plain_run.result.0.now (c.plain_run.result.1.now ++ clip.0)
    (clip.1 ∙ ap (λ l. l ++ clip.0) split.whole ∙ append_assoc c.plain_run.result.0.now c.plain_run.result.1.now
    clip.0) split.run_utf8
    (IsUtf8-append c.plain_run.result.1.now clip.0 split.rest_utf8 clip.2)
