use Rattle.std.proofs.Common.{◌+◌, length, sym, arith}
use Rattle.value_cursor.proofs.Forms.{no_character, past}
use Rattle.value_cursor.proofs.LenSoFar.{all_counted, char_counted, none_counted, run_counted}
use Rattle.value_cursor.proofs.plan.Plan.len_by_runs.Goals as goal

pub loop-offset-init : goal.loop-offset-init
loop-offset-init c = none_counted c.args.self.now c.args.source.now c.utf8.source

pub loop-offset-preserved-in-Some : goal.loop-offset-preserved-in-Some
loop-offset-preserved-in-Some c =
    let so_far = c.loop-offset.invariant in
    let run = c.plain_run.ensures in
    let counted = run_counted so_far c.split_at.result.1.now c.plain_run.result.0.now c.plain_run.result.1.now
    c.utf8.source c.split_at.ensures.back run.whole run.run_utf8 run.rest_utf8 run.plain in
    char_counted counted c.plain_run.result.1.now c.in-Some.field-0-1.now c.in-Some.c c.len_utf8-offset.result
    c.char_len.result c.utf8.source
    (sym (past c.args.self.now c.args.source.now c.split_at.result.1.now c.loop-offset.offset c.utf8.source
    so_far.boundary c.split_at.ensures.back c.plain_run.result.0.now c.plain_run.result.1.now run.whole
    run.run_utf8 run.rest_utf8))
    c.in-Some.ensures c.len_utf8-offset.ensures.value c.char_len.ensures (omega (arith, c.char_len.type_inv))

pub loop-offset-smaller : goal.loop-offset-smaller
loop-offset-smaller c =
    let so_far = c.loop-offset.invariant in
    let run = c.plain_run.ensures in
    let counted = run_counted so_far c.split_at.result.1.now c.plain_run.result.0.now c.plain_run.result.1.now
    c.utf8.source c.split_at.ensures.back run.whole run.run_utf8 run.rest_utf8 run.plain in
    omega (
      arith,
      c.loop-offset-test.true,
      no_character c.args.self.now c.args.source.now c.plain_run.result.1.now
          (c.loop-offset.offset + length c.plain_run.result.0.now) c.utf8.source counted.boundary
          (sym (past c.args.self.now c.args.source.now c.split_at.result.1.now c.loop-offset.offset c.utf8.source
          so_far.boundary c.split_at.ensures.back c.plain_run.result.0.now c.plain_run.result.1.now run.whole
          run.run_utf8 run.rest_utf8))
          c.in_default.ensures,
    )

pub loop-offset-preserved : goal.loop-offset-preserved
loop-offset-preserved c =
    let run = c.plain_run.ensures in
    run_counted c.loop-offset.invariant c.split_at.result.1.now c.plain_run.result.0.now c.plain_run.result.1.now
    c.utf8.source c.split_at.ensures.back run.whole run.run_utf8 run.rest_utf8 run.plain

pub returns-clause-count : goal.returns-clause-count
returns-clause-count c = all_counted c.loop-offset.invariant (omega (arith, c.loop-offset-test.false))
