use Rattle.std.proofs.Common.{◌∙◌, ap}
use Rattle.std.specs.Str.{chars}
use Rattle.std.proofs.lemmas.Str.{IsUtf8-nil}
use Rattle.esc_table.proofs.PassedSoFar.{character_passed, cut_at, none_passed, past_character_shorter, prefix_cut}
use Rattle.esc_table.proofs.PassedSoFar.{run_passed, whole_prefix}
use Rattle.esc_table.proofs.table.Table.plain_prefix.Goals as goal

pub loop-rest-init : goal.loop-rest-init
loop-rest-init g c = none_passed _ c.args.text.now c.utf8.text IsUtf8-nil

pub loop-rest-smaller : goal.loop-rest-smaller
loop-rest-smaller g c =
    past_character_shorter c.loop-rest.rest.now _ _ c.in-Some.after.now c.in-Some.ensures.0 c.plain_run.ensures.whole
    c.in-Some.ensures.2

pub loop-rest-preserved : goal.loop-rest-preserved
loop-rest-preserved g c =
    let run = c.plain_run.ensures in
    let passed = run_passed _ _ _ c.loop-rest.invariant c.plain_run.result.0.now c.plain_run.result.1.now run.run_utf8
    run.rest_utf8 run.whole run.plain in
    let next = c.in-Some.ensures in
    character_passed _ _ _ passed next.0 c.in-Some.after.now next.3 next.2 next.1

pub split_at-requires : goal.split_at-requires
split_at-requires g c =
    let run = c.plain_run.ensures in
    cut_at _ _ _ (run_passed _ _ _ c.loop-rest.invariant c.plain_run.result.0.now c.plain_run.result.1.now
    run.run_utf8 run.rest_utf8 run.whole run.plain)

pub returns-in-None-clause-prefix : goal.returns-in-None-clause-prefix
returns-in-None-clause-prefix g c =
    let run = c.plain_run.ensures in
    let passed = run_passed _ _ _ c.loop-rest.invariant c.plain_run.result.0.now c.plain_run.result.1.now run.run_utf8
    run.rest_utf8 run.whole run.plain in
    ap chars (c.split_at.ensures.front ∙ prefix_cut _ _ _ passed) ∙ whole_prefix _ _ _ passed c.in-None.ensures
