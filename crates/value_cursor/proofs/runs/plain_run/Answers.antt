use Rattle.std.proofs.Common.{rules}
use Rattle.std.specs.Str.{chars}
use Rattle.value_cursor.specs.Cleaned.{is_clean}
use Rattle.value_cursor.proofs.PlainRuns.{escaped_run, others_within, rest_utf8, run_boundary, run_plain}
use Rattle.value_cursor.proofs.PlainRuns.{run_utf8, run_whole}
use Rattle.value_cursor.proofs.runs.plain_run.Goals as goal

pub overflow_sub-plain : goal.overflow_sub-plain
overflow_sub-plain c =
    let window = c.clipped.ensures.prefix in
    let plain = c.plain_prefix.ensures in
    others_within c.args.plan.now c.args.text.now c.clipped.result.now c.plain_prefix.result.0.now
    c.split_while.result.1.now c.plain_prefix.result.1.now window.0 (chars c.clipped.result.now)
    c.utf8.text plain.prefix_utf8 c.split_while.ensures.utf8 plain.rest_utf8 window.2 window.1 plain.whole
    plain.prefix (c.split_while.ensures.rest is_clean (λ x b given. search rules))

pub split_at-requires : goal.split_at-requires
split_at-requires c =
    let window = c.clipped.ensures.prefix in
    let plain = c.plain_prefix.ensures in
    run_boundary c.args.plan.now c.args.text.now c.clipped.result.now c.plain_prefix.result.0.now
    c.split_while.result.1.now c.plain_prefix.result.1.now window.0 (chars c.clipped.result.now)
    c.utf8.text plain.prefix_utf8 c.split_while.ensures.utf8 plain.rest_utf8 window.2 window.1 plain.whole
    plain.prefix (c.split_while.ensures.rest is_clean (λ x b given. search rules))

pub returns-in-Nothing-clause-plain : goal.returns-in-Nothing-clause-plain
returns-in-Nothing-clause-plain c =
    escaped_run c.args.plan.now (chars c.plain_bytes.result.0.now) c.in-Nothing.is c.plain_bytes.ensures.plain

pub returns-in-Unpaired : goal.returns-in-Unpaired
returns-in-Unpaired c =
    let window = c.clipped.ensures.prefix in
    let plain = c.plain_prefix.ensures in
    let others = c.split_while.ensures.rest is_clean (λ x b given. search rules) in
    record {
      whole = run_whole c.args.plan.now c.args.text.now c.clipped.result.now c.plain_prefix.result.0.now
          c.split_while.result.1.now c.plain_prefix.result.1.now window.0 (chars c.clipped.result.now)
          c.utf8.text plain.prefix_utf8 c.split_while.ensures.utf8 plain.rest_utf8 window.2 window.1 plain.whole
          plain.prefix others c.split_at.result.0.now c.split_at.result.1.now c.split_at.ensures.front
          c.split_at.ensures.back;
      run_utf8 = run_utf8 c.args.plan.now c.args.text.now c.clipped.result.now c.plain_prefix.result.0.now
          c.split_while.result.1.now c.plain_prefix.result.1.now window.0 (chars c.clipped.result.now)
          c.utf8.text plain.prefix_utf8 c.split_while.ensures.utf8 plain.rest_utf8 window.2 window.1 plain.whole
          plain.prefix others c.split_at.result.0.now c.split_at.result.1.now c.split_at.ensures.front
          c.split_at.ensures.back;
      rest_utf8 = rest_utf8 c.args.plan.now c.args.text.now c.clipped.result.now
          c.plain_prefix.result.0.now c.split_while.result.1.now c.plain_prefix.result.1.now
          window.0 (chars c.clipped.result.now)
          c.utf8.text plain.prefix_utf8 c.split_while.ensures.utf8 plain.rest_utf8 window.2 window.1 plain.whole
          plain.prefix others c.split_at.result.0.now c.split_at.result.1.now c.split_at.ensures.front
          c.split_at.ensures.back;
      plain = run_plain c.args.plan.now c.args.text.now c.clipped.result.now c.plain_prefix.result.0.now
          c.split_while.result.1.now c.plain_prefix.result.1.now window.0 (chars c.clipped.result.now)
          c.utf8.text plain.prefix_utf8 c.split_while.ensures.utf8 plain.rest_utf8 window.2 window.1 plain.whole
          plain.prefix others c.split_at.result.0.now c.split_at.result.1.now c.split_at.ensures.front
          c.split_at.ensures.back;
    }
