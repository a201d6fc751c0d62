use Rattle.std.proofs.Common.{◌≡◌, ◌+◌, ◌-◌, sym, ap, ◌∙◌, arith}
use Rattle.std.specs.Str.{chars}
use Rattle.soy_base.specs.ByteLength.{byte_len}
use Rattle.soy_lexer.specs.Segment.{source_text}
use Rattle.soy_lexer.specs.ReadsSegment.{view_segment}
use Rattle.soy_lexer.specs.Chunks.{at_once}
use Rattle.soy_lexer.proofs.Reading.{fails_within, ended, stopped, offset_after}
use Rattle.soy_lexer.proofs.ChunksRead.{all_within, all_smaller, both_next}
use Rattle.soy_lexer.proofs.lexer.lexed.Goals as goal

pub overflow_add-result : goal.overflow_add-result
overflow_add-result c =
    let within = fails_within (chars c.args.text.now) (chars c.loop-rest.rest.now) c.loop-rest.mode c.loop-rest.lexer
    c.loop-rest.offset c.loop-rest.invariant.goes_on
    c.in-Err-Because.further (rw c.in-Err-Because.field-0-is at c.in-Err-Because.ensures) in
    omega (arith, within, c.requires)

pub returns-in-Err-Because : goal.returns-in-Err-Because
returns-in-Err-Because c =
    rw c.in-Err-Because.field-0-is
    (stopped (chars c.args.text.now) (chars c.loop-rest.rest.now) c.loop-rest.mode c.loop-rest.lexer c.loop-rest.offset
    c.loop-rest.invariant.goes_on
    c.in-Err-Because.further (sym c.is_empty.ensures ∙ c.loop-rest-test.true)
    (rw c.in-Err-Because.field-0-is at c.in-Err-Because.ensures))

pub overflow_sub-end : goal.overflow_sub-end
overflow_sub-end c =
    let after = offset_after (chars c.args.text.now) (chars c.loop-rest.rest.now) c.loop-rest.mode c.loop-rest.lexer
    c.loop-rest.offset c.loop-rest.invariant.goes_on
    (view_segment c.in-Ok.read.segment) (chars c.in-Ok.read.rest.now) c.in-Ok.ensures in
    omega (arith, after, c.byte_len.ensures, c.byte_len-length.ensures)

pub take-requires-clause-end : goal.take-requires-clause-end
take-requires-clause-end c =
    let after = offset_after (chars c.args.text.now) (chars c.loop-rest.rest.now) c.loop-rest.mode c.loop-rest.lexer
    c.loop-rest.offset c.loop-rest.invariant.goes_on
    (view_segment c.in-Ok.read.segment) (chars c.in-Ok.read.rest.now) c.in-Ok.ensures in
    omega (arith, after, c.byte_len.ensures, c.byte_len-length.ensures)

pub take_all-requires : goal.take_all-requires
take_all-requires c =
    let after = offset_after (chars c.args.text.now) (chars c.loop-rest.rest.now) c.loop-rest.mode c.loop-rest.lexer
    c.loop-rest.offset c.loop-rest.invariant.goes_on
    (view_segment c.in-Ok.read.segment) (chars c.in-Ok.read.rest.now) c.in-Ok.ensures in
    omega (arith, after, c.byte_len.ensures, c.byte_len-length.ensures, c.requires)

pub overflow_sub-offset : goal.overflow_sub-offset
overflow_sub-offset c =
    let within = all_within (chars c.args.text.now) (chars c.loop-rest.rest.now) c.loop-rest.mode c.loop-rest.lexer
    c.loop-rest.offset c.loop-rest.invariant.goes_on
    (view_segment c.in-Ok.read.segment) (chars c.in-Ok.read.rest.now) c.in-Ok.ensures c.after-mode.result in
    omega (
      arith,
      within,
      ap byte_len c.in_ok-after.ensures.takes.rest_is,
      c.byte_len-in-loop-rest.ensures,
      c.byte_len-length.ensures,
    )

pub loop-rest-smaller : goal.loop-rest-smaller
loop-rest-smaller c =
    rw c.in_ok-after.ensures.takes.rest_is
    (all_smaller (chars c.args.text.now) (chars c.loop-rest.rest.now) c.loop-rest.mode
    c.loop-rest.lexer c.loop-rest.offset c.loop-rest.invariant.goes_on
    (view_segment c.in-Ok.read.segment) (chars c.in-Ok.read.rest.now) c.in-Ok.ensures c.after-mode.result)

pub loop-rest-preserved : goal.loop-rest-preserved
loop-rest-preserved c =
    let mode = c.after-mode.result in
    let segment = view_segment c.in-Ok.read.segment in
    let rest = chars c.in-Ok.read.rest.now in
    let takes = c.in_ok-after.ensures.takes in
    let within = all_within (chars c.args.text.now) (chars c.loop-rest.rest.now) c.loop-rest.mode c.loop-rest.lexer
    c.loop-rest.offset c.loop-rest.invariant.goes_on segment rest c.in-Ok.ensures mode in
    let after = offset_after (chars c.args.text.now) (chars c.loop-rest.rest.now) c.loop-rest.mode c.loop-rest.lexer
    c.loop-rest.offset c.loop-rest.invariant.goes_on
    segment rest c.in-Ok.ensures in
    let start : c.byte_len-length.result - c.byte_len.result ≡ c.loop-rest.offset + byte_len (source_text segment) =
    omega (arith, after, c.byte_len.ensures, c.byte_len-length.ensures) in
    let offset : (c.loop-rest.offset + byte_len (source_text segment)) + byte_len (at_once mode rest)
    ≡ c.byte_len-length.result - c.byte_len-in-loop-rest.result =
    omega (arith, within, ap byte_len takes.rest_is, c.byte_len-in-loop-rest.ensures, c.byte_len-length.ensures)
    in
    record {
      utf8 = c.in_ok-after.ensures.utf8;
      goes_on = rw (← offset)
          (both_next (chars c.args.text.now) (chars c.loop-rest.rest.now) c.loop-rest.mode c.loop-rest.lexer
          c.loop-rest.offset c.loop-rest.invariant.goes_on segment rest c.in-Ok.ensures mode
          c.take.new.self c.take_all.new.self (chars c.in_ok-after.others.now) c.in_ok-after.after
          (sym c.is_empty.ensures ∙ c.loop-rest-test.true) c.after-mode.ensures c.in_ok-take.ensures
          (rw (← start) takes));
    }

pub returns : goal.returns
returns c =
    ended (chars c.args.text.now) (chars c.loop-rest.rest.now) c.loop-rest.mode c.loop-rest.lexer c.loop-rest.offset
    c.loop-rest.invariant.goes_on
    (sym c.is_empty.ensures ∙ c.loop-rest-test.false) c.in_ok-finish.field-0.items
    (c.in_ok-finish.ensures c.loop-rest.invariant.goes_on.tokens c.loop-rest.invariant.goes_on.run
    c.loop-rest.invariant.goes_on.reads)
