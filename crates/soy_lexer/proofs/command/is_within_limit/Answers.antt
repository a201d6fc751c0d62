use Rattle.std.proofs.Common.{arith, ◌*◌, ◌+◌, sym, ap, ◌∙◌}
use Rattle.std.specs.Str.{chars}
use Rattle.std.specs.Str.Iter.{chars_rest}
use Rattle.std.proofs.lemmas.List.{nil_from_length}
use Rattle.std.proofs.lemmas.Str.{chars_past_char, chars-nil, IsUtf8-past_char}
use Rattle.soy_lexer.specs.CommandSegment.{number_after}
use Rattle.soy_lexer.proofs.CommandSegments.{over_limit, within_limit}
use Rattle.soy_lexer.proofs.command.is_within_limit.Goals as goal

pub returns-then-number-gt-LARGEST_INT : goal.returns-then-number-gt-LARGEST_INT
returns-then-number-gt-LARGEST_INT c =
    let left = chars_past_char (chars_rest c.loop-digit.digit-iterator) (chars_rest c.next.new.self) c.in-Some.digit
    c.loop-digit.invariant.utf8 c.in-Some.ensures.steps.0 in
    over_limit c.loop-digit.number c.in-Some.digit _ (chars (chars_rest c.next.new.self)) (chars c.args.digits.now)
    c.loop-digit.invariant.number left (omega (arith, c.saturating_sub.ensures))

pub loop-digit-preserved : goal.loop-digit-preserved
loop-digit-preserved c =
    let left = chars_past_char (chars_rest c.loop-digit.digit-iterator) (chars_rest c.next.new.self) c.in-Some.digit
    c.loop-digit.invariant.utf8 c.in-Some.ensures.steps.0 in
    record {
      within = c.if-number-gt-LARGEST_INT.false;
      utf8 =
          IsUtf8-past_char (chars_rest c.loop-digit.digit-iterator) (chars_rest c.next.new.self) c.in-Some.digit
          c.loop-digit.invariant.utf8 c.in-Some.ensures.steps.0;
      number =
          ap (λ n. number_after (10 * c.loop-digit.number + n) (chars (chars_rest c.next.new.self)))
          c.saturating_sub.ensures ∙ ap (number_after c.loop-digit.number) (sym left) ∙ c.loop-digit.invariant.number;
    }

pub returns : goal.returns
returns c =
    within_limit c.loop-digit.number (chars (chars_rest c.loop-digit.digit-iterator)) (chars c.args.digits.now)
    c.loop-digit.invariant.number
    (ap chars (nil_from_length (chars_rest c.loop-digit.digit-iterator) c.in-None.ensures.steps.0.0) ∙ chars-nil)
    c.loop-digit.invariant.within
