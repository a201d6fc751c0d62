use Rattle.std.proofs.Common.{sym, ap, ◌∙◌}
use Rattle.std.specs.Str.{chars}
use Rattle.std.specs.Str.Iter.{chars_rest}
use Rattle.std.proofs.lemmas.List.{nil_from_length}
use Rattle.std.proofs.lemmas.Str.{chars_past_char, chars-nil, IsUtf8-past_char}
use Rattle.soy_parser.specs.Heads.{digits_value}
use Rattle.soy_parser.proofs.Ints.{digits_stop, digits_step, digits_end, digits_too_large}
use Rattle.soy_parser.proofs.values.digits_value.Goals as goal

pub returns-then-not-is_ascii_digit : goal.returns-then-not-is_ascii_digit
returns-then-not-is_ascii_digit c =
    let left = chars_past_char (chars_rest c.loop-c.c-iterator) (chars_rest c.next.new.self) c.in-Some.c
    c.loop-c.invariant.utf8 c.in-Some.ensures.steps.0 in
    sym (digits_stop c.loop-c.value c.in-Some.c (chars (chars_rest c.next.new.self))
    (sym c.if-not-is_ascii_digit.ensures.value))
    ∙ ap (digits_value c.loop-c.value) (sym left) ∙ c.loop-c.invariant.same

pub returns-then-value-gt-LARGEST_INT : goal.returns-then-value-gt-LARGEST_INT
returns-then-value-gt-LARGEST_INT c =
    let left = chars_past_char (chars_rest c.loop-c.c-iterator) (chars_rest c.next.new.self) c.in-Some.c
    c.loop-c.invariant.utf8 c.in-Some.ensures.steps.0 in
    sym (digits_too_large _ (chars (chars_rest c.next.new.self)) c.if-value-gt-LARGEST_INT.true)
    ∙ sym (digits_step c.loop-c.value c.in-Some.c (chars (chars_rest c.next.new.self))
    (sym c.if-not-is_ascii_digit.ensures.value))
    ∙ ap (digits_value c.loop-c.value) (sym left) ∙ c.loop-c.invariant.same

pub loop-c-preserved : goal.loop-c-preserved
loop-c-preserved c =
    let left = chars_past_char (chars_rest c.loop-c.c-iterator) (chars_rest c.next.new.self) c.in-Some.c
    c.loop-c.invariant.utf8 c.in-Some.ensures.steps.0 in
    record {
      utf8 =
          IsUtf8-past_char (chars_rest c.loop-c.c-iterator) (chars_rest c.next.new.self) c.in-Some.c
          c.loop-c.invariant.utf8 c.in-Some.ensures.steps.0;
      within = c.if-value-gt-LARGEST_INT.false;
      same =
          sym (digits_step c.loop-c.value c.in-Some.c (chars (chars_rest c.next.new.self))
          (sym c.if-not-is_ascii_digit.ensures.value))
          ∙ ap (digits_value c.loop-c.value) (sym left) ∙ c.loop-c.invariant.same;
    }

pub returns : goal.returns
returns c =
    sym (digits_end c.loop-c.value c.loop-c.invariant.within)
    ∙ ap (digits_value c.loop-c.value)
    (sym (ap chars (nil_from_length (chars_rest c.loop-c.c-iterator) c.in-None.ensures.steps.0.0) ∙ chars-nil))
    ∙ c.loop-c.invariant.same
