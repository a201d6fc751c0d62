use Rattle.std.proofs.Common.{◌∙◌, ap, length, arith, rules}
use Rattle.std.specs.Char.{is_whitespace}
use Rattle.std.specs.Str.{chars}
use Rattle.std.proofs.lemmas.Bool.Decides.{nat_tests}
use Rattle.std.proofs.lemmas.List.{nil_from_length}
use Rattle.std.proofs.lemmas.Str.{chars-nil}
use Rattle.bidi_text.proofs.Counted.{counted_end, counted_on, counted_start}
use Rattle.bidi_text.proofs.WordCuts.{fewer_on, is_solid, no_more_characters, some_characters}
use Rattle.bidi_text.proofs.words.estimate.Goals as goal

pub ascii_direction-requires : goal.ascii_direction-requires
ascii_direction-requires c = rw c.if-is_ascii.true at c.is_ascii.ensures.cases

pub loop-rest-init : goal.loop-rest-init
loop-rest-init c = record {
  utf8 = c.utf8.text;
  counted = counted_start (chars c.args.text.now) (length c.args.text.now)
      (no_more_characters c.args.text.now c.utf8.text);
}

pub loop-rest-preserved : goal.loop-rest-preserved
loop-rest-preserved c =
    let some = some_characters c.loop-rest.rest.now c.loop-rest.invariant.utf8
    (grind (arith, nat_tests, c.is_empty.ensures, c.loop-rest-test.true)) in
    record {
      utf8 = c.split_while-in-loop-rest.ensures.utf8;
      counted = counted_on (chars c.split_while.result.0.now) (chars c.split_while.result.1.now)
          (chars c.split_while-in-loop-rest.result.1.now) some c.loop-rest.invariant.counted
          (c.split_while.ensures.prefix is_solid (λ x b given. search rules))
          (c.split_while.ensures.rest is_solid (λ x b given. search rules))
          (c.split_while-in-loop-rest.ensures.rest is_whitespace (λ x b given. search rules))
          c.count.ensures.right_to_left c.count.ensures.total c.count.ensures.weak;
    }

pub loop-rest-smaller : goal.loop-rest-smaller
loop-rest-smaller c =
    let some = some_characters c.loop-rest.rest.now c.loop-rest.invariant.utf8
    (grind (arith, nat_tests, c.is_empty.ensures, c.loop-rest-test.true)) in
    fewer_on (chars c.loop-rest.rest.now) (chars c.split_while.result.1.now)
    (chars c.split_while-in-loop-rest.result.1.now) some
    (c.split_while.ensures.rest is_solid (λ x b given. search rules))
    (c.split_while-in-loop-rest.ensures.rest is_whitespace (λ x b given. search rules))

pub count-requires : goal.count-requires
count-requires c =
    let some = some_characters c.loop-rest.rest.now c.loop-rest.invariant.utf8
    (grind (arith, nat_tests, c.is_empty.ensures, c.loop-rest-test.true)) in
    record {
      ordered = c.loop-rest.invariant.counted.ordered;
      room = omega (arith, c.loop-rest.invariant.counted.fits, some);
    }

pub returns : goal.returns
returns c =
    let none = nil_from_length c.loop-rest.rest.now
    (grind (arith, nat_tests, c.is_empty.ensures, c.loop-rest-test.false)) in
    c.direction.ensures
    ∙ counted_end _ _ _ _ _ _ c.args.context (ap chars none ∙ chars-nil) c.loop-rest.invariant.counted
