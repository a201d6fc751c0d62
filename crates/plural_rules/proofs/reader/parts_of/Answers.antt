use Rattle.std.proofs.Common.{◌≡◌, length, arith, sym, ◌∙◌, ap}
use Rattle.std.specs.Str.Iter.{char_indices_rest, char_indices_offset}
use Rattle.std.proofs.lemmas.Str.{IsUtf8-past_char}
use Rattle.std.proofs.Math.ListN.{length-append}
use Rattle.plural_rules.specs.NextStep.{next_step}
use Rattle.plural_rules.proofs.Walk.{over_char, at_char, at_end, cut_at_end}
use Rattle.plural_rules.proofs.reader.parts_of.Goals as goal

pub returns-in-None-next : goal.returns-in-None-next
returns-in-None-next c =
    rw c.fault.ensures
    (at_char _ _ _ _ _ _ _ _ _ c.loop-at.invariant.utf8 c.in-Some.ensures.steps.1 c.in-Some.ensures.steps.0
    c.loop-at.invariant.is_at (ap (next_step c.loop-at.state) (sym c.of.ensures) ∙ sym c.in-None-next.ensures))

pub loop-at-preserved : goal.loop-at-preserved
loop-at-preserved c =
    let steps = c.in-Some.ensures.steps in
    let long = ap length steps.1 ∙ length-append _ (char_indices_rest c.next.new.self) in
    record {
      can_next = omega (arith, long, c.loop-at.invariant.can_next, steps.2);
      is_finite = tt;
      utf8 = IsUtf8-past_char _ _ _ c.loop-at.invariant.utf8 steps.1;
      length = omega (arith, long, c.loop-at.invariant.length, steps.2);
      is_at = over_char _ _ _ _ _ _ _ _ _ _ _ _ c.loop-at.invariant.utf8 steps.1 steps.2 c.loop-at.invariant.is_at
          (ap (next_step c.loop-at.state) (sym c.of.ensures) ∙ sym c.in-Some-next.ensures)
          c.in_ok-state-in-Some-next.ensures.0 c.in_ok-state-in-Some-next.ensures.1;
    }

pub returns-in_ok-append_part-in-Some-next-2 : goal.returns-in_ok-append_part-in-Some-next-2
returns-in_ok-append_part-in-Some-next-2 c =
    at_end _ _ _ _ _ _ _ _ c.in-None.ensures.steps.0 c.loop-at.invariant.is_at (sym c.in-Some-next-2.ensures)
    c.in_ok-append_part-in-Some-next-2.ensures.1

pub returns-in-None-next-2 : goal.returns-in-None-next-2
returns-in-None-next-2 c =
    let whole : length c.args.text.now ≡ char_indices_offset c.loop-at.at-iterator =
    omega (arith, c.loop-at.invariant.length, c.in-None.ensures.steps.0) in
    rw c.fault-in-None-next-2.ensures
    (cut_at_end _ _ _ _ _ _ _ c.in-None.ensures.steps.0 whole c.loop-at.invariant.is_at (sym c.in-None-next-2.ensures))
