use Rattle.std.proofs.Common.{◌≡◌, ℕ, ◌+◌, ◌-◌, ◌<◌, ◌≤◌, List, sym, ap, map, subst, ◌∙◌, arith, length}
use Rattle.std.proofs.lemmas.Result.{err_from_is_err_and}
use Rattle.soy_base.specs.declared.place.Place.{Place}
use Rattle.html_state.specs.declared.row.State.{State}
use Rattle.soy_meaning.specs.Walks.PageMachine.{page_machine}
use Rattle.soy_meaning.specs.Paths.Plan.{arms_meet}
use Rattle.soy_meaning.specs.Walks.States.{joined_states}
use Rattle.soy_meaning.specs.Walks.Walk.{turns, walk, walked, within_limit}
use Rattle.html_context.specs.RowPlans.{plan_below}
use Rattle.html_context.specs.Walks.{Walks, view_site}
use Rattle.html_context.proofs.Arms.{SomeArms, meet_ends, meet_fails, meet_more}
use Rattle.html_context.proofs.Turns.{looped_again, looped_fails, looped_fits, looped_full, looped_stops, turns_none}
use Rattle.html_context.proofs.walker.Walker.+walking.Goals as goal

pub looped-returns-in_err-after-clause-walk : goal.looped-returns-in_err-after-clause-walk
looped-returns-in_err-after-clause-walk t c =
    let p = err_from_is_err_and c.from_residual.result c.from_residual.ensures.1 in
    rw (p.1, p.2)
    (looped_fails (plan_below c.args.self.now.rows.now c.args.limit c.args.body) (view_site c.args.at) c.loop-turn.turn
    c.len-old_length.result c.loop-turn.head.items c.loop-turn.places.items
    (turns page_machine (λ v. walk page_machine (plan_below c.args.self.now.rows.now c.args.limit c.args.body) v)
    (view_site c.args.at) 17 (walked c.args.states.items c.args.places.now.items))
    c.deref.result.now c.truncate.new.self.items
    (c.loop-turn-test.true, c.loop-turn.invariant.turns, c.deref.ensures.value, c.truncate.ensures.items)
    c.turn.new.places.items c.turn.new.places.items c.in_err-after.field-0.0 c.in_err-after.ensures.walk)

pub looped-returns-then-len-gt16-clause-walk : goal.looped-returns-then-len-gt16-clause-walk
looped-returns-then-len-gt16-clause-walk t c =
    let big : 16 < length c.join.new.states.items = omega arith in
    rw c.stop.ensures
    (looped_full (plan_below c.args.self.now.rows.now c.args.limit c.args.body) (view_site c.args.at) c.loop-turn.turn
    c.len-old_length.result c.loop-turn.head.items c.loop-turn.places.items
    (turns page_machine (λ v. walk page_machine (plan_below c.args.self.now.rows.now c.args.limit c.args.body) v)
    (view_site c.args.at) 17 (walked c.args.states.items c.args.places.now.items))
    c.deref.result.now c.truncate.new.self.items
    (c.loop-turn-test.true, c.loop-turn.invariant.turns, c.deref.ensures.value, c.truncate.ensures.items)
    c.in_ok-after.after.items c.join.new.states.items c.turn.new.places.items c.in_ok-after.ensures.walk
    (c.in_ok-join.ensures ∙ ap (λ l. joined_states page_machine c.loop-turn.head.items l)
    c.deref-in-loop-turn.ensures.value) big)

pub looped-returns-then-len-count-clause-walk : goal.looped-returns-then-len-count-clause-walk
looped-returns-then-len-count-clause-walk t c =
    let small : length c.join.new.states.items ≤ 16 = omega arith in
    let same : length c.join.new.states.items ≡ length c.loop-turn.head.items = omega arith in
    looped_stops (plan_below c.args.self.now.rows.now c.args.limit c.args.body) (view_site c.args.at) c.loop-turn.turn
    c.len-old_length.result c.loop-turn.head.items c.loop-turn.places.items
    (turns page_machine (λ v. walk page_machine (plan_below c.args.self.now.rows.now c.args.limit c.args.body) v)
    (view_site c.args.at) 17 (walked c.args.states.items c.args.places.now.items))
    c.deref.result.now c.truncate.new.self.items
    (c.loop-turn-test.true, c.loop-turn.invariant.turns, c.deref.ensures.value, c.truncate.ensures.items)
    c.in_ok-after.after.items c.join.new.states.items c.turn.new.places.items c.in_ok-after.ensures.walk
    (c.in_ok-join.ensures ∙ ap (λ l. joined_states page_machine c.loop-turn.head.items l)
    c.deref-in-loop-turn.ensures.value) small same

pub looped-loop-turn-preserved : goal.looped-loop-turn-preserved
looped-loop-turn-preserved t c =
    let small : length c.join.new.states.items ≤ 16 = omega arith in
    let more : length c.join.new.states.items ≡ length c.loop-turn.head.items → ⊥ = λ e. omega arith in
    record {
      turns = looped_again (plan_below c.args.self.now.rows.now c.args.limit c.args.body) (view_site c.args.at)
          c.loop-turn.turn c.len-old_length.result c.loop-turn.head.items c.loop-turn.places.items
          (turns page_machine (λ v. walk page_machine (plan_below c.args.self.now.rows.now c.args.limit c.args.body) v)
          (view_site c.args.at) 17 (walked c.args.states.items c.args.places.now.items))
          c.deref.result.now c.truncate.new.self.items
          (c.loop-turn-test.true, c.loop-turn.invariant.turns, c.deref.ensures.value, c.truncate.ensures.items)
          c.loop-turn.invariant.within c.in_ok-after.after.items c.join.new.states.items c.turn.new.places.items
          c.in_ok-after.ensures.walk
          (c.in_ok-join.ensures ∙ ap (λ l. joined_states page_machine c.loop-turn.head.items l)
          c.deref-in-loop-turn.ensures.value) small more;
      within = looped_fits (plan_below c.args.self.now.rows.now c.args.limit c.args.body) (view_site c.args.at)
          c.loop-turn.turn c.len-old_length.result c.loop-turn.head.items c.loop-turn.places.items
          (turns page_machine (λ v. walk page_machine (plan_below c.args.self.now.rows.now c.args.limit c.args.body) v)
          (view_site c.args.at) 17 (walked c.args.states.items c.args.places.now.items))
          c.deref.result.now c.truncate.new.self.items
          (c.loop-turn-test.true, c.loop-turn.invariant.turns, c.deref.ensures.value, c.truncate.ensures.items)
          c.loop-turn.invariant.within c.in_ok-after.after.items c.turn.new.places.items c.in_ok-after.ensures.walk;
      kept = c.in_ok-after.ensures.kept;
    }

pub looped-returns-clause-walk : goal.looped-returns-clause-walk
looped-returns-clause-walk t c =
    let done : 17 - c.loop-turn.turn ≡ 0 = omega arith in
    rw c.stop-2.ensures
    (sym c.loop-turn.invariant.turns
    ∙ turns_none page_machine (λ v. walk page_machine (plan_below c.args.self.now.rows.now c.args.limit c.args.body) v)
    (view_site c.args.at) (17 - c.loop-turn.turn) _ done)

pub meet-returns-in_err-joined-clause-walk : goal.meet-returns-in_err-joined-clause-walk
meet-returns-in_err-joined-clause-walk t c =
    let p = err_from_is_err_and c.from_residual.result c.from_residual.ensures.1 in
    rw (p.1, p.2)
    (meet_fails (view_site c.args.at) (λ n. plan_below c.args.self.now.rows.now c.args.limit n) c.args.numbers.now
    c.loop-number.number-index c.args.before.now c.args.places.now.items c.loop-number.joined.items
    c.loop-number.places.items
    c.loop-number-test.true c.loop-number.invariant.arms c.arm.new.places.items c.arm.new.places.items
    c.in_err-joined.field-0.0 c.in_err-joined.ensures.walk)

pub meet-returns-clause-walk : goal.meet-returns-clause-walk
meet-returns-clause-walk t c =
    meet_ends (view_site c.args.at) (λ n. plan_below c.args.self.now.rows.now c.args.limit n) c.args.numbers.now
    c.loop-number.number-index c.args.before.now c.args.places.now.items c.loop-number.joined.items
    c.loop-number.places.items
    c.loop-number-test.false c.loop-number.invariant.arms c.within_limit.result
    (subst (λ (l : List Place). Walks (within_limit page_machine (view_site c.args.at)
    (walked c.loop-number.joined.items l)) l c.within_limit.result) c.deref.ensures.value c.within_limit.ensures)

pub one-returns-in-Meet-clause-walk : goal.one-returns-in-Meet-clause-walk
one-returns-in-Meet-clause-walk t c =
    rw c.in-Meet.is
    (subst (λ (l : List State). Walks (walk page_machine (arms_meet (view_site c.in-Meet.at)
    (map (λ n. plan_below c.args.self.now.rows.now c.args.number n) c.in-Meet.numbers))
    (walked l c.args.places.now.items)) c.meet.new.places.items c.meet.result) c.deref-in-Meet.ensures.value
    (subst (λ (l : List ℕ). Walks (walk page_machine (arms_meet (view_site c.in-Meet.at)
    (map (λ n. plan_below c.args.self.now.rows.now c.args.number n) l))
    (walked c.deref-in-Meet.result.now c.args.places.now.items)) c.meet.new.places.items c.meet.result)
    c.items-in-Meet.ensures c.meet.ensures.walk))

pub meet-loop-number-preserved : goal.meet-loop-number-preserved
meet-loop-number-preserved t c = record {
  arms = subst (λ (l : List State). SomeArms (view_site c.args.at)
      (λ n. plan_below c.args.self.now.rows.now c.args.limit n) c.args.numbers.now
      (c.loop-number.number-index + 1) c.args.before.now c.args.places.now.items l c.arm.new.places.items)
      (sym c.truncate.ensures.items)
      (meet_more (view_site c.args.at) (λ n. plan_below c.args.self.now.rows.now c.args.limit n) c.args.numbers.now
      c.loop-number.number-index c.args.before.now c.args.places.now.items c.loop-number.joined.items
      c.loop-number.places.items c.loop-number-test.true c.loop-number.invariant.arms c.in_ok-joined.joined.items
      c.arm.new.places.items c.in_ok-joined.ensures.walk);
  kept = c.in_ok-joined.ensures.kept;
}
