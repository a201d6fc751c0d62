use Rattle.std.proofs.Common.{◌≡◌, ℕ, ◌+◌, ◌≤◌, ◌<◌, List, refl, sym, ap, map, subst, ◌∙◌, arith, get_or, length}
use Rattle.std.specs.Vec.{vec_len}
use Rattle.html_state.specs.declared.row.State.{State}
use Rattle.soy_meaning.specs.Walks.PageMachine.{page_machine}
use Rattle.soy_meaning.specs.Walks.States.{joined_states}
use Rattle.html_context.specs.Covers.{Covers}
use Rattle.html_context.specs.RowPlans.{plan_below}
use Rattle.html_context.specs.Walks.{view_site}
use Rattle.html_context.proofs.Covering.{arms_end, arms_more, isnt_empty}
use Rattle.html_context.proofs.LoopHeads.{head_grown}
use Rattle.html_context.proofs.cover.Cover.+covering.Goals as goal

pub grown-returns-then-len-count-clause-head : goal.grown-returns-then-len-count-clause-head
grown-returns-then-len-count-clause-head t c =
    let few : length c.join.new.states.items ≤ 16 = omega arith in
    let long : length c.join.new.states.items ≡ length c.loop-turn.around.items = omega arith in
    head_grown c.args.self.now.rows.now c.args.limit c.args.body c.loop-turn.around.items c.in_ok-before.before.items
    c.in_ok-after.after.items c.new-places.result.items
    (record { body = c.args.body; states = c.join.new.states; places = c.row.new.places }) c.requires.below refl
    (c.in_ok-join.ensures ∙ ap (λ l. joined_states page_machine c.loop-turn.around.items l)
    c.deref-in-loop-turn.ensures.value) (c.in_ok-before.ensures ∙ c.deref.ensures.value) c.new-places.ensures.items
    c.in_ok-after.ensures.covers long few

pub meet-loop-number-preserved : goal.meet-loop-number-preserved
meet-loop-number-preserved t c =
    let few : length c.join.new.states.items ≤ 16 = omega arith in
    record {
      reached = arms_more (view_site c.args.at) (λ n. plan_below c.args.self.now.rows.now c.args.limit n)
          c.args.numbers.now c.args.before.now c.args.places.now.items c.loop-number.number-index
          c.loop-number.joined.items c.in_ok-after.after.items c.join.new.states.items c.loop-number.places.items
          c.row.new.places.items c.loop-number-test.true c.loop-number.invariant.reached
          (subst (λ (l : List State). Covers (plan_below c.args.self.now.rows.now c.args.limit
          (get_or c.args.numbers.now c.loop-number.number-index 0)) l c.loop-number.places.items
          c.in_ok-after.after.items c.row.new.places.items) c.in_ok-copied.ensures c.in_ok-after.ensures.covers)
          (c.in_ok-join.ensures ∙ ap (λ l. joined_states page_machine c.loop-number.joined.items l)
          c.deref.ensures.value) few;
      kept = c.in_ok-after.ensures.kept;
    }

pub meet-returns-clause-covers : goal.meet-returns-clause-covers
meet-returns-clause-covers t c =
    let left : 0 < vec_len c.loop-number.joined = isnt_empty (vec_len c.loop-number.joined)
    (sym c.is_empty.ensures ∙ c.if-is_empty.false) in
    let some : 0 < length c.loop-number.joined.items = omega (arith, left) in
    arms_end (view_site c.args.at) (λ n. plan_below c.args.self.now.rows.now c.args.limit n) c.args.numbers.now
    c.args.before.now c.args.places.now.items c.loop-number.number-index c.loop-number.joined.items
    c.loop-number.places.items c.loop-number-test.false c.loop-number.invariant.reached some
