use Rattle.std.proofs.Common.{◌≡◌, ◌+◌, ◌*◌, ◌-◌, ◌≤◌, drop, take, length, map}
use Rattle.soy_meaning.specs.Walks.PageMachine.{page_machine}
use Rattle.soy_meaning.specs.Paths.Plan.{in_turn}
use Rattle.soy_meaning.specs.Walks.Walk.{walk, walked, turns}
use Rattle.html_context.specs.Kept.{AllKept}
use Rattle.html_context.specs.RowPlans.{plan_below}
use Rattle.html_context.specs.Walks.{view_site}
use Rattle.html_context.proofs.Arms.{SomeArms}
use Rattle.html_context.proofs.walker.Walker.+walking.Given as goal

abbrev pub invariant-in_turn-loop-number : goal.invariant-in_turn-loop-number
invariant-in_turn-loop-number l = record {
  walk : walk page_machine (in_turn (map (λ n. plan_below l.self.rows.now l.limit n) (drop l.number-index l.numbers)))
      (walked l.now.items l.places.items)
      ≡ walk page_machine (in_turn (map (λ n. plan_below l.self.rows.now l.limit n) l.numbers))
      (walked l.fn.states.items l.initial.places.items);
  kept : AllKept l.self.rows.now l.memo;
}

abbrev pub invariant-meet-loop-number : goal.invariant-meet-loop-number
invariant-meet-loop-number l = record {
  arms : SomeArms (view_site l.at) (λ n. plan_below l.self.rows.now l.limit n) l.numbers l.number-index l.before
      l.initial.places.items l.joined.items l.places.items;
  kept : AllKept l.self.rows.now l.memo;
}

abbrev pub invariant-looped-loop-turn : goal.invariant-looped-loop-turn
invariant-looped-loop-turn l = record {
  turns : turns page_machine (λ v. walk page_machine (plan_below l.self.rows.now l.limit l.body) v) (view_site l.at)
      (17 - l.turn) (walked l.head.items (take l.old_length l.places.items))
      ≡ turns page_machine (λ v. walk page_machine (plan_below l.self.rows.now l.limit l.body) v) (view_site l.at) 17
      (walked l.fn.states.items l.initial.places.items);
  within : l.old_length ≤ length l.places.items;
  kept : AllKept l.self.rows.now l.memo;
}

abbrev pub decreases-row : goal.decreases-row
decreases-row l = 8 * l.limit

abbrev pub decreases-one : goal.decreases-one
decreases-one l = 8 * l.number + 6

abbrev pub decreases-in_turn : goal.decreases-in_turn
decreases-in_turn l = 8 * l.limit + 1

abbrev pub decreases-arm : goal.decreases-arm
decreases-arm l = 8 * l.limit + 1

abbrev pub decreases-meet : goal.decreases-meet
decreases-meet l = 8 * l.limit + 2

abbrev pub decreases-new_turn : goal.decreases-new_turn
decreases-new_turn l = 8 * l.limit + 1

abbrev pub decreases-turn : goal.decreases-turn
decreases-turn l = 8 * l.limit + 2

abbrev pub decreases-looped : goal.decreases-looped
decreases-looped l = 8 * l.limit + 3

abbrev pub decreases-frame : goal.decreases-frame
decreases-frame l = 8 * l.limit + 1
