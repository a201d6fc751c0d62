use Rattle.std.proofs.Common.{◌≡◌, drop, map}
use Rattle.soy_meaning.specs.Walks.PageMachine.{page_machine}
use Rattle.soy_meaning.specs.Paths.Plan.{in_turn}
use Rattle.soy_meaning.specs.Walks.Walk.{walk, walked}
use Rattle.html_context.specs.Kept.{AllKept}
use Rattle.html_context.specs.RowPlans.{plan_below}
use Rattle.html_context.proofs.walker.Walker.frames.Given as goal

abbrev pub invariant-loop-number : goal.invariant-loop-number
invariant-loop-number l = record {
  walk : walk page_machine (in_turn (map (λ n. plan_below l.self.rows.now l.limit n) (drop l.number-index l.numbers)))
      (walked l.now.items l.places.items)
      ≡ walk page_machine (in_turn (map (λ n. plan_below l.self.rows.now l.limit n) l.numbers))
      (walked l.fn.states.items l.initial.places.items);
  kept : AllKept l.self.rows.now l.memo;
}
