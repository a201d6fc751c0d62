use Rattle.std.proofs.Common.{◌+◌, ◌*◌, drop, map}
use Rattle.soy_meaning.specs.Paths.Plan.{in_turn}
use Rattle.html_context.specs.Covers.{AllHeads, Within}
use Rattle.html_context.specs.RowPlans.{plan_below}
use Rattle.html_context.specs.Walks.{view_site}
use Rattle.html_context.proofs.Covering.{ArmsReach, Reaches}
use Rattle.html_context.proofs.cover.Cover.+covering.Given as goal

abbrev pub invariant-in_turn-loop-number : goal.invariant-in_turn-loop-number
invariant-in_turn-loop-number l = record {
  reached : Reaches (in_turn (map (λ n. plan_below l.self.rows.now l.limit n) l.numbers))
      l.fn.states.items l.initial.places.items
      (in_turn (map (λ n. plan_below l.self.rows.now l.limit n) (drop l.number-index l.numbers)))
      l.now.items l.places.items;
  kept : AllHeads l.self.rows.now l.heads;
}

abbrev pub invariant-meet-loop-number : goal.invariant-meet-loop-number
invariant-meet-loop-number l = record {
  reached : ArmsReach (view_site l.at) (λ n. plan_below l.self.rows.now l.limit n) l.numbers l.before
      l.initial.places.items l.number-index l.joined.items l.places.items;
  kept : AllHeads l.self.rows.now l.heads;
}

abbrev pub invariant-grown-loop-turn : goal.invariant-grown-loop-turn
invariant-grown-loop-turn l = record {
  around : Within l.fn.states.items l.around.items;
  kept : AllHeads l.self.rows.now l.heads;
}

abbrev pub decreases-row : goal.decreases-row
decreases-row l = 8 * l.limit

abbrev pub decreases-one : goal.decreases-one
decreases-one l = 8 * l.number + 6

abbrev pub decreases-in_turn : goal.decreases-in_turn
decreases-in_turn l = 8 * l.limit + 1

abbrev pub decreases-meet : goal.decreases-meet
decreases-meet l = 8 * l.limit + 1

abbrev pub decreases-grown : goal.decreases-grown
decreases-grown l = 8 * l.limit + 1

abbrev pub decreases-looped : goal.decreases-looped
decreases-looped l = 8 * l.limit + 2

abbrev pub decreases-frame : goal.decreases-frame
decreases-frame l = 8 * l.limit + 1
