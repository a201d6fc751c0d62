use Rattle.std.proofs.Common.{◌≡◌, ◌+◌, ◌≤◌, drop, map}
use Rattle.soy_expr.specs.ViewShallow.{view_shallow}
use Rattle.template_ir.specs.ViewOps.{view_choice}
use Rattle.render_core.specs.Chosen.{choice_chosen}
use Rattle.render_core.specs.Seen.{env_seen}
use Rattle.render_core.proofs.choosing.choice_taken.Given as goal

abbrev pub invariant-loop-choice : goal.invariant-loop-choice
invariant-loop-choice g l =
    let v = view_shallow l.subject in
    let env = env_seen l.point in
    record {
      answer : (choice_chosen v (map view_choice l.choices) l.other env).0
          ≡ (choice_chosen v (map view_choice (drop l.choice-index l.choices)) l.other env).0;
      low : l.initial.steps ≤ l.steps;
      cost : l.initial.steps + (choice_chosen v (map view_choice l.choices) l.other env).1
          ≡ l.steps + (choice_chosen v (map view_choice (drop l.choice-index l.choices)) l.other env).1;
    }
