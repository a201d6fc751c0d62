use Rattle.std.proofs.Common.{drop, map}
use Rattle.soy_meaning.specs.Paths.Plan.{in_turn}
use Rattle.soy_meaning.specs.Paths.PlanOfNodes.{declared_plan}
use Rattle.html_context.specs.ChosenTranslation.{chosen_translation}
use Rattle.soy_rules.specs.ViewTemplates.{view_all}
use Rattle.html_context.proofs.WrittenLists.{InTurnSoFar}
use Rattle.html_context.proofs.compiling.templates.Given as goal

abbrev pub invariant-loop-one : goal.invariant-loop-one
invariant-loop-one l =
    InTurnSoFar l.initial.rows.items l.rows.items l.numbers.items
    (in_turn (map (declared_plan (chosen_translation l.bundle.messages) (view_all l.all))
    (view_all (drop l.one-index l.some))))
    (in_turn (map (declared_plan (chosen_translation l.bundle.messages) (view_all l.all)) (view_all l.some)))
