use Rattle.std.proofs.Common.{map}
use Rattle.soy_meaning.specs.Paths.Plan.{in_turn}
use Rattle.soy_meaning.specs.Paths.PlanOfNodes.{declared_plan}
use Rattle.html_context.specs.ChosenTranslation.{chosen_translation}
use Rattle.soy_rules.specs.ViewTemplates.{view_all}
use Rattle.html_context.proofs.BuiltTemplates.{all_declared, next_declared}
use Rattle.html_context.proofs.compiling.templates.Goals as goal

pub loop-one-preserved : goal.loop-one-preserved
loop-one-preserved c =
    rw c.in_ok-push.ensures.items
    (next_declared (declared_plan (chosen_translation c.args.bundle.now.messages) (view_all c.args.all.now))
    c.args.rows.now.items c.loop-one.rows.items c.template.new.rows.items c.loop-one.numbers.items c.loop-one.one-index
    c.args.some.now
    (in_turn (map (declared_plan (chosen_translation c.args.bundle.now.messages) (view_all c.args.all.now))
    (view_all c.args.some.now)))
    c.one-item.result c.in_ok-number.number c.loop-one-test.true c.one-item.is c.loop-one.invariant
    c.in_ok-number.ensures)

pub returns : goal.returns
returns c =
    all_declared (declared_plan (chosen_translation c.args.bundle.now.messages) (view_all c.args.all.now))
    c.args.rows.now.items c.loop-one.rows.items c.write.new.rows.items c.loop-one.numbers.items c.loop-one.one-index
    c.args.some.now
    (in_turn (map (declared_plan (chosen_translation c.args.bundle.now.messages) (view_all c.args.all.now))
    (view_all c.args.some.now)))
    c.new.result c.write.result c.loop-one-test.false c.new.ensures c.loop-one.invariant c.write.ensures.rows
    c.write.ensures.number
