use Rattle.soy_format.proofs.Templates.{template_step}
use Rattle.soy_format.proofs.tree.push_templates.Goals as goal

pub loop-template-preserved : goal.loop-template-preserved
loop-template-preserved c =
    template_step c.args.templates.now c.loop-template.template-index c.template-item.result _ _ _ _
    c.loop-template-test.true c.template-item.is c.in_ok-push_ascii.ensures c.in_ok-push_template.ensures
    c.loop-template.invariant
