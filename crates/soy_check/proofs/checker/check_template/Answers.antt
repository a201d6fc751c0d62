use Rattle.soy_rules.specs.Demands.{body_fault}
use Rattle.soy_rules.specs.ViewTemplates.{view_declared}
use Rattle.soy_check.specs.ViewAround.{view_all}
use Rattle.soy_check.proofs.checker.check_template.Goals as goal

pub returns-in-Err : goal.returns-in-Err
returns-in-Err c =
    c.refused_in.ensures (body_fault (view_all c.args.all.now) (view_declared c.args.one.now.declared)) c.in-Err.ensures
