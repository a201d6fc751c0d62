use Rattle.soy_rules.specs.Declarations.{declaration_fault}
use Rattle.soy_rules.specs.ViewTemplates.{view_declared}
use Rattle.soy_check.proofs.checker.check_declared.Goals as goal

pub returns-in-Err-clause-found : goal.returns-in-Err-clause-found
returns-in-Err-clause-found c =
    c.refused_in.ensures (declaration_fault (view_declared c.args.declared.now) c.args.before.now)
    c.in-Err.ensures.found
