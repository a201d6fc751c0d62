use Rattle.soy_expr.proofs.Growth.{grown_further}
use Rattle.soy_check.proofs.variables.declare_pair.Goals as goal

pub returns-in_ok-declare-in-Some-clause-grown : goal.returns-in_ok-declare-in-Some-clause-grown
returns-in_ok-declare-in-Some-clause-grown c =
    grown_further c.args.vars.now c.declare.new.vars c.declare-in-Some.new.vars
    c.in_ok-declare.ensures.grown c.in_ok-declare-in-Some.ensures.grown
