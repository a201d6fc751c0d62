use Rattle.render_core.proofs.variable_stack.VariableStack.levels.Goals as goal

pub loop-other-preserved : goal.loop-other-preserved
loop-other-preserved c =
    let bound = c.args.self.now in
    let passes = c.in-Some.ensures.passes in
    c.in_ok-last.ensures.leads bound c.args.below passes
    (c.in_ok-copy_levels.ensures.leads bound c.args.below passes c.loop-other.invariant)
