use Rattle.render_core.proofs.parts.+bound_part.Given as goal

abbrev pub decreases-bound_part : goal.decreases-bound_part
decreases-bound_part l = l.at
