use Rattle.soy_tree.specs.ViewValues.{view_value}
use Rattle.render_core.specs.Rest.{Fits}
use Rattle.render_tests.proofs.answers.answered.Given as goal

abbrev pub invariant-loop-number : goal.invariant-loop-number
invariant-loop-number g l = Fits l.page.compiled.program (view_value l.page.input) l.rendering
