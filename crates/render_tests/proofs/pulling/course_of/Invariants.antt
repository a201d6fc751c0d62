use Rattle.soy_tree.specs.ViewValues.{view_value}
use Rattle.render_core.specs.Rest.{Fits}
use Rattle.render_tests.proofs.pulling.course_of.Given as goal

abbrev pub invariant-loop : goal.invariant-loop
invariant-loop g l = Fits l.page.compiled.program (view_value l.page.input) l.rendering
