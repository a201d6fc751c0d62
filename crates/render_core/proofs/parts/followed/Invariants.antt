use Rattle.std.proofs.Common.{◌≡◌, drop}
use Rattle.soy_tree.specs.ViewValues.{view_value}
use Rattle.render_core.specs.Variables.{led}
use Rattle.render_core.proofs.parts.followed.Given as goal

abbrev pub invariant-loop-number : goal.invariant-loop-number
invariant-loop-number l = led (drop l.number-index l.steps) (view_value l.part) ≡ led l.steps (view_value l.value)
