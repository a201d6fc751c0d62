use Rattle.std.proofs.Common.{◌≡◌}
use Rattle.soy_rules.specs.Val.{binding}
use Rattle.render_core.specs.Seen.{cells_seen}
use Rattle.render_core.specs.Variables.{env_at}
use Rattle.render_core.proofs.parts.place_below.Given as goal

abbrev pub invariant-loop-number : goal.invariant-loop-number
invariant-loop-number l =
    binding l.name (env_at (cells_seen l.point) l.number) ≡ binding l.name (env_at (cells_seen l.point) l.from)

abbrev pub decreases-loop-number : goal.decreases-loop-number
decreases-loop-number l = l.number
