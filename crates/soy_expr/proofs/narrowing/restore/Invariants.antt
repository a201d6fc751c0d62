use Rattle.std.proofs.Common.{◌≡◌, length}
use Rattle.soy_expr.specs.PutBack.{put_back}
use Rattle.soy_expr.proofs.narrowing.restore.Given as goal

abbrev pub invariant-loop-name : goal.invariant-loop-name
invariant-loop-name l = put_back l.outside.items l.vars ≡ put_back l.initial.outside.items l.initial.vars

abbrev pub decreases-loop-name : goal.decreases-loop-name
decreases-loop-name l = length l.outside.items
