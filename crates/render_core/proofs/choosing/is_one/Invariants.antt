use Rattle.std.proofs.Common.{◌≡◌, ◌+◌, ◌≤◌, drop}
use Rattle.soy_tree.specs.ViewExpressions.{view_exprs}
use Rattle.soy_expr.specs.ViewShallow.{view_shallow}
use Rattle.soy_pieces.specs.Pieces.{is_one}
use Rattle.render_core.specs.Seen.{env_seen}
use Rattle.render_core.proofs.choosing.is_one.Given as goal

abbrev pub invariant-loop-value : goal.invariant-loop-value
invariant-loop-value g l =
    let v = view_shallow l.subject in
    let env = env_seen l.point in
    record {
      answer : (is_one v (view_exprs l.values) env).0 ≡ (is_one v (view_exprs (drop l.value-index l.values)) env).0;
      low : l.initial.steps ≤ l.steps;
      cost : l.initial.steps + (is_one v (view_exprs l.values) env).1
          ≡ l.steps + (is_one v (view_exprs (drop l.value-index l.values)) env).1;
    }
