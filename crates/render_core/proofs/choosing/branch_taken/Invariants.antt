use Rattle.std.proofs.Common.{◌≡◌, ◌+◌, ◌≤◌, drop, map}
use Rattle.template_ir.specs.ViewOps.{view_branch}
use Rattle.render_core.specs.Chosen.{branch_chosen}
use Rattle.render_core.specs.Seen.{env_seen}
use Rattle.render_core.proofs.choosing.branch_taken.Given as goal

abbrev pub invariant-loop-branch : goal.invariant-loop-branch
invariant-loop-branch g l =
    let env = env_seen l.point in
    record {
      answer : (branch_chosen (map view_branch l.branches) l.other env).0
          ≡ (branch_chosen (map view_branch (drop l.branch-index l.branches)) l.other env).0;
      low : l.initial.steps ≤ l.steps;
      cost : l.initial.steps + (branch_chosen (map view_branch l.branches) l.other env).1
          ≡ l.steps + (branch_chosen (map view_branch (drop l.branch-index l.branches)) l.other env).1;
    }
