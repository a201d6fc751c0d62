use Rattle.std.proofs.Common.{◌≡◌, drop}
use Rattle.soy_rules.specs.Typed.{params_at, templates_of}
use Rattle.soy_rules.proofs.typed.params_in.Given as goal

abbrev pub invariant-loop-tree : goal.invariant-loop-tree
invariant-loop-tree l =
    params_at l.template (templates_of l.trees) ≡ params_at l.left (templates_of (drop l.tree-index l.trees))
