use Rattle.std.proofs.Common.{rules, ◌≡◌, ◌+◌, ◌-◌, drop, length}
use Rattle.std.specs.Prelude.{Some, None, slice_get}
use Rattle.soy_rules.specs.Typed.{params_at, templates_of}
use Rattle.soy_rules.proofs.TemplateNumbers.{params_here, params_later}
use Rattle.soy_rules.proofs.typed.params_in.Goals as goal

pub returns-in-Some : goal.returns-in-Some
returns-in-Some c =
    let e : slice_get c.tree-item.result.templates c.loop-tree.left ≡ Some c.in-Some.found.now = search rules in
    let q : params_at c.loop-tree.left (templates_of (drop c.loop-tree.tree-index c.args.trees.now))
    ≡ c.in-Some.found.now.params =
    params_here c.args.trees.now c.loop-tree.tree-index c.loop-tree.left c.tree-item.result c.in-Some.found.now
    c.loop-tree-test.true c.tree-item.is e in
    search (rules, q)

pub loop-tree-preserved : goal.loop-tree-preserved
loop-tree-preserved c =
    let e : slice_get c.tree-item.result.templates c.loop-tree.left ≡ None = search rules in
    let q : params_at c.loop-tree.left (templates_of (drop c.loop-tree.tree-index c.args.trees.now))
    ≡ params_at (c.loop-tree.left - length c.tree-item.result.templates)
    (templates_of (drop (c.loop-tree.tree-index + 1) c.args.trees.now)) =
    params_later c.args.trees.now c.loop-tree.tree-index c.loop-tree.left c.tree-item.result c.loop-tree-test.true
    c.tree-item.is e in
    search (rules, q)
