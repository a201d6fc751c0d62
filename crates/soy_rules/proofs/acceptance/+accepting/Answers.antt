use Rattle.std.proofs.Common.{rules}
use Rattle.soy_tree.specs.ViewTypes.{view_fields}
use Rattle.soy_rules.proofs.Views.{accepts_fields-drop}
use Rattle.soy_rules.proofs.acceptance.+accepting.Goals as goal

pub accepts_fields-returns-then-not-has_field : goal.accepts_fields-returns-then-not-has_field
accepts_fields-returns-then-not-has_field t c =
    let q =
    accepts_fields-drop c.args.to.now (view_fields c.args.from.now) c.loop-field.field-index c.field-item.result
    c.loop-field-test.true c.field-item.is in
    search (rules, q)

pub accepts_fields-loop-field-preserved : goal.accepts_fields-loop-field-preserved
accepts_fields-loop-field-preserved t c =
    let q =
    accepts_fields-drop c.args.to.now (view_fields c.args.from.now) c.loop-field.field-index c.field-item.result
    c.loop-field-test.true c.field-item.is in
    search (rules, q)
