use Rattle.std.proofs.Common.{◌≡◌, true, drop, subst, sym, arith}
use Rattle.std.proofs.lemmas.List.{drop_all}
use Rattle.soy_types.specs.Filling.{NullsFit, fields_at}
use Rattle.soy_types.proofs.Filled.{null_left}
use Rattle.soy_types.proofs.Shapes.{null_end, on_true}
use Rattle.soy_types.proofs.shape.nulls_fit.Goals as goal

pub loop-index-init : goal.loop-index-init
loop-index-init c = λ fit. fit

pub loop-index-preserved : goal.loop-index-preserved
loop-index-preserved c =
    let known : c.may_be_null.result ≡ true = grind arith in
    λ rest.
    c.loop-index.invariant
    (null_left (fields_at c.args.shape) c.args.entries.now c.loop-index.index c.index-entries-index.result
    c.loop-index-test.true c.index-entries-index.is
    (on_true c.may_be_null.result c.may_be_null.ensures known) rest)

pub returns : goal.returns
returns c =
    let left = drop c.loop-index.index (fields_at c.args.shape) in
    c.loop-index.invariant
    (subst (NullsFit left) (sym (drop_all c.loop-index.index c.args.entries.now c.loop-index-test.false))
    (null_end left))
