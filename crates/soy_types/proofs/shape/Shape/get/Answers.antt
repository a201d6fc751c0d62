use Rattle.std.proofs.Common.{sym, subst}
use Rattle.soy_rules.specs.Templates.{param_type}
use Rattle.soy_tree.specs.ViewTrees.{view_param}
use Rattle.soy_tree.specs.ViewTypes.{view_type}
use Rattle.soy_types.specs.Filling.{FieldAt, fields_at}
use Rattle.soy_types.proofs.Shapes.{field_at, param_at}
use Rattle.soy_types.proofs.shape.Shape.get.Goals as goal

pub returns-in-Some : goal.returns-in-Some
returns-in-Some c =
    let f = c.in-Some.field.now in
    let found = c.in-Some.ensures.lookup in
    subst (λ s. FieldAt c.args.index f.name (view_type f.of) (fields_at s)) (sym c.in-Record.is)
    (field_at c.in-Record.fields.now c.args.index f found.3.0 found.1)

pub returns-in-Some-get : goal.returns-in-Some-get
returns-in-Some-get c =
    let p = c.in-Some-get.param.now in
    let found = c.in-Some-get.ensures.lookup in
    subst (λ s. FieldAt c.args.index p.name (param_type (view_param p)) (fields_at s)) (sym c.in-Params.is)
    (param_at c.in-Params.params.now c.args.index p found.3.0 found.1)
