use Rattle.soy_tree.specs.ViewTypes.{view_type}
use Rattle.soy_types.specs.Filling.{fields_at, type_taken}
use Rattle.soy_types.proofs.Shapes.{null_taken}
use Rattle.soy_types.proofs.shape.Shape.takes_null.Goals as goal

pub returns-in-Some : goal.returns-in-Some
returns-in-Some c =
    let f = c.in-Some.field in
    null_taken c.fits_null.result c.args.index f.name.now (type_taken f.required (view_type f.of.now))
    (fields_at c.args.self) c.fits_null.ensures c.in-Some.ensures
