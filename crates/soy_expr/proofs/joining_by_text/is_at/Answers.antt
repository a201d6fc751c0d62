use Rattle.soy_tree.specs.ViewTypes.{view_type}
use Rattle.soy_expr.proofs.TypeNumbers.{same_there}
use Rattle.soy_expr.proofs.joining_by_text.is_at.Goals as goal

pub returns-in-Some : goal.returns-in-Some
returns-in-Some c =
    same_there (view_type c.args.of.now) c.args.types.now c.args.number c.in-Some.other.now c.is_same.result
    c.in-Some.ensures c.is_same.ensures
