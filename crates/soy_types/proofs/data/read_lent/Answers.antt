use Rattle.soy_tree.specs.ViewTrees.{view_params}
use Rattle.soy_types.proofs.FitsFacts.{of_bytes}
use Rattle.soy_types.proofs.data.read_lent.Goals as goal

pub returns-clause-value : goal.returns-clause-value
returns-clause-value c =
    let utf8 = c.in-Ok.ensures.cases in
    of_bytes (view_params c.args.params.now) c.args.bytes.now c.in-Ok.text.now c.read_text.result utf8.0 utf8.1
    c.read_text.ensures.value
