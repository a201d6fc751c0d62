use Rattle.std.proofs.Common.{◌∙◌}
use Rattle.soy_types.proofs.Shapes.{found_where}
use Rattle.soy_types.proofs.shape.has_entry.Goals as goal

pub returns : goal.returns
returns c =
    c.is_some.ensures
    ∙ found_where c.walked_index.result c.args.key.now c.args.entries.now c.walked_index.ensures
