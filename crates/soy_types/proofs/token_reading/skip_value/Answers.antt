use Rattle.json.specs.Value.{value_view}
use Rattle.soy_types.proofs.token_reading.skip_value.Goals as goal

pub returns-clause-value : goal.returns-clause-value
returns-clause-value c =
    let read = c.in_ok-read_tree.ensures in (value_view c.in_ok-read_tree.field-0, read.tree, read.values)
