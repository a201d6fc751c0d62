use Rattle.json.specs.Value.{value_view}
use Rattle.soy_tree.specs.ViewTypes.{view_type}
use Rattle.soy_types.proofs.TokenFacts.{tree_read}
use Rattle.soy_types.proofs.token_reading.next_by_tree.Goals as goal

pub returns-in-Ok-clause-value : goal.returns-in-Ok-clause-value
returns-in-Ok-clause-value c =
    tree_read c.args.depth (view_type c.args.of.now) c.args.reader.now c.read_tree.new.reader (value_view c.in-Ok.json)
    c.lent_value.result c.in-Ok.ensures.tree c.in-Ok.ensures.values c.lent_value.ensures.value
