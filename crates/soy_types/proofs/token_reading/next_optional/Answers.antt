use Rattle.json.specs.Value.{value_view}
use Rattle.soy_rules.specs.Members.{joined}
use Rattle.soy_tree.specs.Types.{NullType}
use Rattle.soy_tree.specs.ViewTypes.{view_type}
use Rattle.soy_types.proofs.TokenFacts.{tree_read}
use Rattle.soy_types.proofs.token_reading.next_optional.Goals as goal

pub returns-in-Ok-clause-value : goal.returns-in-Ok-clause-value
returns-in-Ok-clause-value c =
    tree_read c.args.depth (joined (view_type c.args.of.now) NullType) c.args.reader.now c.read_tree.new.reader
    (value_view c.in-Ok.json) c.lent_optional.result c.in-Ok.ensures.tree c.in-Ok.ensures.values
    c.lent_optional.ensures.value
