-- What a bundle brings to a run: translations, the direction, and the rules of categories.
-- Example: without a bundle no message has a translation, and the direction is left to right.
use Rattle.std.specs.Prelude.{List, Option}
use Rattle.soy_base.specs.declared.direction.Dir.{Dir}
use Rattle.plural_rules.specs.Condition.{Alternatives}
use Rattle.plural_rules.specs.declared.category.Category.{Category}
use Rattle.soy_tree.specs.MessageParts.{MsgParts}
use Rattle.soy_tree.specs.Nodes.{Message}

-- what a bundle brings: the translation of a message, if there is one, the direction, and the rules of categories
pub record Language : Type 0 where
  pub translation : Message → Option MsgParts
  pub direction : Dir
  pub plural : List (Category × Alternatives)
  pub ordinal : List (Category × Alternatives)
