-- The translations of messages, by those of ids.
--
-- A message has the translation of its id, if there is one. So what a bundle brings by ids is what it brings to a run.
-- Example: where the id of `love {$who}` has the parts of `liebt {WHO}`, so does the message.
use Rattle.std.specs.Prelude.{ℕ, List, Option}
use Rattle.soy_base.specs.declared.direction.Dir.{Dir}
use Rattle.plural_rules.specs.Condition.{Alternatives}
use Rattle.plural_rules.specs.declared.category.Category.{Category}
use Rattle.soy_tree.specs.MessageParts.{MsgParts}
use Rattle.soy_tree.specs.Nodes.{Message}
use Rattle.msg_extract.specs.MessageId.{id_of}
use Rattle.soy_rules.specs.Language.{Language}

-- what a bundle brings
pub record Brought : Type 0 where
  pub translation : List ℕ → Option MsgParts
  pub direction : Dir
  pub plural : List (Category × Alternatives)
  pub ordinal : List (Category × Alternatives)

abbrev pub translated_by : (List ℕ → Option MsgParts) → Message → Option MsgParts
translated_by translation m = translation (id_of m)

abbrev pub language_by : Brought → Language
language_by b = record {
  translation = translated_by b.translation;
  direction = b.direction;
  plural = b.plural;
  ordinal = b.ordinal;
}
