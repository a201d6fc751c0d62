-- With which characters some pattern begins.
-- Example: `{N` begins `{N}`, and no pattern begins with `{!`.
use Rattle.std.specs.Prelude.{ℕ, List, ◌++◌}
use Rattle.soy_tree.specs.MessageParts.{MsgParts}
use Rattle.soy_rules.specs.IcuText.{IsPattern}

pub record BeginsPattern (text : List ℕ) : Type 0 where
  pub more : List ℕ
  pub parts : MsgParts
  pub is : IsPattern (text ++ more) parts
