-- Two bundles that bring the same: one direction, the same rules, and translations of the same ids with the same parts.
--
-- Example: the bundles that `read_bundle` makes of the same bytes for the same catalogue.
use Rattle.std.specs.Prelude.{◌≡◌, ℕ, List, map}
use Rattle.soy_tree.specs.declared.bundle.Bundle.{Bundle}
use Rattle.soy_tree.specs.declared.bundle.Translation.{Translation}
use Rattle.soy_tree.specs.MessageParts.{MsgParts}
use Rattle.soy_tree.specs.ViewMessageParts.{view_parts}

-- a translation by its id and its parts
abbrev pub view_translation : Translation → List ℕ × MsgParts
view_translation t = (t.id, view_parts t.parts)

pub record BundlesAlike (a b : Bundle) : Type 0 where
  pub dir : a.dir ≡ b.dir
  pub plural : a.plural ≡ b.plural
  pub ordinal : a.ordinal ≡ b.ordinal
  pub messages : map view_translation a.messages ≡ map view_translation b.messages
