-- Variables that stand before those that were visible.
-- Example: after a let there is one more, which stands first.
use Rattle.std.specs.Prelude.{◌≡◌, List, ◌++◌}
use Rattle.soy_tree.specs.declared.soy_type.Field as code

pub record Grows (old new : List code.Field) : Type 0 where
  pub inner : List code.Field
  pub are : new ≡ inner ++ old
