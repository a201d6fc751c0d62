-- A piece of a page: a static text, or the characters that stand for a printed value.
-- Example: `<b>{$x}` with `$x` 1 gives the static text `<b>` and the value `<span dir="ltr">1</span>`.
use Rattle.std.specs.Prelude.{ℕ, List}

pub data Piece : Type 0 where
  Static : List ℕ → Piece
  Value : List ℕ → Piece
