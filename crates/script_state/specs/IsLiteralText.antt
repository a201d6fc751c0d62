-- What may stand between the quotes of a string literal, whole.
--
-- It is made of plain characters, each neither the literal's quote nor a backslash, a line feed or
-- a carriage return, and of escapes, each a backslash with any one character after it. So no escape
-- is open at its end. (ECMAScript, "String Literals"; CSS Syntax Level 3, "Consume a string token".)
-- Example: `it\'s` is one for both quotes, and `it's` for the double quote alone.
use Rattle.std.specs.Prelude.{ℕ, List, [], ◌∷◌, ◌≢◌}
use Rattle.soy_base.specs.Characters.{line_feed, carriage_return, backslash}

pub data IsLiteralText (quote : ℕ) : List ℕ → Type 0 where
  empty : IsLiteralText quote []
  plain : {c : ℕ} {rest : List ℕ} → c ≢ quote → c ≢ backslash → c ≢ line_feed → c ≢ carriage_return
      → IsLiteralText quote rest → IsLiteralText quote (c ∷ rest)
  escape : {c : ℕ} {rest : List ℕ} → IsLiteralText quote rest → IsLiteralText quote (backslash ∷ c ∷ rest)
