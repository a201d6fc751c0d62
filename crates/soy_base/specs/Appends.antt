-- A string grew at its end by these characters.
--
-- Example: from `a` to `a%20` it grew by `%20`.
use Rattle.std.specs.Prelude.{◌≡◌, ℕ, List, ◌++◌, String}
use Rattle.std.specs.Str.{chars}
use Rattle.std.specs.String.{string_bytes}

abbrev pub Appends : {A : Type 0} → String A → String A → List ℕ → Type 0
Appends old new more = chars (string_bytes new) ≡ chars (string_bytes old) ++ more
