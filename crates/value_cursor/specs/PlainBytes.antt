-- A byte that is wrapped as it is: a printable character of ASCII that stands for itself by Html.
--
-- `a` is such a byte, and `<` isn't.
use Rattle.std.specs.Prelude.{ℕ, Bool, ◌&&◌}
use Rattle.escapers.specs.declared.escaper.Escaper.TheVariants as escaper
use Rattle.escapers.specs.PlainPrefix.{stands_for_itself}
use Rattle.value_cursor.specs.Cleaned.{is_printable}

abbrev pub is_plain : ℕ → Bool
is_plain byte = is_printable byte && stands_for_itself escaper.Html byte
