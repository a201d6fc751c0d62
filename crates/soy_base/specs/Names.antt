-- Names and dotted names.
--
-- A name is an ASCII letter or `_` followed by ASCII letters, digits and `_`. A dotted name joins one or more names by
-- `.`.
-- Example: `shop.page_1` is a dotted name, and its two names are `shop` and `page_1`.
use Rattle.std.specs.Prelude.{ℕ, List, [], ◌∷◌, Bool, false, ◌&&◌, ◌||◌, ◌==◌}
use Rattle.std.specs.Char.{is_ascii_alphabetic, is_ascii_digit}
use Rattle.std.specs.List.{list_all, slice_split}
use Rattle.soy_base.specs.Characters.{full_stop, underscore}

-- whether a name may begin with the character
abbrev pub begins_name : ℕ → Bool
begins_name c = is_ascii_alphabetic c || c == underscore

-- whether a name may go on with the character
abbrev pub continues_name : ℕ → Bool
continues_name c = begins_name c || is_ascii_digit c

abbrev pub is_name : List ℕ → Bool
is_name [] = false
is_name (c ∷ cs) = begins_name c && list_all continues_name cs

abbrev pub is_dotted_name : List ℕ → Bool
is_dotted_name text = list_all is_name (slice_split (λ c. c == full_stop) text)
