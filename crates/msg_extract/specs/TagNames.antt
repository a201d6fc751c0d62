-- The base name of a tag, as what stands before its name and the name as it is shown.
-- Example: before the name of `<a href="/x">` stands `START_`, and it is shown as `LINK`.
use Rattle.std.specs.Prelude.{ℕ, Bool, false, ◌&&◌, ◌||◌, ◌==◌, List, [], ◌∷◌, if◌then◌else◌, bytes_eq, codes}
use Rattle.std.specs.Prelude.{Option, Some}
use Rattle.std.specs.Prelude.{None}
use Rattle.std.specs.List.{list_any}
use Rattle.std.specs.Char.{is_ascii_uppercase, is_ascii_whitespace, to_ascii_uppercase}
use Rattle.soy_base.specs.Characters.{slash, greater_than, underscore}
use Rattle.soy_tree.specs.MessageText.{MessageItem, Character, Printed}
use Rattle.soy_rules.specs.BaseNames.{is_closed_tag, is_end_tag, lone_tags}

-- a character of a name in upper case, with what stands before it
abbrev pub upper_step : Bool → ℕ → List ℕ
upper_step after c =
    if after && is_ascii_uppercase c then underscore ∷ (to_ascii_uppercase c ∷ []) else to_ascii_uppercase c ∷ []

abbrev pub tag_prefix : List MessageItem → List ℕ → List ℕ
tag_prefix tag name =
    if is_end_tag tag
    then codes "END_"
    else (if list_any (bytes_eq name) lone_tags then [] else (if is_closed_tag tag then [] else codes "START_"))

abbrev pub begins_with_slash : List MessageItem → Bool
begins_with_slash (Character c span ∷ rest) = c == slash
begins_with_slash _ = false

abbrev pub ends_name : ℕ → Bool
ends_name c = is_ascii_whitespace c || c == slash || c == greater_than

-- the character of a tag's name that an item is
abbrev pub name_character : MessageItem → Option ℕ
name_character (Printed e phname span) = None
name_character (Character c span) = if ends_name c then None else Some c
