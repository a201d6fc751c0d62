-- The base names of tags, step by step as the code makes them.
use Rattle.std.proofs.Common.{◌≡◌, ℕ, Bool, true, false, ◌&&◌, ◌||◌, List, [], ◌∷◌, ◌++◌, map, reverse, refl, sym}
use Rattle.std.proofs.Common.{ap, ◌∙◌}
use Rattle.std.proofs.Common.{bytes_eq}
use Rattle.std.specs.Prelude.{codes, if◌then◌else◌}
use Rattle.std.specs.Char.{is_ascii_digit, is_ascii_lowercase, is_ascii_uppercase, to_ascii_uppercase}
use Rattle.std.specs.List.{list_any}
use Rattle.std.proofs.lemmas.List.{map-append, reverse-append}
use Rattle.soy_base.specs.Characters.{underscore}
use Rattle.soy_tree.specs.MessageText.{MessageItem, Character, Printed}
use Rattle.soy_rules.specs.BaseNames.{base_of_tag, begins_as_closed, is_closed_tag, is_end_tag, lone_tags, own_name}
use Rattle.soy_rules.specs.BaseNames.{own_names, shown_name, tag_name, upper_name}
use Rattle.msg_extract.specs.TagNames.{begins_with_slash, tag_prefix, upper_step}
use Rattle.msg_extract.specs.Views.ViewItems.{view_item}
use Rattle.msg_extract.specs.declared.item.Item.{Item}

-- a name, character by character
pub upper_steps : (after : Bool) (c : ℕ) (cs : List ℕ)
    → upper_name after (c ∷ cs) ≡ upper_step after c ++ upper_name (is_ascii_lowercase c || is_ascii_digit c) cs
upper_steps after c cs = step (after && is_ascii_uppercase c)
  where
    step : (t : Bool) → (if t then underscore ∷ (to_ascii_uppercase c ∷ upper_name (is_ascii_lowercase c ||
        is_ascii_digit c) cs) else to_ascii_uppercase c ∷ upper_name (is_ascii_lowercase c || is_ascii_digit c) cs)
        ≡ (if t then underscore ∷ (to_ascii_uppercase c ∷ []) else to_ascii_uppercase c ∷ []) ++
        upper_name (is_ascii_lowercase c || is_ascii_digit c) cs
    step true = refl
    step false = refl

-- a tag's base name is its prefix and the name as it is shown
pub tag_base_is : (tag : List MessageItem)
    → base_of_tag tag ≡ tag_prefix tag (tag_name tag) ++ shown_name (tag_name tag) (own_name (tag_name tag) own_names)
tag_base_is tag = whole (is_end_tag tag) (list_any (bytes_eq (tag_name tag)) lone_tags) (is_closed_tag tag)
    (shown_name (tag_name tag) (own_name (tag_name tag) own_names))
  where
    whole : (ends lone closed : Bool) (shown : List ℕ)
        → (if ends then codes "END_" ++ shown else (if lone || closed then shown else codes "START_" ++ shown))
        ≡ (if ends then codes "END_" else (if lone then [] else (if closed then [] else codes "START_"))) ++ shown
    whole true lone closed shown = refl
    whole false true closed shown = refl
    whole false false true shown = refl
    whole false false false shown = refl

pub end_tag_is : (item : MessageItem) (rest : List MessageItem) → is_end_tag (item ∷ rest) ≡ begins_with_slash rest
end_tag_is item [] = refl
end_tag_is item (Character c span ∷ rest) = refl
end_tag_is item (Printed e phname span ∷ rest) = refl

last_first : (items : List Item) (last : Item)
    → reverse (map view_item (items ++ (last ∷ []))) ≡ view_item last ∷ reverse (map view_item items)
last_first items last = ap reverse (map-append view_item items (last ∷ [])) ∙ reverse-append (map view_item items)
    (view_item last ∷ [])

-- the last item is the first of the reversed ones
pub ends_as : (items : List Item) (last : Item)
    → begins_with_slash (reverse (map view_item (items ++ (last ∷ []))))
    ≡ begins_with_slash (view_item last ∷ reverse (map view_item items))
ends_as items last = ap begins_with_slash (last_first items last)

closed_by : (item : MessageItem) (rest : List MessageItem) → begins_as_closed (item ∷ rest) ≡ begins_with_slash rest
closed_by item [] = refl
closed_by item (Character c span ∷ rest) = refl
closed_by item (Printed e phname span ∷ rest) = refl

pub closed_tag_is : (items : List Item) (last : Item)
    → is_closed_tag (map view_item (items ++ (last ∷ []))) ≡ begins_with_slash (reverse (map view_item items))
closed_tag_is items last = ap begins_as_closed (last_first items last) ∙ closed_by (view_item last)
    (reverse (map view_item items))
