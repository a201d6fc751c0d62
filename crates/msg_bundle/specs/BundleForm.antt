-- The form of a bundle, and the path to its first part that is missing or of another form (21).
-- A bundle is an object. `dir` is "ltr" or "rtl"; `locale`, where it is given, is a string; `plural` and `ordinal`,
-- where they are given, are objects from the six keywords to strings; `messages` is an object from ids to strings. They
-- are asked in this order, the entries of an object in the order of the bytes of their keys, in which `Data` has them.
-- Null is neither a string nor an object, and other members are passed over.
-- Example: `{"dir":"ltr","plural":{"one":"n = 1","some":"n = 2"}}` is at fault at `plural`, `some`.
use Rattle.std.specs.Prelude.{◌≡◌, ℕ, Bool, true, false, ◌&&◌, List, [], ◌∷◌, Option, Some, None, if◌then◌else◌}
use Rattle.std.specs.Prelude.{is_some, option_and_then, bytes_eq, codes, Result, Ok, Err}
use Rattle.std.specs.List.{list_any}
use Rattle.std.specs.Option.{option_or}
use Rattle.serde_json.specs.Data.{Data, Members, no_members, member}
use Rattle.serde_json.specs.Find.{get, as_str, as_object}
use Rattle.plural_rules.specs.declared.category.Category.{Category}
use Rattle.plural_rules.specs.declared.category.Category.TheVariants as category
use Rattle.soy_base.specs.declared.code.Code.TheVariants as code
use Rattle.soy_base.specs.declared.direction.Dir.{Dir}
use Rattle.soy_base.specs.declared.direction.Dir.TheVariants as dir
use Rattle.soy_base.specs.declared.memory.Refusal.{Refusal}
use Rattle.soy_base.specs.declared.memory.Refusal.TheVariants as refusal
use Rattle.soy_rules.specs.IcuText.{keyword}
use Rattle.msg_bundle.specs.declared.fault.BundleFault.{BundleFault}
use Rattle.msg_bundle.specs.BundleFault.{member_path, entry_path, fault_at}
use Rattle.soy_base.specs.Path.{Path}

-- the six categories, in the order in which their rules are asked
abbrev pub categories : List Category
categories =
    category.Zero ∷ category.One ∷ category.Two ∷ category.Few ∷ category.Many ∷ category.Other ∷ []

abbrev pub is_keyword : List ℕ → Bool
is_keyword key = list_any (λ c. bytes_eq key (keyword c)) categories

abbrev pub is_string : Data → Bool
is_string json = is_some (as_str json)

abbrev pub direction_of_text : List ℕ → Option Dir
direction_of_text text =
    if bytes_eq text (codes "ltr") then Some dir.Ltr
    else (if bytes_eq text (codes "rtl") then Some dir.Rtl else None)

-- the direction of a bundle, if it has one
abbrev pub direction_of : Data → Option Dir
direction_of json = option_and_then direction_of_text (option_and_then as_str (get (codes "dir") json))

abbrev pub direction_fault : Option Dir → Option Path
direction_fault None = Some (member_path (codes "dir"))
direction_fault (Some direction) = None

abbrev pub locale_fault : Option Data → Option Path
locale_fault None = None
locale_fault (Some locale) = if is_string locale then None else Some (member_path (codes "locale"))

-- whether a key may stand in an object: one of the keywords, or any key
abbrev pub is_key : Bool → List ℕ → Bool
is_key true key = is_keyword key
is_key false key = true

-- the object of a name has strings, under keywords alone or under any keys
module _ (only_keywords : Bool) (name : List ℕ) where
  abbrev pub entry_fault : List ℕ → Data → Option Path
  entry_fault key json = if is_key only_keywords key && is_string json then None else Some (entry_path name key)

  abbrev pub entries_fault : Members → Option Path
  entries_fault no_members = None
  entries_fault (member key json ms) = option_or (entry_fault key json) (entries_fault ms)

  abbrev pub object_fault : Option Members → Option Path
  object_fault None = Some (member_path name)
  object_fault (Some ms) = entries_fault ms

abbrev pub rules_fault : List ℕ → Option Data → Option Path
rules_fault name None = None
rules_fault name (Some rules) = object_fault true name (as_object rules)

abbrev pub texts_fault : Option Data → Option Path
texts_fault texts = object_fault false (codes "messages") (option_and_then as_object texts)

-- of rules, and then of messages
abbrev pub object_members_fault : Data → Option Path
object_members_fault json =
    option_or (rules_fault (codes "plural") (get (codes "plural") json))
    (option_or (rules_fault (codes "ordinal") (get (codes "ordinal") json)) (texts_fault (get (codes "messages") json)))

abbrev pub members_fault : Data → Option Path
members_fault json =
    option_or (direction_fault (direction_of json))
    (option_or (locale_fault (get (codes "locale") json)) (object_members_fault json))

-- **the path to the first part of another form, which is empty where the whole is no object**
abbrev pub form_fault : Data → Option Path
form_fault json = if is_some (as_object json) then members_fault json else Some []

-- the first part of another form is refused
pub record IsFormFault (json : Data) (fault : BundleFault) : Type 0 where
  pub path : Path
  pub first : form_fault json ≡ Some path
  pub is : fault ≡ fault_at code.Bundle path

-- what the code finds of the form: the direction, or the fault
abbrev pub ReadsForm : Data → Result Dir (Refusal BundleFault) → Type 0
ReadsForm json (Ok direction) = (form_fault json ≡ None) × (direction_of json ≡ Some direction)
ReadsForm json (Err (refusal.Because fault)) = IsFormFault json fault
ReadsForm json (Err refusal.OutOfMemory) = Unit {0}
