-- The translations of a bundle, and their first fault.
-- For each id of the bundle that the catalogue has, in the order of their bytes, the text is a pattern (22) that names
-- what the message has (24, 25). Texts under other ids are passed over unread.
-- Example: `{"ab":"{WHO","zz":"{"}` is refused with 22 at `messages`, `ab` where the catalogue has the id `ab`.
use Rattle.std.specs.Prelude.{◌≡◌, ℕ, List, [], ◌∷◌, ◌++◌, Option, Some, None, Result, Ok, Err, ◌⊎◌, unwrap_or}
use Rattle.std.specs.Prelude.{option_and_then, codes}
use Rattle.std.specs.Str.{chars}
use Rattle.serde_json.specs.Data.{Data, Members, no_members, member}
use Rattle.serde_json.specs.Find.{get, as_str, as_object}
use Rattle.soy_base.specs.declared.code.Code.{Code}
use Rattle.soy_base.specs.declared.code.Code.TheVariants as code
use Rattle.soy_base.specs.declared.memory.Refusal.{Refusal}
use Rattle.soy_base.specs.declared.memory.Refusal.TheVariants as refusal
use Rattle.soy_tree.specs.declared.bundle.Translation.{Translation}
use Rattle.soy_rules.specs.IcuText.{IsPattern}
use Rattle.soy_tree.specs.MessageParts.{MsgParts}
use Rattle.soy_tree.specs.ViewMessageParts.{view_parts}
use Rattle.icu_text.specs.ParsesMessage.{IsNoPattern}
use Rattle.msg_extract.specs.Catalogue.{find_listed}
use Rattle.msg_extract.specs.Fits.{parts_fault}
use Rattle.msg_extract.specs.declared.catalogue.Listed.{Listed}
use Rattle.msg_bundle.specs.declared.fault.BundleFault.{BundleFault}
use Rattle.msg_bundle.specs.BundleFault.{entry_path, fault_at}
use Rattle.soy_base.specs.Path.{Path}

-- the members of an object, if it is one
abbrev pub members_in : Option Members → Members
members_in ms = unwrap_or ms no_members

-- ids with texts
abbrev pub messages_of : Data → Members
messages_of json = members_in (option_and_then as_object (get (codes "messages") json))

-- the characters of a string; its form is asked before
abbrev pub text_of : Data → List ℕ
text_of json = chars (unwrap_or (as_str json) [])

abbrev pub message_path : List ℕ → Path
message_path key = entry_path (codes "messages") key

-- the parts are those of the text, and name what the message has
pub record Translates (source : Listed) (text : List ℕ) (parts : MsgParts) : Type 0 where
  pub pattern : IsPattern text parts
  pub names : parts_fault source parts ≡ None

-- the text is no pattern, or names what the message lacks
pub record IsUnread (key text : List ℕ) (fault : BundleFault) : Type 0 where
  pub offset : ℕ
  pub none : IsNoPattern text offset
  pub is : fault ≡ fault_at code.Icu (message_path key)

pub record NamesOther (source : Listed) (key text : List ℕ) (fault : BundleFault) : Type 0 where
  pub parts : MsgParts
  pub pattern : IsPattern text parts
  pub code : Code
  pub names : parts_fault source parts ≡ Some code
  pub is : fault ≡ fault_at code (message_path key)

abbrev pub HasTextFault : Listed → List ℕ → List ℕ → BundleFault → Type 0
HasTextFault source key text fault = IsUnread key text fault ⊎ NamesOther source key text fault

abbrev pub IsTranslationUnder : Listed → List ℕ → List ℕ → Translation → Type 0
IsTranslationUnder source key text t = (t.id ≡ chars key) × Translates source text (view_parts t.parts)

abbrev pub ReadsTranslation : Listed → List ℕ → List ℕ → Result Translation (Refusal BundleFault) → Type 0
ReadsTranslation source key text (Ok t) = IsTranslationUnder source key text t
ReadsTranslation source key text (Err (refusal.Because fault)) = HasTextFault source key text fault
ReadsTranslation source key text (Err refusal.OutOfMemory) = Unit {0}

-- what the code finds next: nothing under an id that the catalogue lacks, else a translation or a fault
abbrev pub ReadsNext : Option Listed → List ℕ → List ℕ → List Translation → List Translation
    → Result (Unit {0}) (Refusal BundleFault) → Type 0
ReadsNext None key text before now (Ok done) = now ≡ before
ReadsNext (Some source) key text before now (Ok done) =
    (t : Translation) × IsTranslationUnder source key text t × (now ≡ before ++ t ∷ [])
ReadsNext None key text before now (Err (refusal.Because fault)) = ⊥
ReadsNext (Some source) key text before now (Err (refusal.Because fault)) = HasTextFault source key text fault
ReadsNext source key text before now (Err refusal.OutOfMemory) = Unit {0}

-- the text under a key is translated first, where the catalogue has the id, and then what follows
abbrev pub IsNext : Option Listed → List ℕ → List ℕ → (List Translation → Type 0) → List Translation → Type 0
IsNext None key text Follow ts = Follow ts
IsNext (Some source) key text Follow [] = ⊥
IsNext (Some source) key text Follow (t ∷ ts) = IsTranslationUnder source key text t × Follow ts

abbrev pub AreTranslations : List Listed → Members → List Translation → Type 0
AreTranslations rows no_members [] = Unit {0}
AreTranslations rows no_members (t ∷ ts) = ⊥
AreTranslations rows (member key json ms) ts =
    IsNext (find_listed (chars key) rows) key (text_of json) (AreTranslations rows ms) ts

-- the text under a key is at fault, where the catalogue has the id; else it is a translation, and what follows is at
-- fault
abbrev pub IsFirstFault : Option Listed → List ℕ → List ℕ → (BundleFault → Type 0) → BundleFault → Type 0
IsFirstFault None key text Follow fault = Follow fault
IsFirstFault (Some source) key text Follow fault =
    HasTextFault source key text fault ⊎ (((parts : MsgParts) × Translates source text parts) × Follow fault)

abbrev pub HasTranslationFault : List Listed → Members → BundleFault → Type 0
HasTranslationFault rows no_members fault = ⊥
HasTranslationFault rows (member key json ms) fault =
    IsFirstFault (find_listed (chars key) rows) key (text_of json) (HasTranslationFault rows ms) fault

abbrev pub ReadsTranslations : List Listed → Members → Result (List Translation) (Refusal BundleFault) → Type 0
ReadsTranslations rows ms (Ok ts) = AreTranslations rows ms ts
ReadsTranslations rows ms (Err (refusal.Because fault)) = HasTranslationFault rows ms fault
ReadsTranslations rows ms (Err refusal.OutOfMemory) = Unit {0}
