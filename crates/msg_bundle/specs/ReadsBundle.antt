-- What `read_bundle` answers of bytes and of the rows of a catalogue.
-- The bytes are UTF-8 and JSON, and the value has the form of a bundle (21); then its rules are asked, those of
-- `plural` before those of `ordinal` (23); and then its translations (22, 24, 25). The first fault is answered.
-- Example: `[]` is refused with 21 and an empty path, and `{"dir":"ltr","plural":{"one":"n % 0 = 1"},"messages":{}}`
-- with 23 at `plural`, `one`.
use Rattle.std.specs.Prelude.{◌≡◌, ℕ, List, [], Some, None, Result, Ok, Err, codes}
use Rattle.std.specs.Str.{IsUtf8}
use Rattle.serde_json.specs.Data.{Data}
use Rattle.serde_json.specs.Read.{read}
use Rattle.soy_base.specs.declared.code.Code.TheVariants as code
use Rattle.soy_base.specs.declared.memory.Refusal.{Refusal}
use Rattle.soy_base.specs.declared.memory.Refusal.TheVariants as refusal
use Rattle.soy_tree.specs.declared.bundle.Bundle.{Bundle}
use Rattle.msg_extract.specs.declared.catalogue.Listed.{Listed}
use Rattle.msg_bundle.specs.declared.fault.BundleFault.{BundleFault}
use Rattle.msg_bundle.specs.BundleFault.{fault_at}
use Rattle.msg_bundle.specs.BundleForm.{IsFormFault, direction_of, form_fault}
use Rattle.msg_bundle.specs.BundleRules.{AreTheRules, HasRuleFault, HasRules, rule_texts}
use Rattle.msg_bundle.specs.Translations.{AreTranslations, HasTranslationFault, messages_of}

-- the bytes are UTF-8, and the text of this JSON value
abbrev pub IsJson : List ℕ → Data → Type 0
IsJson bytes json = IsUtf8 bytes × (read bytes ≡ Some json)

-- they are none of any
abbrev pub IsNoJson : List ℕ → Type 0
IsNoJson bytes = IsUtf8 bytes → read bytes ≡ None

-- the bundle that a JSON value stands for, beside the rows of a catalogue
pub record IsBundle (json : Data) (rows : List Listed) (bundle : Bundle) : Type 0 where
  pub form : form_fault json ≡ None
  pub direction : direction_of json ≡ Some bundle.dir
  pub plural : AreTheRules (rule_texts (codes "plural") json) bundle.plural
  pub ordinal : AreTheRules (rule_texts (codes "ordinal") json) bundle.ordinal
  pub messages : AreTranslations rows (messages_of json) bundle.messages

-- the first fault of a JSON value
pub data IsFaultOf (json : Data) (rows : List Listed) (fault : BundleFault) : Type 0 where
  form : IsFormFault json fault → IsFaultOf json rows fault
  plural : form_fault json ≡ None → HasRuleFault (codes "plural") (rule_texts (codes "plural") json) fault
      → IsFaultOf json rows fault
  ordinal : form_fault json ≡ None → HasRules (rule_texts (codes "plural") json)
      → HasRuleFault (codes "ordinal") (rule_texts (codes "ordinal") json) fault → IsFaultOf json rows fault
  translation : form_fault json ≡ None → HasRules (rule_texts (codes "plural") json)
      → HasRules (rule_texts (codes "ordinal") json) → HasTranslationFault rows (messages_of json) fault
      → IsFaultOf json rows fault

abbrev pub ReadsJson : Data → List Listed → Result Bundle (Refusal BundleFault) → Type 0
ReadsJson json rows (Ok bundle) = IsBundle json rows bundle
ReadsJson json rows (Err (refusal.Because fault)) = IsFaultOf json rows fault
ReadsJson json rows (Err refusal.OutOfMemory) = Unit {0}

-- no JSON, or JSON that is at fault
pub data RefusesBundle (bytes : List ℕ) (rows : List Listed) (fault : BundleFault) : Type 0 where
  no_json : IsNoJson bytes → fault ≡ fault_at code.Bundle [] → RefusesBundle bytes rows fault
  json : (json : Data) → IsJson bytes json → IsFaultOf json rows fault → RefusesBundle bytes rows fault

pub record BringsBundle (bytes : List ℕ) (rows : List Listed) (bundle : Bundle) : Type 0 where
  pub json : Data
  pub reads : IsJson bytes json
  pub is : IsBundle json rows bundle

-- **what is answered**
abbrev pub ReadsBundle : List ℕ → List Listed → Result Bundle (Refusal BundleFault) → Type 0
ReadsBundle bytes rows (Ok bundle) = BringsBundle bytes rows bundle
ReadsBundle bytes rows (Err (refusal.Because fault)) = RefusesBundle bytes rows fault
ReadsBundle bytes rows (Err refusal.OutOfMemory) = Unit {0}
