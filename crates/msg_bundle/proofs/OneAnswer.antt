-- What is a bundle isn't at fault.
use Rattle.std.proofs.Common.{◌≡◌, ℕ, List, [], ◌∷◌, Option, Some, None, sym, ap, ◌∙◌, inl, inr}
use Rattle.std.specs.Str.{chars}
use Rattle.serde_json.specs.Data.{Data, Members, no_members, member}
use Rattle.plural_rules.specs.declared.category.Category.{Category}
use Rattle.plural_rules.specs.declared.rules.RuleFault.{RuleFault}
use Rattle.plural_rules.specs.Condition.{Alternatives}
use Rattle.plural_rules.specs.AreRulesOf.{AreRulesOf}
use Rattle.plural_rules.specs.RefusesEntries.{HasFirstFault}
use Rattle.soy_tree.specs.declared.bundle.Bundle.{Bundle}
use Rattle.soy_tree.specs.declared.bundle.Translation.{Translation}
use Rattle.soy_tree.specs.MessageParts.{MsgParts}
use Rattle.soy_tree.specs.ViewMessageParts.{view_parts}
use Rattle.icu_text.proofs.PatternComplete.{one_pattern}
use Rattle.msg_extract.specs.Catalogue.{find_listed}
use Rattle.msg_extract.specs.Fits.{parts_fault}
use Rattle.msg_extract.specs.declared.catalogue.Listed.{Listed}
use Rattle.msg_bundle.specs.declared.fault.BundleFault.{BundleFault}
use Rattle.msg_bundle.specs.ReadsBundle as reads
use Rattle.msg_bundle.specs.ReadsBundle.{BringsBundle, IsBundle, IsFaultOf, RefusesBundle}
use Rattle.msg_bundle.specs.Translations.{AreTranslations, HasTextFault, HasTranslationFault, IsFirstFault, IsNext}
use Rattle.msg_bundle.specs.Translations.{Translates, text_of}

-- entries that are rules have no first fault
pub rules_apart : (entries : List (Category × List ℕ)) (rules : List (Category × Alternatives)) (fault : RuleFault)
    → AreRulesOf entries rules → HasFirstFault entries fault → ⊥
rules_apart [] rules fault are has = has
rules_apart (entry ∷ entries) [] fault are has = are
rules_apart (entry ∷ entries) (rule ∷ rules) fault are (inl here) = here.refused (rule.1, are.0.1)
rules_apart (entry ∷ entries) (rule ∷ rules) fault are (inr later) = rules_apart entries rules fault are.1 later.1

pub text_apart : (source : Listed) (key text : List ℕ) (parts : MsgParts) (fault : BundleFault)
    → Translates source text parts → HasTextFault source key text fault → ⊥
text_apart source key text parts fault is (inl unread) = unread.none.none parts is.pattern
text_apart source key text parts fault is (inr other) =
    let same : other.parts ≡ parts = one_pattern text other.parts parts other.pattern is.pattern in
    let e : Some other.code ≡ None = sym other.names ∙ (ap (parts_fault source) same ∙ is.names) in
    absurd (cc e)

pub texts_apart : (rows : List Listed) (ms : Members) (ts : List Translation) (fault : BundleFault)
    → AreTranslations rows ms ts → HasTranslationFault rows ms fault → ⊥
texts_apart rows no_members ts fault are has = has
texts_apart rows (member key json ms) ts fault are has =
    at (λ us k f. texts_apart rows ms us fault k f) (find_listed (chars key) rows) ts are has
  where
    at : ((us : List Translation) → AreTranslations rows ms us → HasTranslationFault rows ms fault → ⊥)
        → (o : Option Listed) (us : List Translation) → IsNext o key (text_of json) (AreTranslations rows ms) us
        → IsFirstFault o key (text_of json) (HasTranslationFault rows ms) fault → ⊥
    at more None us k f = more us k f
    at more (Some source) [] k f = k
    at more (Some source) (t ∷ us) k (inl here) =
        text_apart source key (text_of json) (view_parts t.parts) fault k.0.1 here
    at more (Some source) (t ∷ us) k (inr later) = more us k.1 later.1

json_apart : (json : Data) (rows : List Listed) (bundle : Bundle) (fault : BundleFault) → IsBundle json rows bundle
    → IsFaultOf json rows fault → ⊥
json_apart json rows bundle fault is (reads.form f) =
    let e : Some f.path ≡ None = sym f.first ∙ is.form in absurd (cc e)
json_apart json rows bundle fault is (reads.plural form rule) =
    rules_apart _ bundle.plural rule.of is.plural.0 rule.first
json_apart json rows bundle fault is (reads.ordinal form rules rule) =
    rules_apart _ bundle.ordinal rule.of is.ordinal.0 rule.first
json_apart json rows bundle fault is (reads.translation form plural ordinal text) =
    texts_apart rows _ bundle.messages fault is.messages text

pub bundle_apart : (bytes : List ℕ) (rows : List Listed) (bundle : Bundle) (fault : BundleFault)
    → BringsBundle bytes rows bundle → RefusesBundle bytes rows fault → ⊥
bundle_apart bytes rows bundle fault is (reads.no_json none at) =
    let e : Some is.json ≡ None = sym is.reads.1 ∙ none is.reads.0 in absurd (cc e)
bundle_apart bytes rows bundle fault is (reads.json json read has) =
    let e : Some is.json ≡ Some json = sym is.reads.1 ∙ read.1 in
    let same : is.json ≡ json = cc e in
    json_apart json rows bundle fault (rw same at is.is) has
