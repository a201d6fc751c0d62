-- Bytes beside the rows of a catalogue bring a bundle, or they have a first fault.
use Rattle.std.proofs.Common.{◌≡◌, ℕ, Bool, true, false, List, [], ◌∷◌, Option, Some, None, refl, sym, subst, ◌∙◌, ap}
use Rattle.std.proofs.Common.{◌⊎◌, inl, inr}
use Rattle.std.specs.Prelude.{is_some, if◌then◌else◌, codes}
use Rattle.std.specs.Str.{IsUtf8, chars, is_utf8}
use Rattle.std.proofs.lemmas.Str.{IsUtf8-from_is_utf8, is_utf8-from_IsUtf8}
use Rattle.serde_json.specs.Data.{Data, Members, no_members, member}
use Rattle.serde_json.specs.Find.{as_object}
use Rattle.serde_json.specs.Read.{read}
use Rattle.plural_rules.specs.declared.category.Category.{Category}
use Rattle.plural_rules.specs.declared.rules.RuleFault.{RuleFault}
use Rattle.plural_rules.specs.AreRulesOf.{AreRulesOf}
use Rattle.plural_rules.specs.Condition.{Alternatives, Condition}
use Rattle.plural_rules.specs.ReadsParts.{condition_read}
use Rattle.plural_rules.specs.RefusesEntries.{HasFault, HasFirstFault}
use Rattle.plural_rules.proofs.EntryLaws.{AreRulesOf-AreOnlyRulesOf}
use Rattle.plural_rules.proofs.ReadLaws.{condition_read-Condition, condition_read-None}
use Rattle.soy_base.specs.declared.code.Code.{Code}
use Rattle.soy_base.specs.declared.code.Code.TheVariants as code
use Rattle.soy_base.specs.declared.direction.Dir.{Dir}
use Rattle.soy_tree.specs.declared.bundle.Bundle.{Bundle}
use Rattle.soy_tree.specs.declared.bundle.Translation.{Translation}
use Rattle.soy_rules.specs.IcuText.{IsPattern}
use Rattle.soy_tree.specs.MessageParts.{MsgParts}
use Rattle.soy_tree.specs.ViewMessageParts.{view_parts}
use Rattle.icu_text.specs.ParsesMessage.{IsNoPattern}
use Rattle.icu_text.proofs.EitherAnswer.{pattern_or_none}
use Rattle.msg_extract.specs.Catalogue.{find_listed}
use Rattle.msg_extract.specs.Fits.{parts_fault}
use Rattle.msg_extract.specs.declared.catalogue.Listed.{Listed}
use Rattle.msg_bundle.specs.declared.fault.BundleFault.{BundleFault}
use Rattle.msg_bundle.specs.BundleFault.{fault_at}
use Rattle.soy_base.specs.Path.{Path}
use Rattle.msg_bundle.specs.BundleForm.{direction_of, form_fault, members_fault}
use Rattle.msg_bundle.specs.BundleRules.{rule_texts}
use Rattle.msg_bundle.specs.ReadsBundle as reads
use Rattle.msg_bundle.specs.ReadsBundle.{BringsBundle, IsBundle, IsFaultOf, RefusesBundle}
use Rattle.msg_bundle.specs.Translations.{AreTranslations, HasTextFault, HasTranslationFault, IsFirstFault, IsNext}
use Rattle.msg_bundle.specs.Translations.{IsTranslationUnder, message_path, messages_of, text_of}
use Rattle.msg_bundle.proofs.CodedParts.{coded_parts, parts_back}

-- ---- rules

-- an option is none or some
either_of : {A : Type 0} (P : Type 0) (o : Option A) → (o ≡ None → P) → ((a : A) → o ≡ Some a → P) → P
either_of P None none some = none refl
either_of P (Some a) none some = some a refl

abbrev RuleOrFault : Category → List ℕ → Type 0
RuleOrFault category text =
    ((says : Alternatives) × Condition category text says) ⊎ ((fault : RuleFault) × HasFault (category, text) fault)

rule_or_fault : (category : Category) (text : List ℕ) → RuleOrFault category text
rule_or_fault category text =
    either_of (RuleOrFault category text) (condition_read category text)
    (λ e. inr (_, condition_read-None category text e))
    (λ parts e. inl (_, condition_read-Condition category text parts e))

rules_or_fault : (entries : List (Category × List ℕ))
    → ((rules : List (Category × Alternatives)) × AreRulesOf entries rules)
    ⊎ ((fault : RuleFault) × HasFirstFault entries fault)
rules_or_fault [] = inl ([], tt)
rules_or_fault (entry ∷ entries) = at (rule_or_fault entry.0 entry.1) (rules_or_fault entries)
  where
    at : ((says : Alternatives) × Condition entry.0 entry.1 says)
        ⊎ ((fault : RuleFault) × HasFault (entry.0, entry.1) fault)
        → ((rules : List (Category × Alternatives)) × AreRulesOf entries rules)
        ⊎ ((fault : RuleFault) × HasFirstFault entries fault)
        → ((rules : List (Category × Alternatives)) × AreRulesOf (entry ∷ entries) rules)
        ⊎ ((fault : RuleFault) × HasFirstFault (entry ∷ entries) fault)
    at (inr fault) rest = inr (fault.0, inl fault.1)
    at (inl says) (inl rules) = inl ((entry.0, says.0) ∷ rules.0, ((refl, says.1), rules.1))
    at (inl says) (inr fault) = inr (fault.0, inr ((says.0, says.1), fault.1))

-- ---- translations

text_or_fault : (source : Listed) (key text : List ℕ)
    → ((t : Translation) × IsTranslationUnder source key text t)
    ⊎ ((fault : BundleFault) × HasTextFault source key text fault)
text_or_fault source key text = at (pattern_or_none text)
  where
    named : (parts : MsgParts) → IsPattern text parts → (o : Option Code) → parts_fault source parts ≡ o
        → ((t : Translation) × IsTranslationUnder source key text t)
        ⊎ ((fault : BundleFault) × HasTextFault source key text fault)
    named parts pattern None e =
        inl (
          record { id = chars key; parts = coded_parts parts },
          (
            refl,
            record {
              pattern = subst (IsPattern text) (sym (parts_back parts)) pattern;
              names = ap (parts_fault source) (parts_back parts) ∙ e;
            },
          ),
        )
    named parts pattern (Some found) e =
        inr (
          fault_at found (message_path key),
          inr (record {
            parts = parts;
            pattern = pattern;
            code = found;
            names = e;
            is = refl;
          }),
        )

    at : ((parts : MsgParts) × IsPattern text parts) ⊎ ((offset : ℕ) × IsNoPattern text offset)
        → ((t : Translation) × IsTranslationUnder source key text t)
        ⊎ ((fault : BundleFault) × HasTextFault source key text fault)
    at (inl p) = named p.0 p.1 (parts_fault source p.0) refl
    at (inr n) = inr (fault_at code.Icu (message_path key), inl (record { offset = n.0; none = n.1; is = refl }))

texts_or_fault : (rows : List Listed) (ms : Members)
    → ((ts : List Translation) × AreTranslations rows ms ts)
    ⊎ ((fault : BundleFault) × HasTranslationFault rows ms fault)
texts_or_fault rows no_members = inl ([], tt)
texts_or_fault rows (member key json ms) = at (find_listed (chars key) rows) (texts_or_fault rows ms)
  where
    at : (o : Option Listed)
        → ((ts : List Translation) × AreTranslations rows ms ts)
        ⊎ ((fault : BundleFault) × HasTranslationFault rows ms fault)
        → ((ts : List Translation) × IsNext o key (text_of json) (AreTranslations rows ms) ts)
        ⊎ ((fault : BundleFault) × IsFirstFault o key (text_of json) (HasTranslationFault rows ms) fault)
    at None rest = rest
    at (Some source) rest = both (text_or_fault source key (text_of json)) rest
      where
        both : ((t : Translation) × IsTranslationUnder source key (text_of json) t)
            ⊎ ((fault : BundleFault) × HasTextFault source key (text_of json) fault)
            → ((ts : List Translation) × AreTranslations rows ms ts)
            ⊎ ((fault : BundleFault) × HasTranslationFault rows ms fault)
            → ((ts : List Translation) × IsNext (Some source) key (text_of json) (AreTranslations rows ms) ts)
            ⊎ ((fault : BundleFault)
            × IsFirstFault (Some source) key (text_of json) (HasTranslationFault rows ms) fault)
        both (inr fault) rest = inr (fault.0, inl fault.1)
        both (inl t) (inl ts) = inl (t.0 ∷ ts.0, (t.1, ts.1))
        both (inl t) (inr fault) = inr (fault.0, inr ((view_parts t.0.parts, t.1.1), fault.1))

-- ---- the whole

-- what has the form of a bundle has a direction
has_direction : (json : Data) → form_fault json ≡ None → direction_of json ≡ None → ⊥
has_direction json form none = at (is_some (as_object json)) form
  where
    at : (b : Bool) → (if b then members_fault json else Some []) ≡ None → ⊥
    at false e = absurd (cc e)
    at true e = let f = rw none at e in absurd (cc f)

json_or_fault : (json : Data) (rows : List Listed)
    → ((bundle : Bundle) × IsBundle json rows bundle) ⊎ ((fault : BundleFault) × IsFaultOf json rows fault)
json_or_fault json rows = at (form_fault json) refl
  where
    Either : Type 0
    Either = ((bundle : Bundle) × IsBundle json rows bundle) ⊎ ((fault : BundleFault) × IsFaultOf json rows fault)

    ruled : form_fault json ≡ None → (d : Dir) → direction_of json ≡ Some d
        → ((rules : List (Category × Alternatives)) × AreRulesOf (rule_texts (codes "plural") json) rules)
        ⊎ ((fault : RuleFault) × HasFirstFault (rule_texts (codes "plural") json) fault)
        → ((rules : List (Category × Alternatives)) × AreRulesOf (rule_texts (codes "ordinal") json) rules)
        ⊎ ((fault : RuleFault) × HasFirstFault (rule_texts (codes "ordinal") json) fault)
        → ((ts : List Translation) × AreTranslations rows (messages_of json) ts)
        ⊎ ((fault : BundleFault) × HasTranslationFault rows (messages_of json) fault) → Either
    ruled form d direction (inr fault) ordinal texts =
        inr (_, reads.plural form (record { of = fault.0; first = fault.1; is = refl }))
    ruled form d direction (inl plural) (inr fault) texts =
        inr (_, reads.ordinal form plural (record { of = fault.0; first = fault.1; is = refl }))
    ruled form d direction (inl plural) (inl ordinal) (inr fault) =
        inr (fault.0, reads.translation form plural ordinal fault.1)
    ruled form d direction (inl plural) (inl ordinal) (inl texts) =
        inl (
          record { dir = d; plural = plural.0; ordinal = ordinal.0; messages = texts.0 },
          record {
            form = form;
            direction = direction;
            plural = (plural.1, AreRulesOf-AreOnlyRulesOf _ plural.0 plural.1);
            ordinal = (ordinal.1, AreRulesOf-AreOnlyRulesOf _ ordinal.0 ordinal.1);
            messages = texts.1;
          },
        )

    directed : form_fault json ≡ None → (o : Option Dir) → direction_of json ≡ o → Either
    directed form None none = absurd (has_direction json form none)
    directed form (Some d) direction =
        ruled form d direction (rules_or_fault (rule_texts (codes "plural") json))
        (rules_or_fault (rule_texts (codes "ordinal") json)) (texts_or_fault rows (messages_of json))

    at : (o : Option Path) → form_fault json ≡ o → Either
    at (Some path) e = inr (_, reads.form (record { path = path; first = e; is = refl }))
    at None e = directed e (direction_of json) refl

-- **bytes bring a bundle for the rows of a catalogue, or they have a first fault**
pub bundle_or_fault : (bytes : List ℕ) (rows : List Listed)
    → ((bundle : Bundle) × BringsBundle bytes rows bundle) ⊎ ((fault : BundleFault) × RefusesBundle bytes rows fault)
bundle_or_fault bytes rows = decoded (is_utf8 bytes) refl
  where
    Either : Type 0
    Either = ((bundle : Bundle) × BringsBundle bytes rows bundle)
        ⊎ ((fault : BundleFault) × RefusesBundle bytes rows fault)

    given : (json : Data) → reads.IsJson bytes json
        → ((bundle : Bundle) × IsBundle json rows bundle) ⊎ ((fault : BundleFault) × IsFaultOf json rows fault) → Either
    given json is (inl bundle) = inl (bundle.0, record { json = json; reads = is; is = bundle.1 })
    given json is (inr fault) = inr (fault.0, reads.json json is fault.1)

    found : IsUtf8 bytes → (o : Option Data) → read bytes ≡ o → Either
    found utf8 None none = inr (_, reads.no_json (λ u. none) refl)
    found utf8 (Some json) is = given json (utf8, is) (json_or_fault json rows)

    decoded : (b : Bool) → is_utf8 bytes ≡ b → Either
    decoded true e = found (IsUtf8-from_is_utf8 bytes e) (read bytes) refl
    decoded false e =
        inr (_, reads.no_json (λ u. let f : true ≡ false = sym (is_utf8-from_IsUtf8 bytes u) ∙ e in absurd (cc f)) refl)
