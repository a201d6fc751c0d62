-- Bytes have one first fault, and they bring one bundle, as far as its translations are seen.
use Rattle.std.proofs.Common.{◌≡◌, ℕ, List, [], ◌∷◌, Option, Some, None, map, refl, sym, ap, ◌∙◌, inl, inr}
use Rattle.std.specs.Str.{chars}
use Rattle.serde_json.specs.Data.{Data, Members, no_members, member}
use Rattle.plural_rules.specs.declared.category.Category.{Category}
use Rattle.plural_rules.specs.declared.rules.RuleFault.{RuleFault}
use Rattle.plural_rules.specs.RefusesEntries.{HasFirstFault}
use Rattle.soy_base.specs.declared.code.Code.TheVariants as code
use Rattle.soy_tree.specs.declared.bundle.Bundle.{Bundle}
use Rattle.soy_tree.specs.declared.bundle.Translation.{Translation}
use Rattle.soy_rules.specs.IcuText.{keyword}
use Rattle.soy_tree.specs.ViewMessageParts.{view_parts}
use Rattle.icu_text.proofs.PatternComplete.{one_pattern}
use Rattle.msg_extract.specs.Catalogue.{find_listed}
use Rattle.msg_extract.specs.Fits.{parts_fault}
use Rattle.msg_extract.specs.declared.catalogue.Listed.{Listed}
use Rattle.msg_bundle.specs.declared.fault.BundleFault.{BundleFault}
use Rattle.msg_bundle.specs.BundleFault.{entry_path, fault_at}
use Rattle.msg_bundle.specs.BundleForm.{IsFormFault, form_fault}
use Rattle.msg_bundle.specs.BundleRules.{HasRuleFault}
use Rattle.msg_bundle.specs.ReadsBundle as reads
use Rattle.msg_bundle.specs.ReadsBundle.{BringsBundle, IsBundle, IsFaultOf, RefusesBundle}
use Rattle.msg_bundle.specs.Translations.{AreTranslations, HasTextFault, HasTranslationFault, IsFirstFault, IsNext}
use Rattle.msg_bundle.specs.Translations.{IsTranslationUnder, message_path, messages_of, text_of}
use Rattle.msg_bundle.specs.BundlesAlike.{BundlesAlike, view_translation}
use Rattle.msg_bundle.proofs.OneAnswer.{rules_apart, text_apart}

-- what is in two equal options is equal
inside : {A : Type 0} (x y : A) → ◌≡◌ {A = Option A} (Some x) (Some y) → x ≡ y
inside x y e = cc e

-- ---- faults

one_rule_fault : (entries : List (Category × List ℕ)) (f g : RuleFault) → HasFirstFault entries f
    → HasFirstFault entries g → f.category ≡ g.category
one_rule_fault [] f g a b = absurd a
one_rule_fault (entry ∷ entries) f g (inl a) (inl b) = a.category ∙ sym b.category
one_rule_fault (entry ∷ entries) f g (inl a) (inr b) = absurd (a.refused b.0)
one_rule_fault (entry ∷ entries) f g (inr a) (inl b) = absurd (b.refused a.0)
one_rule_fault (entry ∷ entries) f g (inr a) (inr b) = one_rule_fault entries f g a.1 b.1

one_rules_fault : (name : List ℕ) (texts : List (Category × List ℕ)) (f g : BundleFault) → HasRuleFault name texts f
    → HasRuleFault name texts g → f ≡ g
one_rules_fault name texts f g a b =
    a.is
    ∙ ap (λ c. fault_at code.Rule (entry_path name (keyword c))) (one_rule_fault texts a.of b.of a.first b.first)
    ∙ sym b.is

one_text_fault : (source : Listed) (key text : List ℕ) (f g : BundleFault) → HasTextFault source key text f
    → HasTextFault source key text g → f ≡ g
one_text_fault source key text f g (inl a) (inl b) = a.is ∙ sym b.is
one_text_fault source key text f g (inl a) (inr b) = absurd (a.none.none b.parts b.pattern)
one_text_fault source key text f g (inr a) (inl b) = absurd (b.none.none a.parts a.pattern)
one_text_fault source key text f g (inr a) (inr b) =
    let same : a.parts ≡ b.parts = one_pattern text a.parts b.parts a.pattern b.pattern in
    let named = sym a.names ∙ (ap (parts_fault source) same ∙ b.names) in
    a.is ∙ ap (λ c. fault_at c (message_path key)) (inside a.code b.code named) ∙ sym b.is

one_texts_fault : (rows : List Listed) (ms : Members) (f g : BundleFault) → HasTranslationFault rows ms f
    → HasTranslationFault rows ms g → f ≡ g
one_texts_fault rows no_members f g a b = absurd a
one_texts_fault rows (member key json ms) f g a b =
    at (λ x y. one_texts_fault rows ms f g x y) (find_listed (chars key) rows) a b
  where
    at : (HasTranslationFault rows ms f → HasTranslationFault rows ms g → f ≡ g) → (o : Option Listed)
        → IsFirstFault o key (text_of json) (HasTranslationFault rows ms) f
        → IsFirstFault o key (text_of json) (HasTranslationFault rows ms) g → f ≡ g
    at more None x y = more x y
    at more (Some source) (inl x) (inl y) = one_text_fault source key (text_of json) f g x y
    at more (Some source) (inl x) (inr y) = absurd (text_apart source key (text_of json) y.0.0 f y.0.1 x)
    at more (Some source) (inr x) (inl y) = absurd (text_apart source key (text_of json) x.0.0 g x.0.1 y)
    at more (Some source) (inr x) (inr y) = more x.1 y.1

-- what has the form of a bundle isn't refused for its form
formed : {A : Type 0} (json : Data) (fault : BundleFault) → IsFormFault json fault → form_fault json ≡ None → A
formed json fault f none = let e = sym f.first ∙ none in absurd (cc e)

one_json_fault : (json : Data) (rows : List Listed) (f g : BundleFault) → IsFaultOf json rows f → IsFaultOf json rows g
    → f ≡ g
one_json_fault json rows f g (reads.form a) (reads.form b) =
    let same = inside a.path b.path (sym a.first ∙ b.first) in a.is ∙ ap (fault_at code.Bundle) same ∙ sym b.is
one_json_fault json rows f g (reads.form a) (reads.plural form b) = formed json f a form
one_json_fault json rows f g (reads.form a) (reads.ordinal form plural b) = formed json f a form
one_json_fault json rows f g (reads.form a) (reads.translation form plural ordinal b) = formed json f a form
one_json_fault json rows f g (reads.plural form a) (reads.form b) = formed json g b form
one_json_fault json rows f g (reads.plural form a) (reads.plural form2 b) = one_rules_fault _ _ f g a b
one_json_fault json rows f g (reads.plural form a) (reads.ordinal form2 plural b) =
    absurd (rules_apart _ plural.0 a.of plural.1 a.first)
one_json_fault json rows f g (reads.plural form a) (reads.translation form2 plural ordinal b) =
    absurd (rules_apart _ plural.0 a.of plural.1 a.first)
one_json_fault json rows f g (reads.ordinal form plural a) (reads.form b) = formed json g b form
one_json_fault json rows f g (reads.ordinal form plural a) (reads.plural form2 b) =
    absurd (rules_apart _ plural.0 b.of plural.1 b.first)
one_json_fault json rows f g (reads.ordinal form plural a) (reads.ordinal form2 plural2 b) = one_rules_fault _ _ f g a b
one_json_fault json rows f g (reads.ordinal form plural a) (reads.translation form2 plural2 ordinal b) =
    absurd (rules_apart _ ordinal.0 a.of ordinal.1 a.first)
one_json_fault json rows f g (reads.translation form plural ordinal a) (reads.form b) = formed json g b form
one_json_fault json rows f g (reads.translation form plural ordinal a) (reads.plural form2 b) =
    absurd (rules_apart _ plural.0 b.of plural.1 b.first)
one_json_fault json rows f g (reads.translation form plural ordinal a) (reads.ordinal form2 plural2 b) =
    absurd (rules_apart _ ordinal.0 b.of ordinal.1 b.first)
one_json_fault json rows f g (reads.translation form plural ordinal a) (reads.translation form2 plural2 ordinal2 b) =
    one_texts_fault rows (messages_of json) f g a b

-- the JSON value of bytes is one
one_json : (bytes : List ℕ) (x y : Data) → reads.IsJson bytes x → reads.IsJson bytes y → x ≡ y
one_json bytes x y a b = inside x y (sym a.1 ∙ b.1)

no_json : {A : Type 0} (bytes : List ℕ) (x : Data) → reads.IsNoJson bytes → reads.IsJson bytes x → A
no_json bytes x none is = let e = sym is.1 ∙ none is.0 in absurd (cc e)

pub one_fault : (bytes : List ℕ) (rows : List Listed) (f g : BundleFault) → RefusesBundle bytes rows f
    → RefusesBundle bytes rows g → f ≡ g
one_fault bytes rows f g (reads.no_json none a) (reads.no_json other b) = a ∙ sym b
one_fault bytes rows f g (reads.no_json none a) (reads.json json is b) = no_json bytes json none is
one_fault bytes rows f g (reads.json json is a) (reads.no_json none b) = no_json bytes json none is
one_fault bytes rows f g (reads.json json is a) (reads.json other js b) =
    let same : json ≡ other = one_json bytes json other is js in one_json_fault other rows f g (rw same at a) b

-- ---- bundles

one_text : (source : Listed) (key text : List ℕ) (t u : Translation) → IsTranslationUnder source key text t
    → IsTranslationUnder source key text u → view_translation t ≡ view_translation u
one_text source key text t u a b =
    let id : t.id ≡ u.id = a.0 ∙ sym b.0 in
    let parts = one_pattern text (view_parts t.parts) (view_parts u.parts) a.1.pattern b.1.pattern in
    rw (id, parts) refl

one_list : (rows : List Listed) (ms : Members) (ts us : List Translation) → AreTranslations rows ms ts
    → AreTranslations rows ms us → map view_translation ts ≡ map view_translation us
one_list rows no_members [] [] a b = refl
one_list rows no_members [] (u ∷ us) a b = absurd b
one_list rows no_members (t ∷ ts) us a b = absurd a
one_list rows (member key json ms) ts us a b =
    at (λ xs ys x y. one_list rows ms xs ys x y) (find_listed (chars key) rows) ts us a b
  where
    at : ((xs ys : List Translation) → AreTranslations rows ms xs → AreTranslations rows ms ys
        → map view_translation xs ≡ map view_translation ys)
        → (o : Option Listed) (xs ys : List Translation) → IsNext o key (text_of json) (AreTranslations rows ms) xs
        → IsNext o key (text_of json) (AreTranslations rows ms) ys → map view_translation xs ≡ map view_translation ys
    at more None xs ys x y = more xs ys x y
    at more (Some source) [] ys x y = absurd x
    at more (Some source) (t ∷ xs) [] x y = absurd y
    at more (Some source) (t ∷ xs) (u ∷ ys) x y =
        ap (λ v. v ∷ map view_translation xs) (one_text source key (text_of json) t u x.0 y.0)
        ∙ ap (λ vs. view_translation u ∷ vs) (more xs ys x.1 y.1)

one_of_json : (json : Data) (rows : List Listed) (a b : Bundle) → IsBundle json rows a → IsBundle json rows b
    → BundlesAlike a b
one_of_json json rows a b x y = record {
  dir = inside a.dir b.dir (sym x.direction ∙ y.direction);
  plural = y.plural.1 a.plural x.plural.0;
  ordinal = y.ordinal.1 a.ordinal x.ordinal.0;
  messages = one_list rows (messages_of json) a.messages b.messages x.messages y.messages;
}

pub one_bundle : (bytes : List ℕ) (rows : List Listed) (a b : Bundle) → BringsBundle bytes rows a
    → BringsBundle bytes rows b → BundlesAlike a b
one_bundle bytes rows a b x y =
    let same : x.json ≡ y.json = one_json bytes x.json y.json x.reads y.reads in
    one_of_json y.json rows a b (rw same at x.is) y.is
