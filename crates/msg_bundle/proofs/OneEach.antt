-- Translations of entries whose keys ascend are of one id each.
use Rattle.std.proofs.Common.{◌≡◌, Bool, true, false, List, [], ◌∷◌, Option, Some, None, String, Global, Less}
use Rattle.std.proofs.Common.{string_bytes, string_cmp, is_eq, refl, sym, ap, ◌∙◌, true≢false, bytes_eq}
use Rattle.std.proofs.lemmas.Map.Text.{is_eq-slice_cmp}
use Rattle.std.proofs.lemmas.Slice.Eq.{bytes_eq-Decides}
use Rattle.std.proofs.lemmas.Str.{IsUtf8-string_bytes}
use Rattle.std.specs.List.{AllByRecursion}
use Rattle.std.specs.List.Sorted.{IsStrictlySortedBy}
use Rattle.std.specs.Map.{keys_of}
use Rattle.std.specs.Str.{chars}
use Rattle.serde_json.specs.View.{members_view, view}
use Rattle.serde_json.specs.declared.value.Value as json
use Rattle.soy_base.proofs.Texts.{bytes_eq-chars}
use Rattle.soy_tree.specs.declared.bundle.Translation.{Translation}
use Rattle.msg_extract.specs.Catalogue.{find_listed}
use Rattle.msg_extract.specs.declared.catalogue.Listed.{Listed}
use Rattle.msg_bundle.specs.BundleFits.{AreOfOneEach, is_translated}
use Rattle.msg_bundle.specs.Translations.{AreTranslations, IsNext, text_of}

abbrev Entry : Type 0
Entry = String Global × json.Value

-- a key that is below another isn't it
keys_apart : (key other : String Global) → string_cmp key other ≡ Less
    → bytes_eq (chars (string_bytes other)) (chars (string_bytes key)) ≡ false
keys_apart key other less = at (bytes_eq (string_bytes other) (string_bytes key)) refl
  where
    same : bytes_eq (string_bytes other) (string_bytes key)
        ≡ bytes_eq (chars (string_bytes other)) (chars (string_bytes key))
    same = bytes_eq-chars (string_bytes other) (string_bytes key) (IsUtf8-string_bytes other) (IsUtf8-string_bytes key)

    at : (b : Bool) → bytes_eq (string_bytes other) (string_bytes key) ≡ b
        → bytes_eq (chars (string_bytes other)) (chars (string_bytes key)) ≡ false
    at false e = sym same ∙ e
    at true e =
        let is : string_bytes other ≡ string_bytes key =
        (bytes_eq-Decides (string_bytes other) (string_bytes key)).0 e in
        let no : bytes_eq (string_bytes key) (string_bytes other) ≡ true =
        (bytes_eq-Decides (string_bytes key) (string_bytes other)).1 (sym is) in
        absurd (true≢false (sym no ∙ sym (is_eq-slice_cmp (string_bytes key) (string_bytes other)) ∙ ap is_eq less))

module _ (rows : List Listed) where
  none_later : (key : String Global) (entries : List Entry) (ts : List Translation)
      → AllByRecursion (λ k. string_cmp key k ≡ Less) (keys_of entries)
      → AreTranslations rows (members_view entries) ts → is_translated ts (chars (string_bytes key)) ≡ false
  none_later key [] [] above are = refl
  none_later key [] (t ∷ ts) above are = absurd are
  none_later key (e ∷ entries) ts above are =
      at (λ us k. none_later key entries us above.1 k) (find_listed (chars (string_bytes e.0)) rows) ts are
    where
      at : ((us : List Translation) → AreTranslations rows (members_view entries) us
          → is_translated us (chars (string_bytes key)) ≡ false) → (o : Option Listed) (us : List Translation)
          → IsNext o (string_bytes e.0) (text_of (view e.1)) (AreTranslations rows (members_view entries)) us
          → is_translated us (chars (string_bytes key)) ≡ false
      at more None us k = more us k
      at more (Some source) [] k = absurd k
      at more (Some source) (t ∷ us) k = rw (k.0.0, keys_apart key e.0 above.0) (more us k.1)

  pub one_each : (entries : List Entry) (ts : List Translation) → IsStrictlySortedBy string_cmp (keys_of entries)
      → AreTranslations rows (members_view entries) ts → AreOfOneEach ts
  unfolding IsStrictlySortedBy
  one_each [] [] ascend are = tt
  one_each [] (t ∷ ts) ascend are = absurd are
  one_each (e ∷ entries) ts ascend are =
      at (λ us k. one_each entries us ascend.1 k) (λ us k. none_later e.0 entries us ascend.0 k)
      (find_listed (chars (string_bytes e.0)) rows) ts are
    where
      at : ((us : List Translation) → AreTranslations rows (members_view entries) us → AreOfOneEach us)
          → ((us : List Translation) → AreTranslations rows (members_view entries) us
          → is_translated us (chars (string_bytes e.0)) ≡ false) → (o : Option Listed) (us : List Translation)
          → IsNext o (string_bytes e.0) (text_of (view e.1)) (AreTranslations rows (members_view entries)) us
          → AreOfOneEach us
      at more none None us k = more us k
      at more none (Some source) [] k = absurd k
      at more none (Some source) (t ∷ us) k = (rw k.0.0 (none us k.1), more us k.1)
