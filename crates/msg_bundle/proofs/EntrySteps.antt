-- The entries of a bundle's messages, one after another.
use Rattle.std.proofs.Common.{◌≡◌, ℕ, List, [], ◌∷◌, ◌++◌, Option, Some, None, sym, ap, ◌∙◌, append_assoc, inl}
use Rattle.std.proofs.Common.{inr, String, Global, string_bytes, subst}
use Rattle.std.specs.Prelude.{Result, Ok, Err}
use Rattle.std.specs.Str.{chars}
use Rattle.serde_json.specs.View.{members_view, view}
use Rattle.serde_json.specs.declared.value.Value as json
use Rattle.soy_base.specs.declared.memory.Refusal.{Refusal}
use Rattle.soy_base.specs.declared.memory.Refusal.TheVariants as refusal
use Rattle.soy_tree.specs.declared.bundle.Translation.{Translation}
use Rattle.soy_tree.specs.ViewMessageParts.{view_parts}
use Rattle.msg_extract.specs.Catalogue.{find_listed}
use Rattle.msg_extract.specs.declared.catalogue.Listed.{Listed}
use Rattle.msg_bundle.specs.declared.fault.BundleFault.{BundleFault}
use Rattle.msg_bundle.specs.Translations.{AreTranslations, HasTextFault, HasTranslationFault, IsTranslationUnder}
use Rattle.msg_bundle.specs.Translations.{ReadsNext, ReadsTranslations, text_of}

abbrev pub Entries : Type 0
Entries = List (String Global × json.Value)

-- no entry is left
pub none_left : (rows : List Listed) (left : Entries) → left ≡ [] → AreTranslations rows (members_view left) []
none_left rows left is = rw is tt

module _ (rows : List Listed) (whole left rest : Entries) (key : String Global) (entry : json.Value)
    (is : left ≡ (key, entry) ∷ rest) where
  abbrev Id : List ℕ
  Id = chars (string_bytes key)

  -- under an id that the catalogue lacks
  pub reads_none : (done : List Translation) → find_listed Id rows ≡ None
      → ((ts : List Translation) → AreTranslations rows (members_view left) ts
      → AreTranslations rows (members_view whole) (done ++ ts))
      → (ts : List Translation) → AreTranslations rows (members_view rest) ts
      → AreTranslations rows (members_view whole) (done ++ ts)
  reads_none done none so_far ts are = so_far ts (rw (is, none) are)

  pub faults_none : find_listed Id rows ≡ None
      → ((f : BundleFault) → HasTranslationFault rows (members_view left) f
      → HasTranslationFault rows (members_view whole) f)
      → (f : BundleFault) → HasTranslationFault rows (members_view rest) f
      → HasTranslationFault rows (members_view whole) f
  faults_none none so_far f has = so_far f (rw (is, none) has)

  -- under an id of the catalogue
  module _ (source : Listed) (found : find_listed Id rows ≡ Some source) where
    pub reads_some : (done now : List Translation) (t : Translation)
        → IsTranslationUnder source (string_bytes key) (text_of (view entry)) t → now ≡ done ++ t ∷ []
        → ((ts : List Translation) → AreTranslations rows (members_view left) ts
        → AreTranslations rows (members_view whole) (done ++ ts))
        → (ts : List Translation) → AreTranslations rows (members_view rest) ts
        → AreTranslations rows (members_view whole) (now ++ ts)
    reads_some done now t this now_is so_far ts are =
        subst (AreTranslations rows (members_view whole))
        (sym (ap (λ n. n ++ ts) now_is ∙ append_assoc done (t ∷ []) ts))
        (so_far (t ∷ ts) (rw (is, found) (this, are)))

    pub faults_some : (t : Translation) → IsTranslationUnder source (string_bytes key) (text_of (view entry)) t
        → ((f : BundleFault) → HasTranslationFault rows (members_view left) f
        → HasTranslationFault rows (members_view whole) f)
        → (f : BundleFault) → HasTranslationFault rows (members_view rest) f
        → HasTranslationFault rows (members_view whole) f
    faults_some t this so_far f has = so_far f (rw (is, found) (inr ((view_parts t.parts, this.1), has)))

    pub fault_here : (f : BundleFault) → HasTextFault source (string_bytes key) (text_of (view entry)) f
        → ((g : BundleFault) → HasTranslationFault rows (members_view left) g
        → HasTranslationFault rows (members_view whole) g)
        → HasTranslationFault rows (members_view whole) f
    fault_here f here so_far = so_far f (rw (is, found) (inl here))

  -- what the code does with an entry: `o` is what it finds under the id
  module _ (o : Option Listed) (id id' text : List ℕ) (id_is : id ≡ string_bytes key) (id'_is : id' ≡ string_bytes key)
      (text_is : text ≡ text_of (view entry)) (o_is : o ≡ find_listed (chars id) rows)
      (old now : List Translation) where
    found_is : find_listed Id rows ≡ o
    found_is = sym (o_is ∙ ap (λ i. find_listed (chars i) rows) id_is)

    as_entry : (r : Result (Unit {0}) (Refusal BundleFault)) → ReadsNext o id' text old now r
        → ReadsNext o (string_bytes key) (text_of (view entry)) old now r
    as_entry r h = rw (id'_is, text_is) at h

    pub next_reads : (done : Unit {0}) → ReadsNext o id' text old now (Ok done)
        → ((ts : List Translation) → AreTranslations rows (members_view left) ts
        → AreTranslations rows (members_view whole) (old ++ ts))
        → (ts : List Translation) → AreTranslations rows (members_view rest) ts
        → AreTranslations rows (members_view whole) (now ++ ts)
    next_reads done h so_far ts are = at o found_is (as_entry (Ok done) h)
      where
        at : (p : Option Listed) → find_listed Id rows ≡ p
            → ReadsNext p (string_bytes key) (text_of (view entry)) old now (Ok done)
            → AreTranslations rows (members_view whole) (now ++ ts)
        at None found k = rw k (reads_none old found so_far ts are)
        at (Some source) found k = reads_some source found old now k.0 k.1 k.2 so_far ts are

    pub next_faults : (done : Unit {0}) → ReadsNext o id' text old now (Ok done)
        → ((f : BundleFault) → HasTranslationFault rows (members_view left) f
        → HasTranslationFault rows (members_view whole) f)
        → (f : BundleFault) → HasTranslationFault rows (members_view rest) f
        → HasTranslationFault rows (members_view whole) f
    next_faults done h so_far f has = at o found_is (as_entry (Ok done) h)
      where
        at : (p : Option Listed) → find_listed Id rows ≡ p
            → ReadsNext p (string_bytes key) (text_of (view entry)) old now (Ok done)
            → HasTranslationFault rows (members_view whole) f
        at None found k = faults_none found so_far f has
        at (Some source) found k = faults_some source found k.0 k.1 so_far f has

    pub next_refused : (e : Refusal BundleFault) → ReadsNext o id' text old now (Err e)
        → ((f : BundleFault) → HasTranslationFault rows (members_view left) f
        → HasTranslationFault rows (members_view whole) f)
        → ReadsTranslations rows (members_view whole) (Err e)
    next_refused refusal.OutOfMemory h so_far = tt
    next_refused (refusal.Because f) h so_far = at o found_is (as_entry (Err (refusal.Because f)) h)
      where
        at : (p : Option Listed) → find_listed Id rows ≡ p
            → ReadsNext p (string_bytes key) (text_of (view entry)) old now (Err (refusal.Because f))
            → HasTranslationFault rows (members_view whole) f
        at None found k = absurd k
        at (Some source) found k = fault_here source found f k so_far
