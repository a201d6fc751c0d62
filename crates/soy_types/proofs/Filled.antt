-- Entries that are filled by name.
use Rattle.std.proofs.Common.{◌≡◌, ℕ, zero, suc, ◌+◌, ◌<◌, ◌≤◌, Bool, true, false, not, ◌&&◌, ◌||◌, List, [], ◌∷◌, ◌++◌}
use Rattle.std.proofs.Common.{length, map, take, drop, slice_index_or, Option, Some, None, true≢false, bytes_eq, arith}
use Rattle.std.proofs.Common.{refl, sym, ap, ◌∙◌, subst, encode_utf8_all}
use Rattle.std.proofs.lemmas.Option.{none-some, same_Some}
use Rattle.std.proofs.lemmas.Slice.Eq.{bytes_eq-Decides}
use Rattle.std.specs.Prelude.{Ok, unwrap_or}
use Rattle.serde_json.specs.Data.{Data, Members, no_members, null, object, put}
use Rattle.serde_json.specs.Find.{get_member}
use Rattle.serde_json.proofs.Views.{get_member-put, get_member-put_other}
use Rattle.soy_rules.specs.ShortLists.{EntriesShort, HasShortLists}
use Rattle.soy_rules.specs.Val.{is_null_value}
use Rattle.soy_tree.specs.declared.value.Entry.{Entry}
use Rattle.soy_tree.specs.declared.value.Value as code_value
use Rattle.soy_tree.specs.Types.{Name, SoyType}
use Rattle.soy_tree.specs.Values.{Value, NullValue, RecordValue}
use Rattle.soy_tree.specs.ViewTypes.{fields_of}
use Rattle.soy_tree.specs.ViewValues.{entries_of, view_entries, view_entry, view_value}
use Rattle.soy_types.specs.Filling.{AreEntries, FieldAt, IsEntryAt, IsFilled, IsValueOf, MayBeNull, MayBeNullAt}
use Rattle.soy_types.specs.Filling.{NullsFit, are_distinct, has_entry}
use Rattle.soy_types.specs.Paths.{all_read, headed, onward}
use Rattle.soy_types.specs.Read.{field_results, under_key, value_at}
use Rattle.soy_types.specs.TokenValues.{record_at}
use Rattle.soy_types.proofs.Pushed.{view_entry_is}
use Rattle.soy_types.proofs.Views.{view_record}

neither : (a b : Bool) → (a || b) ≡ false → (a ≡ false) × (b ≡ false)
neither true b h = let no : ⊥ = cc in absurd no
neither false b h = (refl, h)

not_but : (a b : Bool) → (not a && b) ≡ true → (a ≡ false) × (b ≡ true)
not_but true b h = let no : ⊥ = cc in absurd no
not_but false b h = (refl, h)

or_true : (a b : Bool) → b ≡ true → (a || b) ≡ true
or_true true b h = refl
or_true false b h = h

true_or : (a b : Bool) → a ≡ true → (a || b) ≡ true
true_or true b h = refl
true_or false b h = let no : ⊥ = cc in absurd no

-- ---- members by name

put_elsewhere : (k l : List ℕ) (d : Data) (ms : Members) → bytes_eq l k ≡ false
    → get_member k (put l d ms) ≡ get_member k ms
put_elsewhere k l d ms other =
    get_member-put_other k l d ms (λ same. true≢false (sym ((bytes_eq-Decides l k).1 (sym same)) ∙ other))

put_here : (k l : List ℕ) (d : Data) (ms : Members) → bytes_eq l k ≡ true → get_member k (put l d ms) ≡ Some d
put_here k l d ms same =
    subst (λ x. get_member x (put l d ms) ≡ Some d) ((bytes_eq-Decides l k).0 same) (get_member-put l d ms)

-- ---- a key that no entry has, and one that an entry has

pub skipped : (fs : List (Name × SoyType)) (ms : Members) (es : List Entry) (key : List ℕ) (d : Data)
    → AreEntries fs ms es → has_entry key es ≡ false → AreEntries fs (put key d ms) es
skipped [] ms [] key d are none = tt
skipped [] ms (e ∷ es) key d are none = absurd are
skipped (f ∷ fs) ms [] key d are none = absurd are
skipped (f ∷ fs) ms (e ∷ es) key d are none =
    let parts = neither (bytes_eq key (encode_utf8_all e.name)) (has_entry key es) none in
    let other : bytes_eq key (encode_utf8_all f.0) ≡ false =
    subst (λ n. bytes_eq key (encode_utf8_all n) ≡ false) are.0 parts.0 in (
      are.0,
      subst (λ o. IsValueOf f.1 o (view_value e.value)) (sym (put_elsewhere (encode_utf8_all f.0) key d ms other))
          are.1,
      skipped fs ms es key d are.2 parts.1,
    )

pub entry_found : (key : List ℕ) (i : ℕ) (es : List Entry) → IsEntryAt key i es → has_entry key es ≡ true
entry_found key i [] at = absurd at
entry_found key zero (e ∷ es) at = true_or (bytes_eq key (encode_utf8_all e.name)) (has_entry key es) at
entry_found key (suc i) (e ∷ es) at =
    or_true (bytes_eq key (encode_utf8_all e.name)) (has_entry key es) (entry_found key i es at)

pub entry_within : (key : List ℕ) (i : ℕ) (es : List Entry) → IsEntryAt key i es → i < length es
entry_within key i [] at = absurd at
entry_within key zero (e ∷ es) at = omega arith
entry_within key (suc i) (e ∷ es) at = omega (arith, entry_within key i es at)

-- an entry before the one that has the key doesn't
before_it : (b : Bool) (key name : List ℕ) (i : ℕ) (es : List Entry) → bytes_eq key name ≡ b
    → has_entry name es ≡ false → IsEntryAt key i es → b ≡ false
before_it false key name i es is none at = refl
before_it true key name i es is none at =
    let same : key ≡ name = (bytes_eq-Decides key name).0 is in
    absurd (true≢false (sym (entry_found key i es at) ∙ ap (λ k. has_entry k es) same ∙ none))

pub filled : (fs : List (Name × SoyType)) (ms : Members) (es now : List Entry) (i : ℕ) (key : List ℕ)
    (v : code_value.Value) (d : Data) (name : Name) (t : SoyType) → AreEntries fs ms es → are_distinct es ≡ true
    → IsEntryAt key i es → IsFilled i v es now → FieldAt i name t fs → value_at t d ≡ Ok (view_value v)
    → AreEntries fs (put key d ms) now
filled [] ms es now i key v d name t are alone at is field read = absurd (none-some (name, t) field)
filled (f ∷ fs) ms [] now i key v d name t are alone at is field read = absurd are
filled (f ∷ fs) ms (e ∷ es) [] zero key v d name t are alone at is field read = absurd is
filled (f ∷ fs) ms (e ∷ es) [] (suc i) key v d name t are alone at is field read = absurd is
filled (f ∷ fs) ms (e ∷ es) (x ∷ xs) zero key v d name t are alone at is field read =
    let parts = not_but (has_entry (encode_utf8_all e.name) es) (are_distinct es) alone in
    let same : key ≡ encode_utf8_all e.name = (bytes_eq-Decides key (encode_utf8_all e.name)).0 at in
    let here : bytes_eq key (encode_utf8_all f.0) ≡ true =
    subst (λ n. bytes_eq key (encode_utf8_all n) ≡ true) are.0 at in
    let later : has_entry key es ≡ false = ap (λ k. has_entry k es) same ∙ parts.0 in
    let value : value_at f.1 d ≡ Ok (view_value x.value) =
    ap (λ (p : Name × SoyType). value_at p.1 d) (same_Some f (name, t) field)
    ∙ read
    ∙ ap (λ w. Ok (view_value w)) (sym is.1) in (
      is.0 ∙ are.0,
      subst (λ o. IsValueOf f.1 o (view_value x.value)) (sym (put_here (encode_utf8_all f.0) key d ms here)) value,
      subst (AreEntries fs (put key d ms)) (sym is.2) (skipped fs ms es key d are.2 later),
    )
filled (f ∷ fs) ms (e ∷ es) (x ∷ xs) (suc i) key v d name t are alone at is field read =
    let parts = not_but (has_entry (encode_utf8_all e.name) es) (are_distinct es) alone in
    let not_here : bytes_eq key (encode_utf8_all e.name) ≡ false =
    before_it (bytes_eq key (encode_utf8_all e.name)) key (encode_utf8_all e.name) i es refl parts.0 at in
    let other : bytes_eq key (encode_utf8_all f.0) ≡ false =
    subst (λ n. bytes_eq key (encode_utf8_all n) ≡ false) are.0 not_here in (
      ap (λ y. y.name) is.0 ∙ are.0,
      subst (λ o. IsValueOf f.1 o (view_value x.value)) (sym (put_elsewhere (encode_utf8_all f.0) key d ms other))
          (subst (λ y. IsValueOf f.1 (get_member (encode_utf8_all f.0) ms) (view_value y.value)) (sym is.0) are.1),
      filled fs ms es xs i key v d name t are.2 parts.1 at is.1 field read,
    )

-- the names stay
names_kept : (i : ℕ) (v : code_value.Value) (es now : List Entry) (k : List ℕ) → IsFilled i v es now
    → has_entry k now ≡ has_entry k es
names_kept zero v [] now k is = absurd is
names_kept (suc i) v [] now k is = absurd is
names_kept zero v (e ∷ es) [] k is = absurd is
names_kept (suc i) v (e ∷ es) [] k is = absurd is
names_kept zero v (e ∷ es) (x ∷ xs) k is =
    ap (λ n. bytes_eq k (encode_utf8_all n) || has_entry k xs) is.0
    ∙ ap (λ ys. bytes_eq k (encode_utf8_all e.name) || has_entry k ys) is.2
names_kept (suc i) v (e ∷ es) (x ∷ xs) k is =
    ap (λ y. bytes_eq k (encode_utf8_all y.name) || has_entry k xs) is.0
    ∙ ap (λ b. bytes_eq k (encode_utf8_all e.name) || b) (names_kept i v es xs k is.1)

pub distinct_kept : (i : ℕ) (v : code_value.Value) (es now : List Entry) → IsFilled i v es now
    → are_distinct now ≡ are_distinct es
distinct_kept zero v [] now is = absurd is
distinct_kept (suc i) v [] now is = absurd is
distinct_kept zero v (e ∷ es) [] is = absurd is
distinct_kept (suc i) v (e ∷ es) [] is = absurd is
distinct_kept zero v (e ∷ es) (x ∷ xs) is =
    ap (λ n. not (has_entry (encode_utf8_all n) xs) && are_distinct xs) is.0
    ∙ ap (λ ys. not (has_entry (encode_utf8_all e.name) ys) && are_distinct ys) is.2
distinct_kept (suc i) v (e ∷ es) (x ∷ xs) is =
    ap (λ y. not (has_entry (encode_utf8_all y.name) xs) && are_distinct xs) is.0
    ∙ ap (λ b. not b && are_distinct xs) (names_kept i v es xs (encode_utf8_all e.name) is.1)
    ∙ ap (λ b. not (has_entry (encode_utf8_all e.name) es) && b) (distinct_kept i v es xs is.1)

-- a short value in an entry
pub entry_short : (e : Entry) (v : code_value.Value) → e.value ≡ v → HasShortLists (view_value v)
    → HasShortLists (view_entry e).1
entry_short e v is short =
    subst (λ (x : Name × Value). HasShortLists x.1) (sym (view_entry_is e))
    (subst (λ w. HasShortLists (view_value w)) (sym is) short)

pub short_kept : (i : ℕ) (v : code_value.Value) (es now : List Entry) → IsFilled i v es now
    → HasShortLists (view_value v) → EntriesShort (view_entries es) → EntriesShort (view_entries now)
short_kept zero v [] now is short were = absurd is
short_kept (suc i) v [] now is short were = absurd is
short_kept zero v (e ∷ es) [] is short were = absurd is
short_kept (suc i) v (e ∷ es) [] is short were = absurd is
short_kept zero v (e ∷ es) (x ∷ xs) is short were =
    (entry_short x v is.1 short, subst (λ ys. EntriesShort (view_entries ys)) (sym is.2) were.1)
short_kept (suc i) v (e ∷ es) (x ∷ xs) is short were =
    (subst (λ y. HasShortLists (view_entry y).1) (sym is.0) were.0, short_kept i v es xs is.1 short were.1)

-- ---- entries that are null

pub one_blank : (fs : List (Name × SoyType)) (es : List Entry) (name : Name) (t : SoyType) (e : Entry)
    → AreEntries fs no_members es → e.name ≡ name → view_value e.value ≡ NullValue
    → AreEntries (fs ++ (name, t) ∷ []) no_members (es ++ e ∷ [])
one_blank [] [] name t e are named blank = (named, blank, tt)
one_blank [] (x ∷ es) name t e are named blank = absurd are
one_blank (f ∷ fs) [] name t e are named blank = absurd are
one_blank (f ∷ fs) (x ∷ es) name t e are named blank = (are.0, are.1, one_blank fs es name t e are.2 named blank)

pub field_taken : (i : ℕ) (name : Name) (t : SoyType) (fs : List (Name × SoyType)) → FieldAt i name t fs
    → take (i + 1) fs ≡ take i fs ++ (name, t) ∷ []
field_taken i name t [] at = absurd (none-some (name, t) at)
field_taken zero name t (f ∷ fs) at = ap (λ g. g ∷ []) (same_Some f (name, t) at)
field_taken (suc i) name t (f ∷ fs) at =
    let e : suc i + 1 ≡ suc (i + 1) = omega arith in rw e (ap (λ gs. f ∷ gs) (field_taken i name t fs at))

pub all_taken : (i : ℕ) (fs : List (Name × SoyType)) → length fs ≤ i → take i fs ≡ fs
all_taken zero [] h = refl
all_taken (suc i) [] h = refl
all_taken zero (f ∷ fs) h = absurd (omega arith)
all_taken (suc i) (f ∷ fs) h = ap (λ gs. f ∷ gs) (all_taken i fs (omega arith))

pub null_left : (fs : List (Name × SoyType)) (es : List Entry) (i : ℕ) (e : Entry) → i < length es
    → e ≡ slice_index_or es i e → MayBeNullAt i fs (view_value e.value)
    → NullsFit (drop (i + 1) fs) (drop (i + 1) es) → NullsFit (drop i fs) (drop i es)
null_left fs [] i e below_ is may rest = absurd (omega arith)
null_left [] (x ∷ es) zero e below_ is may rest = tt
null_left [] (x ∷ es) (suc i) e below_ is may rest = tt
null_left (f ∷ fs) (x ∷ es) zero e below_ is may rest = (
  λ blank.
      let found = may (ap (λ y. is_null_value (view_value y.value)) is ∙ blank) in
      ap (λ (p : Name × SoyType). value_at p.1 null) (same_Some f (found.0, found.1) found.2) ∙ found.3,
  rest,
)
null_left (f ∷ fs) (x ∷ es) (suc i) e below_ is may rest =
    let n : suc i + 1 ≡ suc (i + 1) = omega arith in
    null_left fs es i e (omega arith) is may
    (subst (λ k. NullsFit (drop k (f ∷ fs)) (drop k (x ∷ es))) n rest)

-- ---- all fields

value_of : (t : SoyType) (o : Option Data) (v : Value) → IsValueOf t o v → MayBeNull t v
    → value_at t (unwrap_or o null) ≡ Ok v
value_of t None v is may = may (ap is_null_value is) ∙ ap Ok (sym is)
value_of t (Some d) v is may = is

complete : (fs : List (Name × SoyType)) (ms : Members) (es : List Entry) → AreEntries fs ms es → NullsFit fs es
    → all_read (field_results (fields_of fs) (object ms)) ≡ Ok (map view_entry es)
complete [] ms [] are fit = refl
complete [] ms (e ∷ es) are fit = absurd are
complete (f ∷ fs) ms [] are fit = absurd are
complete (f ∷ fs) ms (e ∷ es) are fit =
    let read = value_of f.1 (get_member (encode_utf8_all f.0) ms) (view_value e.value) are.1 fit.0 in
    let entry : view_entry e ≡ (f.0, view_value e.value) =
    view_entry_is e ∙ ap (λ (n : Name). (n, view_value e.value)) are.0 in
    ap (λ r. headed (under_key f.0 r) (all_read (field_results (fields_of fs) (object ms)))) read
    ∙ ap (headed (Ok (f.0, view_value e.value))) (complete fs ms es are.2 fit.1)
    ∙ ap (λ (x : Name × Value). Ok (x ∷ map view_entry es)) (sym entry)

pub record_is : (fs : List (Name × SoyType)) (ms : Members) (es : List Entry) → AreEntries fs ms es → NullsFit fs es
    → record_at fs (object ms) ≡ Ok (view_value (code_value.Fields es))
record_is fs ms es are fit =
    ap (onward (λ xs. RecordValue (entries_of xs))) (complete fs ms es are fit) ∙ ap Ok (sym (view_record es))
