-- What is known of the names of open elements where the innermost is closed, and what an end tag closes.
use Rattle.std.proofs.Common.{◌≡◌, ℕ, Bool, true, false, if◌then◌else◌, List, [], ◌∷◌, map, sym, ap, subst, ◌∙◌}
use Rattle.std.proofs.Common.{Option, Some, None, Global, Vec, BTreeMap}
use Rattle.std.specs.Str.{bytes_eq}
use Rattle.bidi_order.specs.Elements.{left_open}
use Rattle.bidi_preview.specs.AutoDirections.{OpenName, end_opened}
use Rattle.bidi_preview.specs.NameCounts.{HasCounts, count_in}
use Rattle.bidi_preview.proofs.CountedNames.{not_found, uncounted}

abbrev pub names_searched : List OpenName → List (List ℕ)
names_searched opened = map (λ (w : OpenName). w.name) opened

abbrev pub left_searched : List ℕ → List OpenName → Option (List OpenName)
left_searched name opened = left_open (λ (w : OpenName). w.name) name opened

pub names_more : (opened now : List OpenName) (w made : OpenName) (name : List ℕ)
    (old new : BTreeMap (Vec ℕ Global) ℕ) → now ≡ w ∷ opened → w ≡ made → name ≡ made.name
    → ((names : List (List ℕ)) → HasCounts old names → HasCounts new (name ∷ names))
    → HasCounts old (names_searched opened) → HasCounts new (names_searched now)
names_more opened now w made name old new more is named adds has =
    subst (λ ws. HasCounts new (names_searched ws)) (sym more)
    (subst (λ n. HasCounts new (n ∷ names_searched opened)) (named ∙ ap (λ (o : OpenName). o.name) (sym is))
    (adds (names_searched opened) has))

pub names_less : (all opened : List OpenName) (w : OpenName) (name : List ℕ)
    (old new : BTreeMap (Vec ℕ Global) ℕ) → all ≡ w ∷ opened → name ≡ w.name
    → ((names : List (List ℕ)) → HasCounts old (name ∷ names) → HasCounts new names)
    → HasCounts old (names_searched all) → HasCounts new (names_searched opened)
names_less all opened w name old new more named removes has = removes (names_searched opened)
    (subst (λ n. HasCounts old (n ∷ names_searched opened)) (sym named)
    (subst (λ ws. HasCounts old (names_searched ws)) more has))

ends_none : (name : List ℕ) (opened : List OpenName) → left_searched name opened ≡ None
    → opened ≡ end_opened name opened
ends_none name opened none =
    sym (ap (λ (o : Option (List OpenName)). elim o [ None ↦ opened | Some left ↦ left ]) none)

-- an end tag goes on past an innermost element of another name
pub search_goes_on : (name : List ℕ) (first all opened : List OpenName) (w : OpenName) (same : Bool)
    → all ≡ w ∷ opened → same ≡ bytes_eq w.name name → same ≡ false
    → left_searched name all ≡ left_searched name first → left_searched name opened ≡ left_searched name first
search_goes_on name first all opened w same more is other left =
    sym (ap (left_searched name) more ∙ ap (λ b. if b then Some opened else left_searched name opened) (sym is ∙ other))
    ∙ left

-- and closes it where it has the name
pub ends_last : (name : List ℕ) (first all opened : List OpenName) (w : OpenName) (same : Bool)
    → all ≡ w ∷ opened → same ≡ bytes_eq w.name name → same ≡ true
    → left_searched name all ≡ left_searched name first → opened ≡ end_opened name first
ends_last name first all opened w same more is last left =
    let some : left_searched name first ≡ Some opened = sym left ∙ ap (left_searched name) more
    ∙ ap (λ b. if b then Some opened else left_searched name opened) (sym is ∙ last) in
    sym (ap (λ (o : Option (List OpenName)). elim o [ None ↦ first | Some left ↦ left ]) some)

-- a name that is open nowhere closes nothing
pub ends_nothing : (name : Vec ℕ Global) (opened : List OpenName) (counts : BTreeMap (Vec ℕ Global) ℕ) (count : ℕ)
    → HasCounts counts (names_searched opened) → count ≡ count_in counts name → count ≡ 0
    → opened ≡ end_opened name.items opened
ends_nothing name opened counts count has is none = ends_none name.items opened
    (uncounted (λ (w : OpenName). w.name) name.items opened (sym (has name) ∙ sym is ∙ none))

-- and any other is found before no element is left
pub ends_one : (name : Vec ℕ Global) (first all after : List OpenName) (counts : BTreeMap (Vec ℕ Global) ℕ) (count : ℕ)
    → HasCounts counts (names_searched first) → count ≡ count_in counts name → (count ≡ 0 → ⊥) → all ≡ []
    → left_searched name.items all ≡ left_searched name.items first → after ≡ end_opened name.items first
ends_one name first all after counts count has is some none left =
    absurd (some (is ∙ has name ∙ not_found (λ (w : OpenName). w.name) name.items first
    (sym left ∙ ap (left_searched name.items) none)))
