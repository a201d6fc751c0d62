-- Types whose texts have numbers: one without is the same as none of them, and one more is added.
use Rattle.std.proofs.Common.{◌≡◌, ℕ, zero, suc, Bool, true, false, ◌&&◌, ◌||◌, List, [], ◌∷◌, ◌++◌, map, refl, ap, sym}
use Rattle.std.proofs.Common.{subst, ◌∙◌, cond, Option, Some, None, slice_get, take, length, ◌+◌, ◌<◌, slice_index_or}
use Rattle.std.proofs.Common.{arith}
use Rattle.std.specs.Bool.{OnTrue}
use Rattle.std.specs.Prelude.{if◌then◌else◌, bytes_eq, is_some}
use Rattle.std.specs.List.{list_all, list_any}
use Rattle.std.specs.HashMap.{HashMap, get}
use Rattle.std.proofs.lemmas.Slice.Eq.{bytes_eq-Decides}
use Rattle.soy_tree.specs.Types.{SoyType}
use Rattle.soy_tree.specs.declared.soy_type.SoyType as code
use Rattle.soy_tree.specs.ViewTypes.{view_type}
use Rattle.soy_tree.proofs.SameNames.{both}
use Rattle.soy_rules.specs.Members.{is_same_type, with_member}
use Rattle.soy_rules.specs.TypeText.{type_text}
use Rattle.soy_rules.proofs.SameTypes.{same_type}
use Rattle.soy_expr.specs.TypeNumbers.{AddsText, HasTexts, has_text}

true_not_false : {A : Type 0} (b : Bool) → b ≡ true → b ≡ false → A
true_not_false true e f = let no : ⊥ = cc in absurd no
true_not_false false e f = let no : ⊥ = cc in absurd no

or_true : (b : Bool) → (b || true) ≡ true
or_true true = refl
or_true false = refl

or_last : (b : Bool) → b ≡ (b || false)
or_last true = refl
or_last false = refl

take_next : (types : List code.SoyType) (n : ℕ) (t : code.SoyType) → n < length types → t ≡ slice_index_or types n t
    → map view_type (take (n + 1) types) ≡ map view_type (take n types) ++ view_type t ∷ []
take_next [] n t below is = absurd (omega arith)
take_next (x ∷ types) zero t below is = rw is refl
take_next (x ∷ types) (suc n) t below is =
    let e : suc n + 1 ≡ suc (n + 1) = omega arith in
    rw e (ap (λ (us : List SoyType). view_type x ∷ us) (take_next types n t (omega arith) is))

map_snoc : (types : List code.SoyType) (t : code.SoyType)
    → map view_type (types ++ t ∷ []) ≡ map view_type types ++ view_type t ∷ []
map_snoc [] t = refl
map_snoc (x ∷ types) t = ap (λ (us : List SoyType). view_type x ∷ us) (map_snoc types t)

module _ {S : Type 0} where
  -- a type whose text has no number is the same as none
  pub none_same : (numbers : HashMap (List ℕ) ℕ S) (u : SoyType) (ts : List SoyType)
      → has_text numbers (type_text u) ≡ false → HasTexts numbers ts → list_any (is_same_type u) ts ≡ false
  none_same numbers u [] none all = refl
  none_same numbers u (t ∷ ts) none all =
      let parts : (has_text numbers (type_text t) ≡ true) × HasTexts numbers ts =
      both (has_text numbers (type_text t)) (list_all (λ x. has_text numbers (type_text x)) ts) all in
      by (is_same_type u t) refl parts.0 (none_same numbers u ts none parts.1)
    where
      by : (b : Bool) → is_same_type u t ≡ b → has_text numbers (type_text t) ≡ true
          → list_any (is_same_type u) ts ≡ false → (b || list_any (is_same_type u) ts) ≡ false
      by true e has rest =
          let known : has_text numbers (type_text u) ≡ true =
          subst (λ (x : SoyType). has_text numbers (type_text x) ≡ true) (sym (same_type u t e)) has in
          true_not_false (has_text numbers (type_text u)) known none
      by false e has rest = rest

  -- a type whose text had no number is added at the end
  pub added_new : (numbers : HashMap (List ℕ) ℕ S) (text : List ℕ) (u copy : code.SoyType) (found : Option ℕ)
      (old new : List code.SoyType) → text ≡ type_text (view_type u) → is_some found ≡ has_text numbers text
      → found ≡ None → HasTexts numbers (map view_type old) → copy ≡ u → new ≡ old ++ copy ∷ []
      → map view_type new ≡ with_member (map view_type old) (view_type u)
  added_new numbers text u copy found old new is link none all same added =
      let absent : has_text numbers (type_text (view_type u)) ≡ false =
      ap (has_text numbers) (sym is) ∙ sym link ∙ ap is_some none in
      let ts : List SoyType = map view_type old in
      ap (map view_type) added ∙ map_snoc old copy
      ∙ ap (λ (t : code.SoyType). map view_type old ++ view_type t ∷ []) same
      ∙ sym (ap (λ b. if b then ts else ts ++ view_type u ∷ []) (none_same numbers (view_type u) ts absent all))

  -- what has a number keeps one
  texts_still : (text : List ℕ) (old new : HashMap (List ℕ) ℕ S) (ts : List SoyType) → AddsText text old new
      → HasTexts old ts → HasTexts new ts
  texts_still text old new [] adds all = refl
  texts_still text old new (t ∷ ts) adds all =
      let parts : (has_text old (type_text t) ≡ true) × HasTexts old ts =
      both (has_text old (type_text t)) (list_all (λ x. has_text old (type_text x)) ts) all in
      let here : has_text new (type_text t) ≡ true =
      adds (type_text t) ∙ ap (λ b. b || bytes_eq text (type_text t)) parts.0 in
      ap (λ b. b && list_all (λ x. has_text new (type_text x)) ts) here ∙ texts_still text old new ts adds parts.1

  texts_snoc : (new : HashMap (List ℕ) ℕ S) (u : SoyType) (ts : List SoyType) → has_text new (type_text u) ≡ true
      → HasTexts new ts → HasTexts new (ts ++ u ∷ [])
  texts_snoc new u [] itself all = ap (λ b. b && true) itself
  texts_snoc new u (t ∷ ts) itself all =
      let parts : (has_text new (type_text t) ≡ true) × HasTexts new ts =
      both (has_text new (type_text t)) (list_all (λ x. has_text new (type_text x)) ts) all in
      ap (λ b. b && list_all (λ x. has_text new (type_text x)) (ts ++ u ∷ [])) parts.0
      ∙ texts_snoc new u ts itself parts.1

  text_added : (old new : HashMap (List ℕ) ℕ S) (u : SoyType) → AddsText (type_text u) old new
      → has_text new (type_text u) ≡ true
  text_added old new u adds =
      adds (type_text u)
      ∙ ap (λ b. has_text old (type_text u) || b) ((bytes_eq-Decides (type_text u) (type_text u)).1 refl)
      ∙ or_true (has_text old (type_text u))

  -- one more type whose text has a number
  texts_more : (old new : HashMap (List ℕ) ℕ S) (u : SoyType) (ts : List SoyType) → AddsText (type_text u) old new
      → HasTexts old ts → HasTexts new (ts ++ u ∷ [])
  texts_more old new u ts adds all =
      texts_snoc new u ts (text_added old new u adds) (texts_still (type_text u) old new ts adds all)

  -- the texts of a type that is added where it isn't there, and of those that were there
  pub texts_with : (old new : HashMap (List ℕ) ℕ S) (text : List ℕ) (u : SoyType) (ts us : List SoyType)
      → text ≡ type_text u → AddsText text old new → us ≡ with_member ts u → HasTexts old ts → HasTexts new us
  texts_with old new text u ts us is adds added all =
      let adds_it : AddsText (type_text u) old new =
      subst (λ (x : List ℕ). AddsText x old new) is adds in
      subst (HasTexts new) (sym added) (by adds_it (list_any (is_same_type u) ts))
    where
      by : AddsText (type_text u) old new → (b : Bool) → HasTexts new (if b then ts else ts ++ u ∷ [])
      by adds_it true = texts_still (type_text u) old new ts adds_it all
      by adds_it false = texts_more old new u ts adds_it all

  -- the type at an index has a number, and those before it
  pub texts_next : (old new : HashMap (List ℕ) ℕ S) (text : List ℕ) (types : List code.SoyType) (n : ℕ)
      (t : code.SoyType) → n < length types → t ≡ slice_index_or types n t → text ≡ type_text (view_type t)
      → AddsText text old new → HasTexts old (map view_type (take n types))
      → HasTexts new (map view_type (take (n + 1) types))
  texts_next old new text types n t below is same adds all =
      let adds_it : AddsText (type_text (view_type t)) old new =
      subst (λ (x : List ℕ). AddsText x old new) same adds in
      subst (HasTexts new) (sym (take_next types n t below is))
      (texts_more old new (view_type t) (map view_type (take n types)) adds_it all)

  -- a text that has a number
  pub adds_nothing : (numbers : HashMap (List ℕ) ℕ S) (text : List ℕ) → has_text numbers text ≡ true
      → AddsText text numbers numbers
  adds_nothing numbers text has other = by (bytes_eq text other) refl
    where
      by : (b : Bool) → bytes_eq text other ≡ b → has_text numbers other ≡ (has_text numbers other || b)
      by true e =
          let known : has_text numbers other ≡ true =
          subst (λ (x : List ℕ). has_text numbers x ≡ true) ((bytes_eq-Decides text other).0 e) has in
          rw known refl
      by false e = or_last (has_text numbers other)

  -- a text that gets one
  pub adds_one : (old new : HashMap (List ℕ) ℕ S) (text : List ℕ) (n : ℕ)
      → ((other : List ℕ) → get bytes_eq new other ≡ cond (bytes_eq text other) (Some n) (get bytes_eq old other))
      → AddsText text old new
  adds_one old new text n updates other =
      ap is_some (updates other) ∙ by (bytes_eq text other) (get bytes_eq old other)
    where
      by : (b : Bool) (found : Option ℕ) → is_some (cond b (Some n) found) ≡ (is_some found || b)
      by true found = sym (or_true (is_some found))
      by false found = or_last (is_some found)

-- the type of a number is among the types
any_at : (u : SoyType) (types : List code.SoyType) (n : ℕ) (t : code.SoyType) → slice_get types n ≡ Some t
    → is_same_type u (view_type t) ≡ true → list_any (is_same_type u) (map view_type types) ≡ true
any_at u [] n t is same = let no : ⊥ = cc in absurd no
any_at u (x ∷ types) zero t is same = let e : x ≡ t = cc in rw (e, same) refl
any_at u (x ∷ types) (suc n) t is same =
    ap (λ b. is_same_type u (view_type x) || b) (any_at u types n t is same) ∙ or_true (is_same_type u (view_type x))

pub same_there : (u : SoyType) (types : List code.SoyType) (n : ℕ) (t : code.SoyType) (same : Bool)
    → Some t ≡ slice_get types n → same ≡ is_same_type u (view_type t)
    → OnTrue same (list_any (is_same_type u) (map view_type types) ≡ true)
same_there u types n t true there is = any_at u types n t (sym there) (sym is)
same_there u types n t false there is = tt
