-- Searches among members that begin anywhere, and for fields by their numbers.
use Rattle.std.proofs.Common.{◌≡◌, ℕ, zero, suc, ◌≤◌, Bool, true, false, ◌||◌, List, [], ◌∷◌, refl, ap, sym, ◌∙◌}
use Rattle.std.proofs.Common.{Option, Some, None, option_map, slice_get, take, drop, arith}
use Rattle.std.specs.Borrow.{Bor}
use Rattle.std.specs.Prelude.{if◌then◌else◌, bytes_eq, length}
use Rattle.std.specs.Slice.{IsItemAt}
use Rattle.std.proofs.lemmas.Option.{slice_get_past, slice_get_read}
use denote.Param.Weighed.{most}
use Rattle.soy_tree.specs.declared.soy_type.SoyType as code
use Rattle.soy_tree.specs.declared.soy_type.Field as code_field
use Rattle.soy_tree.specs.Types.{Name, SoyType, field}
use Rattle.soy_tree.specs.ViewTypes.{view_fields, view_members, view_type}
use Rattle.soy_rules.specs.Accepts.{accepts_member, has_field, some_accepts}
use Rattle.soy_rules.specs.FieldNames.{field_names}
use Rattle.soy_rules.specs.FirstNames.{first_from, first_number}
use Rattle.soy_rules.proofs.Firsts.{first_later}
use Rattle.soy_rules.proofs.Views.{view_field-is}

or_last : (b : Bool) → b ≡ (b || false)
or_last true = refl
or_last false = refl

or_between : (here later before : Bool) → (here || (later || before)) ≡ (later || (here || before))
or_between true true before = refl
or_between true false before = refl
or_between false later before = refl

-- one of the members accepts where one from a number on does, or one before it
searched_in_turn : (ts : List code.SoyType) (n : ℕ) (from : SoyType)
    → some_accepts (view_members ts) from
    ≡ (some_accepts (view_members (drop n ts)) from || some_accepts (view_members (take n ts)) from)
searched_in_turn [] zero from = refl
searched_in_turn [] (suc n) from = refl
searched_in_turn (t ∷ ts) zero from = or_last (some_accepts (view_members (t ∷ ts)) from)
searched_in_turn (t ∷ ts) (suc n) from =
    let here = accepts_member (view_type t) from in
    ap (λ b. here || b) (searched_in_turn ts n from)
    ∙ or_between here (some_accepts (view_members (drop n ts)) from) (some_accepts (view_members (take n ts)) from)

pub found_behind : (ts behind : List code.SoyType) (n : ℕ) (from : SoyType) (found : Bool) → behind ≡ drop n ts
    → found ≡ some_accepts (view_members behind) from → found ≡ true → true ≡ some_accepts (view_members ts) from
found_behind ts behind n from found is accepts holds =
    let here : some_accepts (view_members (drop n ts)) from ≡ true =
    ap (λ (us : List code.SoyType). some_accepts (view_members us) from) (sym is) ∙ sym accepts ∙ holds in
    sym
    (searched_in_turn ts n from ∙ ap (λ b. b || some_accepts (view_members (take n ts)) from) here)

pub found_before : (ts before behind : List code.SoyType) (n : ℕ) (from : SoyType) (found : Bool) → before ≡ take n ts
    → behind ≡ drop n ts → found ≡ some_accepts (view_members behind) from → found ≡ false
    → some_accepts (view_members ts) from ≡ some_accepts (view_members before) from
found_before ts before behind n from found front is accepts fails =
    let here : some_accepts (view_members (drop n ts)) from ≡ false =
    ap (λ (us : List code.SoyType). some_accepts (view_members us) from) (sym is) ∙ sym accepts ∙ fails in
    searched_in_turn ts n from ∙ ap (λ b. b || some_accepts (view_members (take n ts)) from) here
    ∙ ap (λ (us : List code.SoyType). some_accepts (view_members us) from) (sym front)

-- no member of a part is larger than the largest of all
most-drop : {A : Type 0} (size : A → ℕ) (xs : List A) (n : ℕ) → most size (drop n xs) ≤ most size xs
most-drop size [] zero = omega arith
most-drop size [] (suc n) = omega arith
most-drop size (x ∷ xs) zero = omega arith
most-drop size (x ∷ xs) (suc n) = omega (arith, most-drop size xs n)

most-take : {A : Type 0} (size : A → ℕ) (xs : List A) (n : ℕ) → most size (take n xs) ≤ most size xs
most-take size [] zero = omega arith
most-take size [] (suc n) = omega arith
most-take size (x ∷ xs) zero = omega arith
most-take size (x ∷ xs) (suc n) = omega (arith, most-take size xs n)

pub most-behind : {A : Type 0} (size : A → ℕ) (xs ys : List A) (n : ℕ) → ys ≡ drop n xs → most size ys ≤ most size xs
most-behind size xs ys n is = rw is (most-drop size xs n)

pub most-before : {A : Type 0} (size : A → ℕ) (xs ys : List A) (n : ℕ) → ys ≡ take n xs → most size ys ≤ most size xs
most-before size xs ys n is = rw is (most-take size xs n)

-- whether the field of the number that was found passes
abbrev pub passes_at : (SoyType → Bool) → Option code_field.Field → Bool
passes_at passes None = false
passes_at passes (Some f) = passes (view_type f.of)

abbrev pub passes_found : (SoyType → Bool) → List code_field.Field → Option ℕ → Bool
passes_found passes fs None = false
passes_found passes fs (Some n) = passes_at passes (slice_get fs n)

found_later : (passes : SoyType → Bool) (f : code_field.Field) (fs : List code_field.Field) (found : Option ℕ)
    → passes_found passes (f ∷ fs) (option_map suc found) ≡ passes_found passes fs found
found_later passes f fs None = refl
found_later passes f fs (Some n) = refl

found_if : (passes : SoyType → Bool) (f : code_field.Field) (fs : List code_field.Field) (same : Bool) (rest : Bool)
    (later : Option ℕ) → rest ≡ passes_found passes (f ∷ fs) later
    → (if same then passes (view_type f.of) else rest) ≡ passes_found passes (f ∷ fs) (if same then Some 0 else later)
found_if passes f fs true rest later e = refl
found_if passes f fs false rest later e = e

-- what `get` finds
pub item_there : (fs : List code_field.Field) (n : ℕ) (r : Bor code_field.Field) → IsItemAt fs n (Some r)
    → slice_get fs n ≡ Some r.now
item_there fs n r is = slice_get_read fs (length fs) n r.now refl is.3.0 is.1

pub item_missing : (fs : List code_field.Field) (n : ℕ) → IsItemAt fs n None → slice_get fs n ≡ None
item_missing fs n is = slice_get_past fs n is.3

-- the first field of a name stands at the first number of the name
pub field_found : (name : Name) (passes : SoyType → Bool) (fs : List code_field.Field)
    → has_field name passes (view_fields fs) ≡ passes_found passes fs (first_number name (field_names fs))
field_found name passes [] = refl
field_found name passes (f ∷ fs) =
    ap (λ (v : Name × SoyType). has_field name passes (field v.0 v.1 (view_fields fs))) (view_field-is f)
    ∙ found_if passes f fs (bytes_eq f.name name) (has_field name passes (view_fields fs))
    (first_from name 1 (field_names fs))
    (field_found name passes fs ∙ sym (found_later passes f fs (first_number name (field_names fs)))
    ∙ ap (passes_found passes (f ∷ fs)) (sym (first_later name 0 (field_names fs))))
