-- The row of an id, by the number of the id among the ids of the rows.
use Rattle.std.proofs.Common.{◌≡◌, ℕ, suc, Bool, true, false, ◌||◌, ◌+◌, List, [], ◌∷◌, ◌++◌, Option, Some, None, map}
use Rattle.std.proofs.Common.{option_map, bytes_eq, not, refl, sym, ap, ◌∙◌, slice_get, arith}
use Rattle.std.specs.Prelude.{if◌then◌else◌, is_some}
use Rattle.std.specs.List.{position_or_len}
use Rattle.soy_base.specs.Among.{is_among}
use Rattle.msg_extract.specs.Catalogue.{find_listed, with_name}
use Rattle.msg_extract.specs.declared.catalogue.Listed.{Listed}
use Rattle.msg_extract.proofs.Texts.AsciiTexts.{same_swapped}
use Rattle.msg_extract.proofs.CutSteps.{map_append}

abbrev pub ids_of : List Listed → List (List ℕ)
ids_of rows = map (λ l. l.id) rows

abbrev number : List ℕ → List (List ℕ) → ℕ
number id ids = position_or_len (bytes_eq id) ids

pub row_found : (id : List ℕ) (rows : List Listed)
    → slice_get rows (position_or_len (bytes_eq id) (map (λ l. l.id) rows)) ≡ find_listed id rows
row_found id [] = refl
row_found id (l ∷ ls) = rw (same_swapped id l.id) (at_first (row_found id ls) (bytes_eq l.id id))
  where
    at_first : slice_get ls (number id (ids_of ls)) ≡ find_listed id ls → (t : Bool)
        → slice_get (l ∷ ls) (if not t then 1 + number id (ids_of ls) else 0)
        ≡ (if t then Some l else find_listed id ls)
    at_first rest true = refl
    at_first rest false =
        let next : 1 + number id (ids_of ls) ≡ suc (number id (ids_of ls)) = omega arith in
        ap (λ k. slice_get (l ∷ ls) k) next ∙ rest

among_found : (id : List ℕ) (rows : List Listed)
    → is_among (ids_of rows) id ≡ is_some (find_listed id rows)
among_found id [] = refl
among_found id (l ∷ ls) = rw (same_swapped id l.id) (at_first (among_found id ls) (bytes_eq l.id id))
  where
    at_first : is_among (ids_of ls) id ≡ is_some (find_listed id ls) → (t : Bool)
        → (t || is_among (ids_of ls) id) ≡ is_some (if t then Some l else find_listed id ls)
    at_first rest true = refl
    at_first rest false = rest

none_found : (f : Listed → Bool) (found : Option Listed) → option_map f found ≡ None → is_some found ≡ false
none_found f None e = refl
none_found f (Some l) e = absurd (cc e)

some_found : (f : Listed → Bool) (found : Option Listed) (t : Bool) → option_map f found ≡ Some t → is_some found ≡ true
some_found f None t e = absurd (cc e)
some_found f (Some l) t e = refl

-- an id that no row has is added
new_id : (f : Listed → Bool) (id : List ℕ) (rows : List Listed) → option_map f (find_listed id rows) ≡ None
    → with_name (map (λ l. l.id) rows) id ≡ map (λ l. l.id) rows ++ id ∷ []
new_id f id rows e =
    let h : is_among (ids_of rows) id ≡ false = among_found id rows ∙ none_found f (find_listed id rows) e in
    rw h refl

-- the ids with that of a new row are those of the rows with it
pub new_row : (f : Listed → Bool) (l : Listed) (rows : List Listed) → option_map f (find_listed l.id rows) ≡ None
    → with_name (map (λ k. k.id) rows) l.id ≡ map (λ k. k.id) (rows ++ l ∷ [])
new_row f l rows e = new_id f l.id rows e ∙ sym (map_append (λ k. k.id) rows (l ∷ []))

-- an id that a row has is there
pub known_id : (f : Listed → Bool) (id : List ℕ) (rows : List Listed) (t : Bool)
    → option_map f (find_listed id rows) ≡ Some t → with_name (map (λ l. l.id) rows) id ≡ map (λ l. l.id) rows
known_id f id rows t e =
    let h : is_among (ids_of rows) id ≡ true = among_found id rows ∙ some_found f (find_listed id rows) t e in
    rw h refl
