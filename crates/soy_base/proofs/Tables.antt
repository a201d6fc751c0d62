-- Tables, and parts of lists.
use Rattle.std.proofs.Common.{◌≡◌, ◌+◌, ◌-◌, ◌≤◌, ◌<◌, ℕ, zero, suc, min, List, [], ◌∷◌, ◌++◌, Some, length}
use Rattle.std.proofs.Common.{take, drop, refl, sym, ap, ◌∙◌, append_assoc, arith}
use Rattle.std.specs.List.{slice_get}
use Rattle.std.proofs.lemmas.List.{append-nil}
use Rattle.soy_base.specs.Table.{table, table_from}

-- the items from one number up to another
abbrev pub part : {A : Type 0} → List A → ℕ → ℕ → List A
part xs i end = take (end - i) (drop i xs)

pub take_table_from : {A B : Type 0} (f : List B → A → B) (d : List B) (n : ℕ) (xs : List A)
    → take n (table_from f d xs) ≡ table_from f d (take n xs)
take_table_from f d zero xs = refl
take_table_from f d (suc n) [] = refl
take_table_from f d (suc n) (x ∷ xs) = ap (λ ys. f d x ∷ ys) (take_table_from f (d ++ (f d x ∷ [])) n xs)

length_table_from : {A B : Type 0} (f : List B → A → B) (d : List B) (xs : List A)
    → length (table_from f d xs) ≡ length xs
length_table_from f d [] = refl
length_table_from f d (x ∷ xs) = ap suc (length_table_from f (d ++ (f d x ∷ [])) xs)

pub length_table : {A B : Type 0} (f : List B → A → B) (xs : List A) → length (table f xs) ≡ length xs
length_table f xs = length_table_from f [] xs

get_table_from : {A B : Type 0} (f : List B → A → B) (d : List B) (xs : List A) (i : ℕ) (x : A)
    → slice_get xs i ≡ Some x → slice_get (table_from f d xs) i ≡ Some (f (d ++ take i (table_from f d xs)) x)
get_table_from f d [] i x e = cc
get_table_from f d (y ∷ ys) zero x e =
    let z : d ++ [] ≡ d = append-nil d in
    let s : y ≡ x = cc in ap (λ v. Some (f d v)) s ∙ ap (λ v. Some (f v x)) (sym z)
get_table_from f d (y ∷ ys) (suc i) x e =
    get_table_from f (d ++ (f d y ∷ [])) ys i x e
    ∙ ap (λ v. Some (f v x)) (append_assoc d (f d y ∷ []) (take i (table_from f (d ++ (f d y ∷ [])) ys)))

-- an item of a table is made from those before it
pub get_table : {A B : Type 0} (f : List B → A → B) (xs : List A) (i : ℕ) (x : A) → slice_get xs i ≡ Some x
    → slice_get (table f xs) i ≡ Some (f (take i (table f xs)) x)
get_table f xs i x e = get_table_from f [] xs i x e

-- ---- parts

no_items : (A : Type 0) (n : ℕ) → ◌≡◌ {A = List A} (take n []) []
no_items A zero = refl
no_items A (suc n) = refl

get_drop : {A : Type 0} (xs : List A) (i : ℕ) (x : A) → slice_get xs i ≡ Some x → drop i xs ≡ x ∷ drop (suc i) xs
get_drop [] i x e = cc
get_drop (y ∷ ys) zero x e = let s : y ≡ x = cc in ap (λ v. v ∷ ys) s
get_drop (y ∷ ys) (suc i) x e = get_drop ys i x e

-- a part that isn't empty has a first
pub part_cons : {A : Type 0} (xs : List A) (i end : ℕ) (x : A) → slice_get xs i ≡ Some x → i < end
    → part xs i end ≡ x ∷ part xs (i + 1) end
part_cons {A = A} xs i end x e h =
    let turn : suc i ≡ i + 1 = omega arith in
    one (end - i) (end - (i + 1)) (drop i xs) (drop (i + 1) xs) (omega arith)
    (get_drop xs i x e ∙ ap (λ n. x ∷ drop n xs) turn)
  where
    one : (m n : ℕ) (ys zs : List A) → m ≡ suc n → ys ≡ x ∷ zs → take m ys ≡ x ∷ take n zs
    one m n ys zs p q = ap (λ k. take k ys) p ∙ ap (λ k. take (suc n) k) q

pub part_none : {A : Type 0} (xs : List A) (i end : ℕ) → end ≤ i → part xs i end ≡ []
part_none xs i end h = let e : end - i ≡ 0 = omega arith in ap (λ k. take k (drop i xs)) e

pub take_less : {A : Type 0} (xs : List A) (m n k : ℕ) → k ≡ min m n → take m (take n xs) ≡ take k xs
take_less xs m zero k e = let z : k ≡ 0 = omega arith in no_items _ m ∙ ap (λ v. take v xs) (sym z)
take_less xs zero (suc n) k e = let z : k ≡ 0 = omega arith in ap (λ v. take v xs) (sym z)
take_less [] (suc m) (suc n) k e = sym (no_items _ k)
take_less (x ∷ xs) (suc m) (suc n) zero e = absurd (omega arith)
take_less (x ∷ xs) (suc m) (suc n) (suc k) e = ap (λ v. x ∷ v) (take_less xs m n k (omega arith))

pub drop_less : {A : Type 0} (xs : List A) (f n k : ℕ) → k ≡ n - f → drop f (take n xs) ≡ take k (drop f xs)
drop_less xs zero n k e = let z : k ≡ n = omega arith in ap (λ v. take v xs) (sym z)
drop_less xs (suc f) zero k e = let z : k ≡ 0 = omega arith in ap (λ v. take v (drop (suc f) xs)) (sym z)
drop_less [] (suc f) (suc n) k e = sym (no_items _ k)
drop_less (x ∷ xs) (suc f) (suc n) k e = drop_less xs f n k (omega arith)

-- a part of the first n that ends within them is one of all
pub part_take : {A : Type 0} (xs : List A) (n first end : ℕ) → end ≤ n → part (take n xs) first end ≡ part xs first end
part_take xs n first end h =
    ap (λ v. take (end - first) v) (drop_less xs first n (n - first) refl)
    ∙ take_less (drop first xs) (end - first) (n - first) (end - first) (omega arith)
