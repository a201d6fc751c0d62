-- Lists that grow at their end, and what is left of a list.
use Rattle.std.proofs.Common.{◌≡◌, ℕ, zero, suc, ◌+◌, ◌<◌, ◌≤◌, List, [], ◌∷◌, ◌++◌, length, map, drop, refl, ap, sym}
use Rattle.std.proofs.Common.{◌∙◌, arith, slice_index_or}
use Rattle.std.specs.Prelude.{Result, Ok, Err, OnOk}
use Rattle.template_ir.specs.Ops.{Op}
use Rattle.template_ir.specs.ViewOps.{view_op, view_ops}
use Rattle.template_ir.specs.declared.op.Op as code_op

pub map_append : {A B : Type 0} (f : A → B) (xs ys : List A) → map f (xs ++ ys) ≡ map f xs ++ map f ys
map_append f [] ys = refl
map_append f (x ∷ xs) ys = ap (λ zs. f x ∷ zs) (map_append f xs ys)

pub map_pushed : {A B : Type 0} (f : A → B) (xs ys : List A) (x : A) → ys ≡ xs ++ (x ∷ []) → map f ys ≡ map f xs
    ++ (f x ∷ [])
map_pushed f xs ys x e = ap (map f) e ∙ map_append f xs (x ∷ [])

pub append_assoc : {A : Type 0} (xs ys zs : List A) → (xs ++ ys) ++ zs ≡ xs ++ (ys ++ zs)
append_assoc [] ys zs = refl
append_assoc (x ∷ xs) ys zs = ap (λ ws. x ∷ ws) (append_assoc xs ys zs)

pub append_nil : {A : Type 0} (xs : List A) → xs ++ [] ≡ xs
append_nil [] = refl
append_nil (x ∷ xs) = ap (λ ws. x ∷ ws) (append_nil xs)

pub length_map : {A B : Type 0} (f : A → B) (xs : List A) → length (map f xs) ≡ length xs
length_map f [] = refl
length_map f (x ∷ xs) = ap suc (length_map f xs)

pub length_append : {A : Type 0} (xs ys : List A) → length (xs ++ ys) ≡ length xs + length ys
length_append [] ys = omega arith
length_append (x ∷ xs) ys = let e : length (xs ++ ys) ≡ length xs + length ys = length_append xs ys in omega (arith, e)

-- an item and those behind it
pub drop_next : {A : Type 0} (xs : List A) (i : ℕ) (x : A) → i < length xs → x ≡ slice_index_or xs i x
    → drop i xs ≡ x ∷ drop (i + 1) xs
drop_next [] i x below is = absurd (omega arith)
drop_next (y ∷ xs) zero x below is = rw is refl
drop_next (y ∷ xs) (suc i) x below is =
    let e : suc i + 1 ≡ suc (i + 1) = omega arith in rw e (drop_next xs i x (omega arith) is)

pub drop_all : {A : Type 0} (xs : List A) (i : ℕ) → length xs ≤ i → drop i xs ≡ []
drop_all [] zero long = refl
drop_all [] (suc i) long = refl
drop_all (x ∷ xs) zero long = absurd (omega arith)
drop_all (x ∷ xs) (suc i) long = drop_all xs i (omega arith)

-- the length of a vector of ops is that of the ops that they stand for
pub old_length : (ops : List code_op.Op) (n : ℕ) → n ≡ length ops → n ≡ length (view_ops ops)
old_length ops n e = e ∙ sym (length_map view_op ops)

-- two facts of one answer
pub on_ok_both : {A E : Type 0} (r : Result A E) (P Q R : Type 0) → (P → Q → R) → OnOk r P → OnOk r Q → OnOk r R
on_ok_both (Ok a) P Q R f p q = f p q
on_ok_both (Err e) P Q R f p q = tt

-- an op by what it is seen as
pub last_is : (own own_after : List Op) (o p : Op) → o ≡ p → own_after ≡ own ++ (o ∷ []) → own_after ≡ own ++ (p ∷ [])
last_is own own_after o p is e = e ∙ ap (λ (x : Op). own ++ (x ∷ [])) is
