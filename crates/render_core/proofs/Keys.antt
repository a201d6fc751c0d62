-- Keys, and the bits in which they agree.
use Rattle.std.proofs.Common.{◌≡◌, ℕ, zero, suc, ◌+◌, ◌-◌, ◌/◌, ◌%◌, ◌≤◌, ◌<◌, ◌==◌, ◌&&◌, Bool, true, false}
use Rattle.std.proofs.Common.{List, [], ◌∷◌, ◌++◌, length, slice_index_or, refl, sym, ap, ◌∙◌, arith, eqb-true, eq-eqb}
use Rattle.std.specs.Prelude.{if◌then◌else◌, bytes_eq}
use Rattle.std.proofs.lemmas.Slice.Eq.{bytes_eq-Decides}
use Rattle.soy_tree.specs.Types.{Name}
use Rattle.render_core.specs.Keys.{agreed, key_of}

-- ---- bits

abbrev same_bit : ℕ → ℕ → Bool
same_bit a b = a % 2 == b % 2

bit_known : (a b c : ℕ) → same_bit a b ≡ true → same_bit b c ≡ same_bit a c
bit_known a b c e = ap (λ n. n == c % 2) (sym (eqb-true (a % 2) (b % 2) e))

eq_back : (a b : ℕ) (x y : Bool) → (a == b) ≡ x → (b == a) ≡ y → x ≡ y
eq_back a b true true e f = refl
eq_back a b false false e f = refl
eq_back a b true false e f =
    let g : (b == a) ≡ true = eq-eqb b a (sym (eqb-true a b e)) in let no : ⊥ = cc in absurd no
eq_back a b false true e f =
    let g : (a == b) ≡ true = eq-eqb a b (sym (eqb-true b a f)) in let no : ⊥ = cc in absurd no

bit_back : (a b : ℕ) → same_bit a b ≡ same_bit b a
bit_back a b = eq_back (a % 2) (b % 2) (same_bit a b) (same_bit b a) refl refl

-- ---- where a key agrees in fewer bits with one than with another, those agree in just as many

abbrev one_more : Bool → ℕ → ℕ
one_more same n = if same then 1 + n else 0

fewer_step : (x y z : Bool) (a b c : ℕ) → (x ≡ true → z ≡ y) → (b < a → c ≡ b) → one_more y b < one_more x a
    → one_more z c ≡ one_more y b
fewer_step false y z a b c bit next h = absurd (omega (arith, h))
fewer_step true false z a b c bit next h = ap (λ t. one_more t c) (bit refl)
fewer_step true true z a b c bit next h =
    ap (λ t. one_more t c) (bit refl) ∙ ap (λ n. 1 + n) (next (omega (arith, h)))

more_step : (x y z : Bool) (a b c : ℕ) → (y ≡ true → z ≡ x) → (a < b → c ≡ a) → one_more x a < one_more y b
    → one_more z c ≡ one_more x a
more_step x y z a b c bit next h = fewer_step y x z b a c bit next h

-- a key, another, and a third that agrees with the first in fewer bits
pub fewer_agreed : (n : ℕ) (key other third : ℕ) → agreed n key third < agreed n key other
    → agreed n other third ≡ agreed n key third
unfolding agreed
fewer_agreed zero key other third h = refl
fewer_agreed (suc n) key other third h =
    fewer_step (same_bit key other) (same_bit key third) (same_bit other third) (agreed n (key / 2) (other / 2))
    (agreed n (key / 2) (third / 2)) (agreed n (other / 2) (third / 2)) (bit_known key other third)
    (fewer_agreed n (key / 2) (other / 2) (third / 2)) h

-- or in more
pub more_agreed : (n : ℕ) (key other third : ℕ) → agreed n key other < agreed n key third
    → agreed n other third ≡ agreed n key other
unfolding agreed
more_agreed zero key other third h = refl
more_agreed (suc n) key other third h =
    more_step (same_bit key other) (same_bit key third) (same_bit other third) (agreed n (key / 2) (other / 2))
    (agreed n (key / 2) (third / 2)) (agreed n (other / 2) (third / 2))
    (λ e. bit_back other third ∙ (bit_known key third other e))
    (more_agreed n (key / 2) (other / 2) (third / 2)) h

pub agreed_none : (a b : ℕ) → agreed 0 a b ≡ 0
unfolding agreed
agreed_none a b = refl

pub agreed_more : (n a b : ℕ) → 0 < n → a % 2 ≡ b % 2 → agreed n a b ≡ 1 + agreed (n - 1) (a / 2) (b / 2)
unfolding agreed
agreed_more zero a b h e = absurd (omega arith)
agreed_more (suc n) a b h e =
    let back : suc n - 1 ≡ n = omega arith in
    rw back (ap (λ t. one_more t (agreed n (a / 2) (b / 2))) (eq-eqb (a % 2) (b % 2) e))

pub agreed_less : (n a b : ℕ) → (a % 2 ≡ b % 2 → ⊥) → agreed n a b ≡ 0
unfolding agreed
agreed_less zero a b h = refl
agreed_less (suc n) a b h = bit_other (same_bit a b) refl
  where
    bit_other : (t : Bool) → same_bit a b ≡ t → one_more t (agreed n (a / 2) (b / 2)) ≡ 0
    bit_other true e = absurd (h (eqb-true (a % 2) (b % 2) e))
    bit_other false e = refl

-- ---- names

same_name_if : (k : ℕ) (own name : Name) (x y : Bool) → (k == key_of own) ≡ x → bytes_eq own name ≡ y
    → (x && y) ≡ true → k ≡ key_of name
same_name_if k own name true true e f h =
    eqb-true k (key_of own) e ∙ ap key_of ((bytes_eq-Decides own name).0 f)
same_name_if k own name true false e f h = cc
same_name_if k own name false y e f h = cc

-- the key of a variable that is that of a name
pub same_name : (k : ℕ) (own name : Name) → ((k == key_of own) && bytes_eq own name) ≡ true → k ≡ key_of name
same_name k own name h = same_name_if k own name (k == key_of own) (bytes_eq own name) refl refl h

-- ---- levels

pub index_end : {A : Type 0} (xs : List A) (y : A) (n : ℕ) → slice_index_or (xs ++ y ∷ []) n y ≡ slice_index_or xs n y
index_end [] y zero = refl
index_end [] y (suc n) = refl
index_end (x ∷ xs) y zero = refl
index_end (x ∷ xs) y (suc n) = index_end xs y n

pub index_inside : {A : Type 0} (xs ys : List A) (n : ℕ) (y z : A) → n < length xs
    → slice_index_or (xs ++ ys) n y ≡ slice_index_or xs n z
index_inside [] ys n y z h = absurd (omega arith)
index_inside (x ∷ xs) ys zero y z h = refl
index_inside (x ∷ xs) ys (suc n) y z h = index_inside xs ys n y z (omega arith)

pub index_last : {A : Type 0} (xs : List A) (y z : A) → slice_index_or (xs ++ y ∷ []) (length xs) z ≡ y
index_last [] y z = refl
index_last (x ∷ xs) y z = index_last xs y z

pub index_outside : {A : Type 0} (xs : List A) (n : ℕ) (y : A) → length xs ≤ n → slice_index_or xs n y ≡ y
index_outside [] n y h = refl
index_outside (x ∷ xs) zero y h = absurd (omega arith)
index_outside (x ∷ xs) (suc n) y h = index_outside xs n y (omega arith)

pub index_within : {A : Type 0} (xs : List A) (n : ℕ) (y z : A) → n < length xs
    → slice_index_or xs n y ≡ slice_index_or xs n z
index_within [] n y z h = absurd (omega arith)
index_within (x ∷ xs) zero y z h = refl
index_within (x ∷ xs) (suc n) y z h = index_within xs n y z (omega arith)

-- ---- counting the bits in which keys agree

pub count_ends : (count left right whole : ℕ) → count + agreed (32 - count) left right ≡ whole
    → (left % 2 ≡ right % 2 → ⊥) → count ≡ whole
count_ends count left right whole is other =
    let none : agreed (32 - count) left right ≡ 0 = agreed_less (32 - count) left right other in omega (arith, is, none)

pub count_next : (count left right whole : ℕ) → count < 32 → count + agreed (32 - count) left right ≡ whole
    → left % 2 ≡ right % 2 → count + 1 + agreed (32 - (count + 1)) (left / 2) (right / 2) ≡ whole
count_next count left right whole low is same =
    let some : 0 < 32 - count = omega (arith, low) in
    let back : 32 - count - 1 ≡ 32 - (count + 1) = omega (arith, low) in
    let next : agreed (32 - count) left right ≡ 1 + agreed (32 - (count + 1)) (left / 2) (right / 2) =
    agreed_more (32 - count) left right some same ∙ ap (λ n. 1 + agreed n (left / 2) (right / 2)) back in
    omega (arith, is, next)

pub count_whole : (count left right whole : ℕ) → count ≤ 32 → 32 ≤ count
    → count + agreed (32 - count) left right ≡ whole → count ≡ whole
count_whole count left right whole low high is =
    let back : 32 - count ≡ 0 = omega (arith, low, high) in
    let none : agreed (32 - count) left right ≡ 0 =
    ap (λ n. agreed n left right) back ∙ agreed_none left right in omega (arith, is, none)
