-- All of several, item by item: what is gathered so far, and what is said of the rest.
use Rattle.std.proofs.Common.{◌≡◌, ℕ, suc, ◌<◌, ◌≤◌, List, [], ◌∷◌, ◌++◌, Option, Some, None, map, drop, length, get_or}
use Rattle.std.proofs.Common.{refl, sym, ap, ◌∙◌, append_assoc, append-nil}
use Rattle.std.specs.Prelude.{option_map, option_and_then}
use Rattle.std.proofs.Math.ListN.{drop_of_length-le}
use Rattle.std.proofs.Math.Seq.{drop-cons}
use Rattle.soyc_c.specs.Call.{all_of}

-- what is gathered, and then the rest, if there is one
abbrev pub after : {A : Type 0} → List A → Option (List A) → Option (List A)
after done rest = option_map (λ more. done ++ more) rest

pub after-nothing : {A : Type 0} (rest : Option (List A)) → after [] rest ≡ rest
after-nothing None = refl
after-nothing (Some more) = refl

after-one : {A : Type 0} (done : List A) (a : A) (rest : Option (List A))
    → after done (option_map (λ more. a ∷ more) rest) ≡ after (done ++ a ∷ []) rest
after-one done a None = refl
after-one done a (Some more) = ap Some (sym (append_assoc done (a ∷ []) more))

-- the items of a list from an index on
abbrev pub rest_of : {A B : Type 0} → (A → Option B) → List A → ℕ → Option (List B)
rest_of f xs i = all_of (map f (drop i xs))

-- one more is gathered
pub gathered : {A B : Type 0} (f : A → Option B) (xs : List A) (i : ℕ) (x : A) (b : B) (done : List B)
    → i < length xs → get_or xs i x ≡ x → f x ≡ Some b
    → after done (rest_of f xs i) ≡ after (done ++ b ∷ []) (rest_of f xs (suc i))
gathered f xs i x b done within is found =
    ap (λ l. after done (all_of (map f l))) (drop-cons xs i x within)
    ∙ (ap (λ y. after done (all_of (map f (y ∷ drop (suc i) xs)))) is
    ∙ (ap (λ o. after done (option_and_then (λ a. option_map (λ more. a ∷ more) (rest_of f xs (suc i))) o)) found
    ∙ after-one done b (rest_of f xs (suc i))))

-- one is missing
pub missing : {A B : Type 0} (f : A → Option B) (xs : List A) (i : ℕ) (x : A) (done : List B)
    → i < length xs → get_or xs i x ≡ x → f x ≡ None → after done (rest_of f xs i) ≡ None
missing f xs i x done within is lacks =
    ap (λ l. after done (all_of (map f l))) (drop-cons xs i x within)
    ∙ (ap (λ y. after done (all_of (map f (y ∷ drop (suc i) xs)))) is
    ∙ ap (λ o. after done (option_and_then (λ a. option_map (λ more. a ∷ more) (rest_of f xs (suc i))) o)) lacks)

-- all are gathered
pub all-gathered : {A B : Type 0} (f : A → Option B) (xs : List A) (i : ℕ) (done : List B) → length xs ≤ i
    → after done (rest_of f xs i) ≡ Some done
all-gathered f xs i done past =
    ap (λ l. after done (all_of (map f l))) (drop_of_length-le xs past) ∙ ap Some (append-nil done)
