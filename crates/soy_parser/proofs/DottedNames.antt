-- Names joined by dots, and facts of two at once.
use Rattle.std.proofs.Common.{◌≡◌, ℕ, ◌==◌, Bool, true, false, cond, ◌&&◌, ◌||◌, List, [], ◌∷◌, ◌++◌, refl, ap, ◌∙◌}
use Rattle.std.proofs.Common.{arith}
use Rattle.std.specs.List.{slice_split, onto_first, list_all}
use Rattle.std.proofs.lemmas.Bool.Decides.{nat_tests}
use Rattle.std.specs.Char.{is_ascii_digit}
use Rattle.soy_base.specs.Names.{begins_name, continues_name, is_name, is_dotted_name}

-- both of two are
pub both : (a b : Bool) → a ≡ true → b ≡ true → (a && b) ≡ true
both a b p q = rw (p, q) refl

pub all_three : (a b c : Bool) → a ≡ true → b ≡ true → c ≡ true → (a && b && c) ≡ true
all_three a b c p q r = rw (p, q, r) refl

pub first_of : (a b : Bool) → (a && b) ≡ true → a ≡ true
first_of true b h = refl
first_of false b h = absurd (cc h)

pub second_of : (a b : Bool) → (a && b) ≡ true → b ≡ true
second_of true b h = h
second_of false b h = absurd (cc h)

-- a list of which all are, and more
pub all_append : {A : Type 0} (f : A → Bool) (xs ys : List A) → list_all f xs ≡ true → list_all f ys ≡ true
    → list_all f (xs ++ ys) ≡ true
all_append f [] ys h k = k
all_append f (x ∷ xs) ys h k = both (f x) (list_all f (xs ++ ys)) (first_of (f x) (list_all f xs) h)
    (all_append f xs ys (second_of (f x) (list_all f xs) h) k)

abbrev names : List ℕ → List (List ℕ)
names text = slice_split (λ c. c == 46) text

-- a text has a part at least
record HasPart (parts : List (List ℕ)) : Type 0 where
  pub first : List ℕ
  pub rest : List (List ℕ)
  pub is : parts ≡ first ∷ rest

onto_part : (c : ℕ) (parts : List (List ℕ)) → HasPart parts → HasPart (onto_first c parts)
onto_part c [] h = absurd (cc h.is)
onto_part c (part ∷ parts) h = record { first = c ∷ part; rest = parts; is = refl }

has_part : (text : List ℕ) → HasPart (names text)
has_part [] = record { first = []; rest = []; is = refl }
has_part (c ∷ cs) = over (c == 46) (has_part cs)
  where
    over : (b : Bool) → HasPart (names cs) → HasPart (cond b ([] ∷ names cs) (onto_first c (names cs)))
    over true h = record { first = []; rest = names cs; is = refl }
    over false h = onto_part c (names cs) h

onto_append : (c : ℕ) (parts more : List (List ℕ)) → HasPart parts
    → onto_first c (parts ++ more) ≡ onto_first c parts ++ more
onto_append c [] more h = absurd (cc h.is)
onto_append c (part ∷ parts) more h = refl

joined_names : (text more : List ℕ) → names (text ++ (46 ∷ more)) ≡ names text ++ names more
joined_names [] more = refl
joined_names (c ∷ cs) more = over (c == 46) (joined_names cs more)
  where
    over : (b : Bool) → names (cs ++ (46 ∷ more)) ≡ names cs ++ names more →
        cond b ([] ∷ names (cs ++ (46 ∷ more))) (onto_first c (names (cs ++ (46 ∷ more)))) ≡
        cond b ([] ∷ names cs) (onto_first c (names cs)) ++ names more
    over true e = ap (λ l. [] ∷ l) e
    over false e = ap (onto_first c) e ∙ onto_append c (names cs) (names more) (has_part cs)

no_dot : (c : ℕ) → continues_name c ≡ true → (c == 46) ≡ false
no_dot c h = grind (arith, nat_tests)

alone : (text : List ℕ) → list_all continues_name text ≡ true → names text ≡ text ∷ []
alone [] h = refl
alone (c ∷ cs) h =
    ap (λ b. cond b ([] ∷ names cs) (onto_first c (names cs)))
    (no_dot c (first_of (continues_name c) (list_all continues_name cs) h))
    ∙ ap (onto_first c) (alone cs (second_of (continues_name c) (list_all continues_name cs) h))

goes_on : (name : List ℕ) → is_name name ≡ true → list_all continues_name name ≡ true
goes_on [] h = refl
goes_on (c ∷ cs) h = over (begins_name c) (list_all continues_name cs) (is_ascii_digit c) h
  where
    over : (a b d : Bool) → (a && b) ≡ true → ((a || d) && b) ≡ true
    over true b d h = h
    over false b d h = absurd (cc h)

pub one_name : (name : List ℕ) → is_name name ≡ true → is_dotted_name name ≡ true
one_name name h = ap (list_all is_name) (alone name (goes_on name h)) ∙ both (is_name name) true h refl

pub more_names : (text name : List ℕ) → is_dotted_name text ≡ true → is_name name ≡ true
    → is_dotted_name (text ++ (46 ∷ name)) ≡ true
more_names text name h k =
    ap (list_all is_name) (joined_names text name) ∙ all_append is_name (names text) (names name) h (one_name name k)
