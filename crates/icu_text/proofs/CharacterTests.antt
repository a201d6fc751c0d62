-- Tests of characters: what passes one fails another, and tests that are joined.
use Rattle.std.proofs.Common.{◌≡◌, ℕ, ◌==◌, ◌&&◌, Bool, true, false, List, [], ◌∷◌, ◌++◌, refl, sym, subst}
use Rattle.std.proofs.Common.{IsTrue}
use Rattle.std.specs.List.{list_all}
use Rattle.std.proofs.lemmas.Bool.{eqb-true}
use Rattle.soy_base.specs.WhiteSpace.{is_template_space}

-- a character that is this one, or isn't
pub equal_or : (P : ℕ → Type 0) (c k : ℕ) → P k → ((c == k) ≡ false → P c) → P c
equal_or P c k p f = over (c == k) refl
  where
    over : (t : Bool) → (c == k) ≡ t → P c
    over true e = subst P (sym (eqb-true c k e)) p
    over false e = f e

-- a test that holds or doesn't
pub holds_or : (P : Type 0) (t : Bool) → (t ≡ true → P) → (t ≡ false → P) → P
holds_or P true f g = f refl
holds_or P false f g = g refl

-- what holds of the four characters of white space holds of each
pub white_has : (P : ℕ → Type 0) → P 32 → P 9 → P 10 → P 13 → (c : ℕ) → is_template_space c ≡ true → P c
white_has P space tab feed carriage c h =
    equal_or P c 32 space
    (λ a. equal_or P c 9 tab (λ b. equal_or P c 10 feed
    (λ d. equal_or P c 13 carriage (λ e. absurd (cc (rw (a, b, d, e) at h))))))

-- a test that white space fails
pub white_fails : (test : ℕ → Bool) → test 32 ≡ false → test 9 ≡ false → test 10 ≡ false → test 13 ≡ false → (c : ℕ)
    → is_template_space c ≡ true → test c ≡ false
white_fails test a b d e c h = white_has (λ k. test k ≡ false) a b d e c h

pub not_white : (test : ℕ → Bool) → test 32 ≡ false → test 9 ≡ false → test 10 ≡ false → test 13 ≡ false → (c : ℕ)
    → test c ≡ true → is_template_space c ≡ false
not_white test a b d e c h =
    holds_or (is_template_space c ≡ false) (is_template_space c) (λ w. absurd (cc (white_fails test a b d e c w, h)))
    (λ w. w)

-- a test that this character fails
pub not_that : (test : ℕ → Bool) (k : ℕ) → test k ≡ false → (c : ℕ) → test c ≡ true → (c == k) ≡ false
not_that test k e c h =
    holds_or ((c == k) ≡ false) (c == k) (λ w. absurd (cc (subst (λ d. test d ≡ true) (eqb-true c k w) h, e))) (λ w. w)

pub and_left : (a b : Bool) → (a && b) ≡ true → a ≡ true
and_left true b e = refl
and_left false b e = e

pub and_right : (a b : Bool) → (a && b) ≡ true → b ≡ true
and_right true b e = e
and_right false b e = absurd (cc e)

pub and_both : (a b : Bool) → a ≡ true → b ≡ true → (a && b) ≡ true
and_both a b e f = rw (e, f) refl

pub all_append : (test : ℕ → Bool) (a b : List ℕ) → IsTrue (list_all test a) → IsTrue (list_all test b)
    → IsTrue (list_all test (a ++ b))
all_append test [] b f g = g
all_append test (c ∷ cs) b f g =
    and_both (test c) (list_all test (cs ++ b)) (and_left (test c) (list_all test cs) f)
    (all_append test cs b (and_right (test c) (list_all test cs) f) g)
