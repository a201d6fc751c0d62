-- Tests that hold or don't, and tests that are joined.
use Rattle.std.proofs.Common.{◌≡◌, ℕ, ◌&&◌, Bool, true, false, List, [], ◌∷◌, ◌++◌, refl, IsTrue}
use Rattle.std.specs.List.{list_all}

pub holds_or : (P : Type 0) (t : Bool) → (t ≡ true → P) → (t ≡ false → P) → P
holds_or P true f g = f refl
holds_or P false f g = g refl

pub and_left : (a b : Bool) → (a && b) ≡ true → a ≡ true
and_left true b e = refl
and_left false b e = e

pub and_right : (a b : Bool) → (a && b) ≡ true → b ≡ true
and_right true b e = e
and_right false b e = absurd (cc e)

pub and_both : (a b : Bool) → a ≡ true → b ≡ true → (a && b) ≡ true
and_both a b e f = rw (e, f) refl

pub all_append : (test : ℕ → Bool) (a b : List ℕ) → IsTrue (list_all test a) → IsTrue (list_all test b)
    → IsTrue (list_all test (a ++ b))
all_append test [] b f g = g
all_append test (c ∷ cs) b f g =
    and_both (test c) (list_all test (cs ++ b)) (and_left (test c) (list_all test cs) f)
    (all_append test cs b (and_right (test c) (list_all test cs) f) g)
