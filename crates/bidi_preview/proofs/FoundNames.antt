-- Texts of different lengths differ, and two texts in either order.
use Rattle.std.proofs.Common.{◌≡◌, ◌≢◌, ◌&&◌, ◌==◌, ℕ, suc, Bool, true, false, List, [], ◌∷◌, length, refl, sym, ap}
use Rattle.std.proofs.Common.{◌∙◌, eqb}
use Rattle.std.proofs.lemmas.Bool.{eq-eqb, eqb-false, eqb-true, ne_eqb}
use Rattle.std.specs.Str.{bytes_eq}

pub lengths_differ : (one other : List ℕ) → length one ≢ length other → bytes_eq one other ≡ false
lengths_differ [] [] differ = absurd (differ refl)
lengths_differ [] (d ∷ ds) differ = refl
lengths_differ (c ∷ cs) [] differ = refl
lengths_differ (c ∷ cs) (d ∷ ds) differ = rest_false (eqb c d)
    (lengths_differ cs ds (λ same. differ (ap suc same))) where
      rest_false : (same : Bool) → bytes_eq cs ds ≡ false → (same && bytes_eq cs ds) ≡ false
      rest_false true is = is
      rest_false false is = refl

same-eqb : (a b : ℕ) → (a == b) ≡ (b == a)
same-eqb a b = go (a == b) refl
  where
    go : (t : Bool) → (a == b) ≡ t → t ≡ (b == a)
    go true e = sym (eq-eqb b a (sym (eqb-true a b e)))
    go false e = sym (ne_eqb b a (λ (q : b ≡ a). eqb-false a b e (sym q)))

pub same_bytes : (xs ys : List ℕ) → bytes_eq xs ys ≡ bytes_eq ys xs
same_bytes [] [] = refl
same_bytes [] (y ∷ ys) = refl
same_bytes (x ∷ xs) [] = refl
same_bytes (x ∷ xs) (y ∷ ys) =
    ap (λ b. b && bytes_eq xs ys) (same-eqb x y) ∙ ap (λ b. (y == x) && b) (same_bytes xs ys)
