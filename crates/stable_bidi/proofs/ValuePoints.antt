-- The values of two lines that are one list but for what these hold stand at the same points.
use Rattle.std.proofs.Common.{◌≡◌, ℕ, suc, Bool, true, false, ◌==◌, ◌&&◌, if◌then◌else◌, List, [], ◌∷◌, ◌++◌, map}
use Rattle.std.proofs.Common.{refl, sym, ap, ◌∙◌}
use Rattle.std.proofs.lemmas.Bool.{and_from, eq-eqb}
use Rattle.bidi_order.specs.TwoLines.{Both, one_labelled, other_labelled}
use Rattle.bidi_order.specs.TwoLines.Both.{Shared, Values}
use Rattle.bidi_order.specs.WithinLimit.{LabelledCharacter, value_character}
use Rattle.stable_bidi.specs.SameVisualOrder.{points_behind, with_point}

-- a point is the same as itself
same_point : (n k : ℕ) → (n == n && k == k) ≡ true
same_point n k = and_from (n == n) (k == k) (eq-eqb n n refl) (eq-eqb k k refl)

-- put before others once more it changes nothing
point_twice : (n k : ℕ) (points : List (ℕ × ℕ)) → with_point n k (with_point n k points) ≡ with_point n k points
point_twice n k [] =
    ap (λ b. if b then (n, k) ∷ [] else (n, k) ∷ ((n, k) ∷ [])) (same_point n k)
point_twice n k (p ∷ points) = chosen (n == p.0 && k == p.1) refl
  where
    chosen : (b : Bool) → (n == p.0 && k == p.1) ≡ b
        → with_point n k (with_point n k (p ∷ points)) ≡ with_point n k (p ∷ points)
    chosen true is =
        let kept : with_point n k (p ∷ points) ≡ p ∷ points =
        ap (λ b. if b then p ∷ points else (n, k) ∷ (p ∷ points)) is in
        ap (with_point n k) kept
    chosen false is =
        let more : with_point n k (p ∷ points) ≡ (n, k) ∷ (p ∷ points) =
        ap (λ b. if b then p ∷ points else (n, k) ∷ (p ∷ points)) is in
        ap (with_point n k) more
        ∙ ap (λ b. if b then (n, k) ∷ (p ∷ points) else (n, k) ∷ ((n, k) ∷ (p ∷ points))) (same_point n k)
        ∙ sym more

-- a content and its PDI are at one point
content_point : (n k : ℕ) (v : List ℕ) (rest : List LabelledCharacter)
    → points_behind n ((map (value_character k) v ++ value_character k 0x2069 ∷ []) ++ rest)
    ≡ with_point n k (points_behind n rest)
content_point n k [] rest = refl
content_point n k (c ∷ v) rest =
    ap (with_point n k) (content_point n k v rest) ∙ point_twice n k (points_behind n rest)

-- so a value is, with its initiator
value_point : (n k : ℕ) (v : List ℕ) (rest : List LabelledCharacter)
    → with_point n k (points_behind n ((map (value_character k) v ++ value_character k 0x2069 ∷ []) ++ rest))
    ≡ with_point n k (points_behind n rest)
value_point n k v rest = ap (with_point n k) (content_point n k v rest) ∙ point_twice n k (points_behind n rest)

-- behind so many static characters both lines have the same values at the same points
pub same_points : (n : ℕ) (line : List Both)
    → points_behind n (one_labelled line) ≡ points_behind n (other_labelled line)
same_points n [] = refl
same_points n (Shared c ∷ line) = same_points (suc n) line
same_points n (Values k i j v w ∷ line) =
    value_point n k v (one_labelled line) ∙ ap (with_point n k) (same_points n line)
    ∙ sym (value_point n k w (other_labelled line))
