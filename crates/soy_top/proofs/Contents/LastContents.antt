-- The contents of template files, and those before them.
use Rattle.std.proofs.Common.{◌≡◌, ℕ, zero, suc, ◌-◌, ◌≤◌, List, [], ◌∷◌, length, drop, take, refl, sym, ap, ◌∙◌}
use Rattle.std.proofs.Common.{arith, length-drop}
use Rattle.std.proofs.lemmas.List.{length-map}
use Rattle.soy_front.specs.ViewSources.{view_contents}
use Rattle.soy_front.specs.declared.source.Source.{Source}
use Rattle.soy_top.specs.Inputs.{but_last, last}

view_drop : (n : ℕ) (contents : List Source) → view_contents (drop n contents) ≡ drop n (view_contents contents)
view_drop zero contents = refl
view_drop (suc n) [] = refl
view_drop (suc n) (source ∷ contents) = view_drop n contents

view_take : (n : ℕ) (contents : List Source) → view_contents (take n contents) ≡ take n (view_contents contents)
view_take zero contents = refl
view_take (suc n) [] = refl
view_take (suc n) (source ∷ contents) = ap (λ l. source.bytes ∷ l) (view_take n contents)

seen_count : (count n : ℕ) (contents : List Source) → n ≡ length contents - count
    → n ≡ length (view_contents contents) - count
seen_count count n contents e =
    e ∙ ap (λ k. k - count) (sym (length-map contents (λ (s : Source). s.bytes)))

pub view_last : (count n : ℕ) (contents : List Source) → n ≡ length contents - count
    → view_contents (drop n contents) ≡ last count (view_contents contents)
view_last count n contents e =
    view_drop n contents ∙ ap (λ k. drop k (view_contents contents)) (seen_count count n contents e)

pub view_but_last : (count n : ℕ) (contents : List Source) → n ≡ length contents - count
    → view_contents (take n contents) ≡ but_last count (view_contents contents)
view_but_last count n contents e =
    view_take n contents ∙ ap (λ k. take k (view_contents contents)) (seen_count count n contents e)

-- the last contents are at most so many
pub few_last : (count : ℕ) (contents : List Source) (seen : List (List ℕ)) → view_contents contents ≡ last count seen
    → length contents ≤ count
few_last count contents seen is =
    omega (
      arith,
      length-map contents (λ (s : Source). s.bytes),
      ap length is,
      length-drop (length seen - count) seen,
    )
