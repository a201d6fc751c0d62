-- Texts compared from some character on.
use Rattle.std.proofs.Common.{◌≡◌, ◌≢◌, ◌<◌, ◌≤◌, ℕ, Bool, true, false, eqb, ◌&&◌, List, [], ◌∷◌, length, suc, drop}
use Rattle.std.proofs.Common.{refl, ap}
use Rattle.std.proofs.Math.ListN.{drop_of_length-le}
use Rattle.std.proofs.Math.Seq.{drop-cons}
use Rattle.std.specs.Str.{bytes_eq}
use Rattle.html_state.specs.Texts.{is_prefix}

-- texts of two lengths are two
pub lengths_differ : (one other : List ℕ) → length one ≢ length other → bytes_eq one other ≡ false
lengths_differ [] [] differ = absurd (differ refl)
lengths_differ [] (d ∷ ds) differ = refl
lengths_differ (c ∷ cs) [] differ = refl
lengths_differ (c ∷ cs) (d ∷ ds) differ = rest_false (eqb c d)
    (lengths_differ cs ds (λ same. differ (ap suc same))) where
      rest_false : (same : Bool) → bytes_eq cs ds ≡ false → (same && bytes_eq cs ds) ≡ false
      rest_false true is = is
      rest_false false is = refl

-- nothing that goes on past a text's end is its prefix
pub past_text : (i : ℕ) (prefix text : List ℕ) → i < length prefix → length text ≤ i →
    is_prefix (drop i prefix) (drop i text) ≡ false
past_text i prefix text more past = rw (drop_of_length-le text past, drop-cons prefix i 0) refl
