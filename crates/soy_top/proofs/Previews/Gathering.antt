-- A page that is gathered pull by pull: its text is what was gathered and what is left.
use Rattle.std.proofs.Common.{◌≡◌, ◌≤◌, ◌<◌, ◌-◌, ℕ, List, [], ◌++◌, length, take, sym, ap, ◌∙◌, arith}
use Rattle.std.proofs.Common.{append_assoc, append-nil, length-append}
use Rattle.soy_top.proofs.Pulling.{left_fewer}

-- at first nothing was gathered
pub gathered_none : (text rest got : List ℕ) → rest ≡ text → got ≡ [] → text ≡ got ++ rest
gathered_none text rest got all none = sym all ∙ sym (ap (λ g. g ++ rest) none)

module _ (text rest got : List ℕ) (far : text ≡ got ++ rest) where
  -- one more piece was gathered
  pub gathered_more : (piece others : List ℕ) → rest ≡ piece ++ others → text ≡ (got ++ piece) ++ others
  gathered_more piece others same =
      far ∙ (ap (λ r. got ++ r) same ∙ sym (append_assoc got piece others))

  pub gathered_with : (piece others added : List ℕ) → rest ≡ piece ++ others → added ≡ got ++ piece
      → text ≡ added ++ others
  gathered_with piece others added same is = gathered_more piece others same ∙ ap (λ g. g ++ others) (sym is)

  -- where nothing is left, all was
  pub gathered_whole : rest ≡ [] → got ≡ text
  gathered_whole none = sym (far ∙ (ap (λ r. got ++ r) none ∙ append-nil got))

  -- what was gathered is no longer than the text
  pub gathered_within : length got ≤ length text
  gathered_within = omega (arith, ap length far, length-append got rest)

  -- a piece that doesn't fit below the limit makes the text too long
  pub too_many : (limit n : ℕ) (room others : List ℕ) → rest ≡ take n room ++ others → n ≤ length room
      → limit - length got < n → limit < length text
  too_many limit n room others same within more =
      omega (arith, ap length far, length-append got rest, left_fewer rest others room n same within, more)
