-- Characters in an array whose unused room is zeros: the array is known by those in use.
use Rattle.std.specs.Prelude.{◌≡◌, ◌≤◌, ◌-◌, ◌++◌, ℕ, List, length, take, drop, replicate}
use Rattle.std.proofs.Common.{ap, sym, subst, ◌∙◌, take-append-drop, length-take-le}

-- as many are in use as are counted
pub counted : (room count : ℕ) (array : List ℕ) → count ≤ room → length array ≡ room → length (take count array) ≡ count
counted room count array small full = length-take-le count array (subst (λ n. count ≤ n) (sym full) small)

-- those in use, filled up, are the array
pub padded : (room count : ℕ) (array : List ℕ) → count ≤ room → length array ≡ room →
    drop count array ≡ replicate (room - count) 0 →
    take count array ++ replicate (room - length (take count array)) 0 ≡ array
padded room count array small full rest =
    ap (λ n. take count array ++ replicate (room - n) 0) (counted room count array small full)
    ∙ (ap (λ zeros. take count array ++ zeros) (sym rest) ∙ take-append-drop count array)
