-- Writes to a hasher, one list of them after another.
use Rattle.std.proofs.Common.{◌≡◌, ℕ, List, [], ◌∷◌, ◌++◌, refl}
use Rattle.std.specs.Prelude.{fold}

pub fed_both : {S : Type 0} (write : S → List ℕ → S) (s : S) (us vs : List (List ℕ))
    → fold write s (us ++ vs) ≡ fold write (fold write s us) vs
fed_both write s [] vs = refl
fed_both write s (w ∷ us) vs = fed_both write (write s w) us vs
