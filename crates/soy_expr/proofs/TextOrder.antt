-- The order of texts by code points.
use Rattle.std.proofs.Common.{◌≡◌, ℕ, false, List, [], ◌∷◌}
use mathlib.Core.Path.{refl}
use Rattle.soy_rules.specs.Val.{is_text_before}

-- no text stands before the empty one
pub before_nothing : (cs ds : List ℕ) → ds ≡ [] → is_text_before cs ds ≡ false
before_nothing [] ds e = rw e refl
before_nothing (c ∷ cs) ds e = rw e refl
