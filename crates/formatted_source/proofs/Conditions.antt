-- What conditions that hold together say of each.
use Rattle.std.proofs.Common.{◌≡◌, ◌&&◌, not, Bool, true, false, refl}

pub three : (a b c : Bool) → (a && b && c) ≡ true → (a ≡ true) × (b ≡ true) × (c ≡ true)
three true true true h = (refl, refl, refl)
three true true false h = cc
three true false c h = cc
three false b c h = cc

pub four : (a b c d : Bool) → (a && b && c && d) ≡ true → (a ≡ true) × (b ≡ true) × (c ≡ true) × (d ≡ true)
four true true true true h = (refl, refl, refl, refl)
four true true true false h = cc
four true true false d h = cc
four true false c d h = cc
four false b c d h = cc

pub not_true : (t : Bool) → not t ≡ true → t ≡ false
not_true true h = cc
not_true false h = refl
