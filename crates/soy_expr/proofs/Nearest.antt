-- Results that are cut to a range.
use Rattle.std.proofs.Common.{◌≡◌, ℕ, suc, arith}
use Rattle.std.specs.Prelude.{ℤ, pos, negsuc, ◌-ℤ◌, neg_ℤ, int_rem}
use Rattle.std.specs.Int.{saturate_to_bits}
use Rattle.std.proofs.Math.Nat.{mod-zero}
use Rattle.std.proofs.lemmas.Int.{ints}
use mathlib.Core.Path.{ap}
use Rattle.soy_tree.specs.Ints.{nearest}

pub nearest_saturated : (z : ℤ) → nearest (saturate_to_bits 63 z) ≡ nearest z
nearest_saturated (pos n) = ap pos (omega arith)
nearest_saturated (negsuc n) = ap negsuc (omega arith)

pub int_rem_zero : (z : ℤ) → int_rem z (pos 0) ≡ z
int_rem_zero (pos n) = ap pos (mod-zero n)
int_rem_zero (negsuc n) = ap (λ (m : ℕ). neg_ℤ (pos m)) (mod-zero (suc n))

pub zero_minus : (z : ℤ) → pos 0 -ℤ z ≡ neg_ℤ z
zero_minus z = omega (arith, ints)
