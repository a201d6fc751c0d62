-- The tries of numbers that make no other base name.
use Rattle.std.proofs.Common.{◌≡◌, ◌≤◌, ◌<◌, ℕ, zero, suc, ◌+◌, ◌-◌, true, false, List, refl, ap, arith}
use Rattle.soy_base.specs.Among.{is_among}
use Rattle.soy_tree.specs.Types.{Name}
use Rattle.soy_rules.specs.Placeholders.{numbered_name}
use Rattle.msg_extract.specs.NameGroups.{free_among}

-- a try that goes on
pub goes_on : (left : ℕ) (bases : List Name) (base : Name) (n : ℕ) → 0 < left
    → is_among bases (numbered_name base n) ≡ true
    → free_among left bases base n ≡ free_among (left - 1) bases base (n + 1)
goes_on zero bases base n some e = absurd (omega arith)
goes_on (suc left) bases base n some e =
    let one : left ≡ suc left - 1 = omega arith in
    rw e (ap (λ k. free_among k bases base (n + 1)) one)

-- a try that ends
pub ends : (left : ℕ) (bases : List Name) (base : Name) (n : ℕ) → is_among bases (numbered_name base n) ≡ false
    → free_among left bases base n ≡ n
ends zero bases base n e = refl
ends (suc left) bases base n e = rw e refl

-- no try is left
pub over : (tries turn : ℕ) (bases : List Name) (base : Name) (n : ℕ) → tries ≤ turn
    → free_among (tries - turn) bases base n ≡ n
over tries turn bases base n past =
    let none : tries - turn ≡ 0 = omega arith in ap (λ left. free_among left bases base n) none
