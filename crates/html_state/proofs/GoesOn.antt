-- The numbers that begin with some digits.
use Rattle.std.proofs.Common.{◌≡◌, ◌<◌, ◌*◌, ◌+◌, ◌-◌, ℕ, zero, suc, Bool, ◌||◌, refl, ap, sym, ◌∙◌, ◌≤◌, arith}
use Rattle.std.specs.Prelude.{min}
use Rattle.html_state.specs.References.{may_go_on, is_some_allowed, beyond}

-- with one digit more
pub goes_on : (base more low high : ℕ) → 0 < more →
    may_go_on base more low high ≡ (is_some_allowed low high
    || may_go_on base (more - 1) (min (low * base) beyond) (min (high * base + (base - 1)) beyond))
unfolding may_go_on
goes_on base zero low high some = absurd (omega arith)
goes_on base (suc more) low high some =
    ap (λ left. is_some_allowed low high || may_go_on base left (min (low * base) beyond)
    (min (high * base + (base - 1)) beyond)) (let one : more ≡ suc more - 1 = omega arith in one)

-- with none
pub goes_on_none : (base low high : ℕ) → may_go_on base 0 low high ≡ is_some_allowed low high
unfolding may_go_on
goes_on_none base low high = refl

-- when no turn is left
pub goes_on_end : (base more turn low high : ℕ) (whole : Bool) → more ≤ turn →
    may_go_on base (more - turn) low high ≡ whole → is_some_allowed low high ≡ whole
goes_on_end base more turn low high whole past same =
    let none : more - turn ≡ 0 = omega arith in
    sym (goes_on_none base low high) ∙ (ap (λ left. may_go_on base left low high) (sym none) ∙ same)
