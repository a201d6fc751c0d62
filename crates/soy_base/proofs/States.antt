-- The state after a text, for any step.
use Rattle.std.proofs.Common.{◌≡◌, ℕ, List, [], ◌∷◌, ◌++◌, refl, ap}
use Rattle.std.specs.Prelude.{Option, Some, None, option_and_then}
use Rattle.soy_base.specs.StateAfter.{state_after}

-- where a character leads to a state, the text goes on from there
pub state_after-cons : {S : Type 0} (next : S → ℕ → Option S) (state past : S) (c : ℕ) (rest : List ℕ)
    → next state c ≡ Some past → state_after next state (c ∷ rest) ≡ state_after next past rest
state_after-cons next state past c rest leads = ap (option_and_then (λ t. state_after next t rest)) leads

-- the state after two pieces is that after the second, from that after the first
pub state_after-append : {S : Type 0} (next : S → ℕ → Option S) (state : S) (first second : List ℕ)
    → state_after next state (first ++ second) ≡ option_and_then (λ t. state_after next t second)
    (state_after next state first)
state_after-append next state [] second = refl
state_after-append next state (c ∷ first) second =
    elim (next state c) as (λ o. option_and_then (λ t. state_after next t (first ++ second)) o ≡ option_and_then
    (λ t. state_after next t second) (option_and_then (λ t. state_after next t first) o))
    [ None ↦ refl | Some past ↦ state_after-append next past first second ]

-- the same where the first piece is known to lead to a state
pub state_after-append_some : {S : Type 0} (next : S → ℕ → Option S) (state past : S) (first second : List ℕ)
    → state_after next state first ≡ Some past → state_after next state (first ++ second) ≡ state_after next past second
state_after-append_some next state past first second leads = rw (state_after-append next state first second, leads) refl
