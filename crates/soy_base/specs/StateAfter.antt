-- The state after a whole text: a step, from a state and a character to the next state, taken over the characters of
-- the text in their order.
--
-- There is no state after a text in which some step has none.
-- Example: by the step that counts and refuses the character `x`, the state after `ab` from 0 is 2, and after `axb`
-- there is none.
use Rattle.std.specs.Prelude.{ℕ, List, [], ◌∷◌, Option, Some, option_and_then}

abbrev pub state_after : {S : Type 0} → (S → ℕ → Option S) → S → List ℕ → Option S
state_after next state [] = Some state
state_after next state (c ∷ rest) = option_and_then (λ following. state_after next following rest) (next state c)
