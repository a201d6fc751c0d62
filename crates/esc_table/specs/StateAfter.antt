-- The state after a whole text: a step taken at each of the text's characters in their order, and none where a step
-- finds a fault. A text keeps a set of states where it leads each of them, without a fault, to one of the set.
--
-- Where a `"` leads from Value to Tag, a line feed is a fault and every other character leads from Value to Value, the
-- text `ab` keeps the set of Value alone, and a text with `"` or a line feed does not.
use Rattle.std.specs.Prelude.{ℕ, List, [], ◌∷◌, Bool, IsTrue, Option, Some, IsSomeAnd, option_and_then}

abbrev pub state_after : {S : Type 0} → (S → ℕ → Option S) → S → List ℕ → Option S
state_after next state [] = Some state
state_after next state (c ∷ rest) = option_and_then (λ following. state_after next following rest) (next state c)

abbrev pub KeepsStates : {S : Type 0} → (S → ℕ → Option S) → (S → Bool) → List ℕ → Type 0
KeepsStates {S} next kept text =
    (state : S) → IsTrue (kept state) → IsSomeAnd (state_after next state text) (λ after. IsTrue (kept after))
