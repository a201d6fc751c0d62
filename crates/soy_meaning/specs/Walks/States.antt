-- Lists of states without repeats, in the order in which the states came.
--
-- Example: joining the states a and b with b and c gives a, b and c.
use Rattle.std.specs.Prelude.{◌≡◌, ℕ, Bool, true, false, List, [], ◌∷◌, ◌++◌, ◌⊎◌, if◌then◌else◌, length, ◌≤◌}
use Rattle.soy_meaning.specs.Walks.Machine.{Machine}

-- how many states may be carried together past where arms or turns meet
abbrev pub state_limit : ℕ
state_limit = 16

-- how many turns of a loop are followed at the most: each but the last adds a state
abbrev pub turn_limit : ℕ
turn_limit = 17

abbrev pub IsMember : {S : Type 0} → S → List S → Type 0
IsMember s [] = ⊥
IsMember s (x ∷ xs) = (s ≡ x) ⊎ IsMember s xs

abbrev pub HasNoRepeats : {S : Type 0} → List S → Type 0
HasNoRepeats [] = Unit {0}
HasNoRepeats (x ∷ xs) = (IsMember x xs → ⊥) × HasNoRepeats xs

-- at most so many different ones
abbrev pub AtMost : {S : Type 0} → ℕ → (S → Type 0) → Type 0
AtMost {S} n P = (xs : List S) → HasNoRepeats xs → ((s : S) → IsMember s xs → P s) → length xs ≤ n

module _ {S : Type 0} (m : Machine S) where
  abbrev pub has_state : S → List S → Bool
  has_state s [] = false
  has_state s (x ∷ xs) = if m.same s x then true else has_state s xs

  -- with one more state, unless it is there
  abbrev pub with_state : List S → S → List S
  with_state xs s = if has_state s xs then xs else xs ++ (s ∷ [])

  abbrev pub joined_states : List S → List S → List S
  joined_states xs [] = xs
  joined_states xs (y ∷ ys) = joined_states (with_state xs y) ys
