-- The draws: numbers in a row that the first number decides.
--
-- The state begins as a number. A draw multiplies the state by 6364136223846793005, adds 1442695040888963407 and takes
-- that modulo 2^64; what it gives is the new state divided by 2^33, rounded down. `pick k` is a draw modulo k.
use Rattle.std.specs.Prelude.{ℕ, zero, suc, ◌+◌, ◌*◌, ◌/◌, ◌%◌, ◌^◌}

-- the state after a draw
unfoldable pub next_state : ℕ → ℕ
next_state state = (state * 6364136223846793005 + 1442695040888963407) % 2 ^ 64

-- what a draw from a state gives, modulo k
abbrev pub pick : ℕ → ℕ → ℕ
pick k state = next_state state / 2 ^ 33 % k

-- the state after so many draws
abbrev pub state_after : ℕ → ℕ → ℕ
state_after zero state = state
state_after (suc draws) state = state_after draws (next_state state)
