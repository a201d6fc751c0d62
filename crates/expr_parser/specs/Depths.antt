-- The depth at a token: the nodes on the longest branch of what is read up to it, inside the block commands that are
-- open around it. A node counts from its own token on, and an operator stands above the operand that was read before
-- it.
-- Example: the depths at the tokens of `1 + 2` are 1, 2 and 2.
use Rattle.std.specs.Prelude.{ℕ, ◌+◌, ◌-◌, ◌^◌, ◌≤◌, Bool, nat_le, min, max, List, [], ◌∷◌, map}

-- one more than the larger
abbrev pub deeper : ℕ → ℕ → ℕ
deeper a b = min (max a b + 1) (2 ^ 32 - 1)

-- depths inside a node, beside a branch of this height
abbrev pub beside : ℕ → List ℕ → List ℕ
beside h ds = map (deeper h) ds

-- the largest depth that is read
abbrev pub depth_limit : ℕ
depth_limit = 64

-- whether a depth is within the limit, where so many block commands are open around it
abbrev pub is_within : ℕ → ℕ → Bool
is_within blocks d = nat_le (blocks + d) depth_limit

abbrev pub AreWithin : ℕ → List ℕ → Type 0
AreWithin blocks [] = Unit {0}
AreWithin blocks (d ∷ ds) = (blocks + d ≤ depth_limit) × AreWithin blocks ds
