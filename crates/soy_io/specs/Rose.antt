-- A count rose: it is greater than before, or stands at the last value of a `u64`, where it stays.
--
-- Example: from 2 to 3 it rose, from 2 to 2 it did not, from 2 ^ 64 - 1 to 2 ^ 64 - 1 it did.
use Rattle.std.specs.Prelude.{ℕ, ◌+◌, ◌-◌, ◌^◌, ◌≤◌, min}

abbrev pub Rose : ℕ → ℕ → Type 0
Rose before now = min (before + 1) (2 ^ 64 - 1) ≤ now
