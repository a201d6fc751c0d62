-- The calls of a library or a sink that fails at chosen calls: the numbers of those that fail, counted from 1,
-- how many calls were made, and how many of them failed. The counts stop at the last value of a
-- `u64`.
--
-- Example: with the numbers 2 and 3, the first call doesn't fail, and after it the next one does.
use Rattle.std.specs.Prelude.{ℕ, ◌+◌, ◌-◌, ◌^◌, Bool, ◌==◌, if◌then◌else◌, List, min}
use Rattle.std.specs.List.{list_any}

pub record CallsMade : Type 0 where
  pub fails : List ℕ
  pub calls : ℕ
  pub faults : ℕ

-- one more, up to the last value
abbrev pub counted_up : ℕ → ℕ
counted_up count = min (count + 1) (2 ^ 64 - 1)

-- whether the next call is one of those that fail
abbrev pub fails_next : CallsMade → Bool
fails_next made = list_any (λ call. call == counted_up made.calls) made.fails

-- after that call
abbrev pub next_made : CallsMade → CallsMade
next_made made = record {
  fails = made.fails;
  calls = counted_up made.calls;
  faults = if fails_next made then counted_up made.faults else made.faults;
}
