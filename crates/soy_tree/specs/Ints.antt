-- The range of ints.
-- Ints go from -9007199254740991 to 9007199254740991, and a result beyond is the nearest end.
-- Example: 9007199254740991 + 1 is 9007199254740991.
use Rattle.std.specs.Prelude.{◌-◌, min, ℤ, pos, negsuc}
use Rattle.soy_base.specs.Limits.{largest}

-- `negsuc n` is -(n + 1)
abbrev pub nearest : ℤ → ℤ
nearest (pos n) = pos (min n largest)
nearest (negsuc n) = negsuc (min n (largest - 1))
