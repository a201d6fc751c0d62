-- The int that a text of decimal digits alone writes, if none on the way is over the largest.
-- Example: that of `120` is 120, and `1e2`, `-1` and a text without a digit have none.
use Rattle.std.specs.Prelude.{ℕ, ◌+◌, ◌-◌, ◌*◌, ◌==◌, ℤ, pos, ◌&&◌, nat_le, if◌then◌else◌, List, [], ◌∷◌, length}
use Rattle.std.specs.Prelude.{Option, Some, None}
use Rattle.std.specs.Char.{is_ascii_digit}
use Rattle.soy_base.specs.Limits.{largest}

-- the same of digits after those of n
abbrev pub int_after : ℕ → List ℕ → Option ℤ
int_after n [] = Some (pos n)
int_after n (c ∷ cs) =
    if is_ascii_digit c && nat_le (10 * n + (c - 48)) largest then int_after (10 * n + (c - 48)) cs else None

abbrev pub short_int : List ℕ → Option ℤ
short_int ds = if length ds == 0 then None else int_after 0 ds
