-- What a put's answer says of the bytes that the sink has taken, from `old` to `new`: a count says
-- that so many first bytes of the piece were taken, at least one of a piece that isn't empty; after
-- a fault nothing was taken.
--
-- Example: a put of "abc" that answers 2 made "x" into "xab".
use Rattle.std.specs.Prelude.{◌≡◌, ℕ, ◌<◌, ◌≤◌, List, length, take, Option, Result, Ok, Err}
use Rattle.soy_io.specs.Added.{added}
use Rattle.soy_io.specs.declared.sink.PutFault.{PutFault}

abbrev pub Puts : Option (List ℕ) → Option (List ℕ) → List ℕ → Result ℕ PutFault → Type 0
Puts old new piece (Ok count) =
    (new ≡ added old (take count piece)) × (count ≤ length piece) × (0 < length piece → 0 < count)
Puts old new piece (Err fault) = new ≡ old
