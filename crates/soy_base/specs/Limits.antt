-- How large ints and files may be.
-- Example: 9007199254740991 is an int, and 9007199254740992 is none.
use Rattle.std.specs.Prelude.{ℕ}

-- the largest int
abbrev pub largest : ℕ
largest = 9007199254740991

-- the most bytes that a file may have
abbrev pub largest_file : ℕ
largest_file = 1048576
