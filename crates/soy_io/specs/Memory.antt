-- The library and the sink in memory that fail at chosen calls, as contracts see them.
--
-- Example: a new sink has taken nothing, and no call of it was made.
use Rattle.std.specs.Prelude.{ℕ, List}
use Rattle.soy_io.specs.CallsMade.{CallsMade}
use Rattle.soy_io.specs.FileOf.{Files}

-- a library: its files, and its calls
pub record FailingFiles : Type 0 where
  pub files : Files
  pub made : CallsMade

-- a sink: the bytes that it has taken, the most that it takes in one put, and its calls
pub record FailingBytes : Type 0 where
  pub taken : List ℕ
  pub most : ℕ
  pub made : CallsMade
