-- The count of faults rose, if the put's fault is that the sink failed. Running out of memory says nothing
-- of the count.
--
-- Example: `Failed` needs a rise, as from 2 to 3; `OutOfMemory` goes with 2 and 2.
use Rattle.std.specs.Prelude.{ℕ}
use Rattle.soy_io.specs.Rose.{Rose}
use Rattle.soy_io.specs.declared.sink.PutFault.{PutFault}
use Rattle.soy_io.specs.declared.sink.PutFault.TheVariants.{Failed, OutOfMemory}

abbrev pub PutRose : PutFault → ℕ → ℕ → Type 0
PutRose Failed before now = Rose before now
PutRose OutOfMemory before now = Unit {0}
