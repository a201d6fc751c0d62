-- The count of faults rose, if the fetch's fault is that the library failed. Running out of memory says
-- nothing of the count.
--
-- Example: `Failed` needs a rise, as from 2 to 3; `OutOfMemory` goes with 2 and 2.
use Rattle.std.specs.Prelude.{ℕ}
use Rattle.soy_io.specs.Rose.{Rose}
use Rattle.soy_io.specs.declared.library.FetchFault.{FetchFault}
use Rattle.soy_io.specs.declared.library.FetchFault.TheVariants.{Failed, OutOfMemory}

abbrev pub FetchRose : FetchFault → ℕ → ℕ → Type 0
FetchRose Failed before now = Rose before now
FetchRose OutOfMemory before now = Unit {0}
