-- When each status is due, and what may come instead of it.
--
-- A status that is due yields to a sink that failed, to a library that failed before it, and to running out of memory;
-- the first two are seen in the count of faults of that sink or library.
-- Example: where a page is due, the status is Done; or Write, and the output failed; or Read, and the library failed;
-- or then Write, and standard error failed too; or Memory.
use Rattle.std.specs.Prelude.{◌≡◌, ℕ, ◌⊎◌}
use Rattle.soy_io.specs.Rose.{Rose}
use Rattle.soy_top.specs.declared.status.Status.{Status}
use Rattle.soy_top.specs.declared.status.Status.TheVariants as status
use Rattle.soy_top.specs.Runs.Change.{Change, Failed}

-- the status is the one that is due; or a sink that it needs failed, or memory ran out
abbrev pub IsDue : Status → Type 0 → Status → Type 0
IsDue due SinkFailed result = (result ≡ due) ⊎ (((result ≡ status.Write) × SinkFailed) ⊎ (result ≡ status.Memory))

abbrev pub UsageDue : Change → Status → Type 0
UsageDue err result = IsDue status.Usage (Failed err) result

abbrev pub ReadDue : Change → Status → Type 0
ReadDue err result = IsDue status.Read (Failed err) result

-- what is due once all files were fetched: where the library failed before that, Read is due instead
abbrev pub IsDueAfterFetch : Status → Type 0 → ℕ × ℕ → Change → Status → Type 0
IsDueAfterFetch due SinkFailed file_faults err result =
    IsDue due SinkFailed result ⊎ (Rose file_faults.0 file_faults.1 × ReadDue err result)

abbrev pub RefusedDue : ℕ × ℕ → Change → Status → Type 0
RefusedDue file_faults err result = IsDueAfterFetch status.Refused (Failed err) file_faults err result

abbrev pub DoneDue : ℕ × ℕ → Change → Change → Status → Type 0
DoneDue file_faults out err result = IsDueAfterFetch status.Done (Failed out) file_faults err result

abbrev pub TooDeepDue : ℕ × ℕ → Change → Change → Status → Type 0
TooDeepDue file_faults out err result = IsDueAfterFetch status.TooDeep (Failed out ⊎ Failed err) file_faults err result
