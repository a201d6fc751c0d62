-- How a run ends by an ending: its text is said, with its status.
--
-- Example: at the ending of words that are no command, the usage text is said with the status Usage.
use Rattle.std.specs.Prelude.{◌≡◌, ℕ, List, ◌⊎◌, Some, Contains, IfSome}
use Rattle.std.specs.String.{string_bytes}
use Rattle.soy_io.specs.Rose.{Rose}
use Rattle.soy_io.specs.declared.sink.PutFault.{PutFault}
use Rattle.soy_io.specs.declared.sink.PutFault.TheVariants as fault
use Rattle.soy_top.specs.declared.ending.Ending.{Ending}
use Rattle.soy_top.specs.declared.ending.Ending.TheVariants as ending
use Rattle.soy_top.specs.declared.status.Status.{Status}
use Rattle.soy_top.specs.declared.status.Status.TheVariants as status
use Rattle.soy_top.specs.Answer.{Answer, Usage, Read, Refused}
use Rattle.soy_top.specs.Runs.Change.{Change}
use Rattle.soy_top.specs.Runs.Course.{Says}
use Rattle.soy_top.specs.Line.{ended, read_line, usage_text}
use Rattle.soy_top.specs.Words.{Word}
use Rattle.std.specs.Prelude.{Option}

-- the status of a put that was refused
abbrev pub put_status : PutFault → Status
put_status fault.Failed = status.Write
put_status fault.OutOfMemory = status.Memory

-- the text of an ending was said, with its status; where memory ran out nothing was
abbrev pub Concludes : Ending → Change → Type 0 → Status → Type 0
Concludes ending.Usage err SameErr result = Says status.Usage usage_text err result
Concludes (ending.Read text) err SameErr result = Says status.Read (string_bytes text) err result
Concludes (ending.Refused text) err SameErr result = Says status.Refused (string_bytes text) err result
Concludes ending.Memory err SameErr result = (result ≡ status.Memory) × SameErr

-- an ending is one to which a run may come
abbrev pub MayEnd : Option Answer → List Word → ℕ × ℕ → Ending → Type 0
MayEnd answer names file_faults ending.Usage = answer ≡ Some Usage
MayEnd answer names file_faults (ending.Read text) =
    (file : Word) × Contains names file × (Rose file_faults.0 file_faults.1 ⊎ (answer ≡ Some (Read file)))
    × (string_bytes text ≡ ended (read_line file))
MayEnd answer names file_faults (ending.Refused text) =
    (line : List ℕ) × IfSome answer (λ a. a ≡ Refused line) × (string_bytes text ≡ ended line)
MayEnd answer names file_faults ending.Memory = Unit {0}
