-- Refusals with what goes with their fault, and without it.
--
-- Example: a refusal without what goes with its fault is the fault alone.
use Rattle.std.specs.Prelude.{◌≡◌, Result, Ok, Err}
use Rattle.soy_base.specs.declared.fault.Fault.{Fault}
use Rattle.soy_base.specs.declared.memory.Refusal.{Refusal}
use Rattle.soy_base.specs.declared.memory.Refusal.TheVariants.{Because, OutOfMemory}
use Rattle.soy_front.specs.declared.fault.Detail.TheVariants as detail
use Rattle.soy_front.specs.declared.fault.Detail.{Detail}
use Rattle.soy_front.specs.declared.fault.Detailed.{Detailed}
use Rattle.soy_front.specs.declared.fault.FrontFault.TheVariants as front
use Rattle.soy_front.specs.declared.fault.FrontFault.{FrontFault}

-- an answer without what goes with its fault
abbrev pub without_detail : {A F : Type 0} → Result A (Refusal (Detailed F)) → Result A (Refusal F)
without_detail (Ok a) = Ok a
without_detail (Err (Because refusal)) = Err (Because refusal.fault)
without_detail (Err OutOfMemory) = Err OutOfMemory

-- with the fault of a refusal goes this
abbrev pub GoesWith : {F : Type 0} → Detail → Refusal (Detailed F) → Type 0
GoesWith wanted (Because refusal) = refusal.detail ≡ wanted
GoesWith wanted OutOfMemory = Unit {0}

-- **with the fault of an answer, if it is one, goes this**
abbrev pub HasDetail : {A F : Type 0} → Detail → Result A (Refusal (Detailed F)) → Type 0
HasDetail wanted (Ok a) = Unit {0}
HasDetail wanted (Err refusal) = GoesWith wanted refusal

-- a refusal of files as one of files and a bundle
abbrev pub IsOfFiles : Refusal (Detailed Fault) → Refusal (Detailed FrontFault) → Type 0
IsOfFiles (Because found) refusal =
    refusal ≡ Because (record { fault = front.Soy found.fault; detail = found.detail })
IsOfFiles OutOfMemory refusal = refusal ≡ OutOfMemory

-- a refusal with whose fault nothing goes
abbrev pub IsBare : Refusal Fault → Refusal (Detailed Fault) → Type 0
IsBare (Because fault) refusal = refusal ≡ Because (record { fault = fault; detail = detail.None })
IsBare OutOfMemory refusal = refusal ≡ OutOfMemory
