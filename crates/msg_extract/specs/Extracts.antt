-- What a call that lists messages answers, where this is the answer by the definition; it may always run out of memory.
use Rattle.std.specs.Prelude.{◌≡◌, List, Result, Ok, Err}
use Rattle.soy_base.specs.declared.fault.Fault.{Fault}
use Rattle.soy_base.specs.declared.memory.Refusal.{Refusal}
use Rattle.soy_base.specs.declared.memory.Refusal.TheVariants as refusal
use Rattle.msg_extract.specs.declared.catalogue.Catalogue.{Catalogue}
use Rattle.msg_extract.specs.declared.catalogue.Listed.{Listed}

abbrev pub Extracts : Result (List Listed) Fault → Result Catalogue (Refusal Fault) → Type 0
Extracts wanted (Ok c) = wanted ≡ Ok c.messages
Extracts wanted (Err (refusal.Because fault)) = wanted ≡ Err fault
Extracts wanted (Err refusal.OutOfMemory) = Unit {0}

-- of rows that are lent, and are these afterwards
abbrev pub Adds : Result (List Listed) Fault → List Listed → Result (Unit {0}) (Refusal Fault) → Type 0
Adds wanted rows (Ok done) = wanted ≡ Ok rows
Adds wanted rows (Err (refusal.Because fault)) = wanted ≡ Err fault
Adds wanted rows (Err refusal.OutOfMemory) = Unit {0}
