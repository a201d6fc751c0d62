-- A fault of a file without its position: it has its code and its file, and stands at 0.
-- Example: an unknown variable at offset 7 and one at offset 9 of the first file are one fault without positions.
use Rattle.std.specs.Prelude.{Result, Ok, Err}
use Rattle.soy_base.specs.declared.fault.Fault.{Fault}

abbrev pub fault_without_position : Fault → Fault
fault_without_position f = record f { at = 0 }

abbrev pub result_without_position : {A : Type 0} → Result A Fault → Result A Fault
result_without_position (Ok a) = Ok a
result_without_position (Err fault) = Err (fault_without_position fault)
