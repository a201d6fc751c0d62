-- What a typing answers: a type, the first fault, or that memory ran out.
use Rattle.std.specs.Prelude.{◌≡◌, Result, Ok, Err}
use Rattle.soy_base.specs.declared.memory.Refusal.{Refusal}
use Rattle.soy_base.specs.declared.memory.Refusal.TheVariants as refusal
use Rattle.soy_rules.specs.Faults.{TypeFault}
use Rattle.soy_tree.specs.Types.{SoyType}
use Rattle.soy_expr.specs.declared.type_fault.TypeFault as code

-- a type, or the first fault
abbrev pub TypeOrFault : Type 0
TypeOrFault = Result SoyType TypeFault

abbrev pub view_type_fault : code.TypeFault → TypeFault
view_type_fault f = record { code = f.code; at = f.at; left = f.left; right = f.right }

-- whether a refusal keeps this fault
abbrev pub Keeps : TypeFault → Refusal code.TypeFault → Type 0
Keeps fault (refusal.Because f) = fault ≡ view_type_fault f
Keeps fault refusal.OutOfMemory = Unit {0}

-- whether a refusal is that of this answer
abbrev pub FirstRefusal : TypeOrFault → Refusal code.TypeFault → Type 0
FirstRefusal wanted (refusal.Because f) = wanted ≡ Err (view_type_fault f)
FirstRefusal wanted refusal.OutOfMemory = Unit {0}

-- whether an answer, whose types are viewed so, is this one
abbrev pub Types : {A : Type 0} → (A → SoyType) → TypeOrFault → Result A (Refusal code.TypeFault) → Type 0
Types view wanted (Ok t) = wanted ≡ Ok (view t)
Types view wanted (Err refusal) = FirstRefusal wanted refusal
