-- A fault of what goes first is the fault of the whole.
use Rattle.std.specs.Prelude.{Option, Some, Result, Err}
use Rattle.std.specs.Option.{option_or}
use mathlib.Core.Path.{refl, ap}
use Rattle.soy_base.specs.declared.memory.Refusal.{Refusal}
use Rattle.soy_base.specs.declared.memory.Refusal.TheVariants as refusal
use Rattle.soy_tree.specs.Types.{SoyType}
use Rattle.soy_rules.specs.Faults.{TypeFault, followed_by}
use Rattle.soy_rules.specs.Demands.{CheckFault}
use Rattle.soy_expr.specs.declared.type_fault.TypeFault as code
use Rattle.soy_expr.specs.ViewTypeFault.{FirstRefusal, Keeps}
use Rattle.soy_check.specs.declared.checker.CheckFault as code_check
use Rattle.soy_check.specs.Answers.{KeepsFault, KeepsInFile, Refuses}

pub refused_first : {A B : Type 0} (r : Result A TypeFault) (next : A → Result B TypeFault)
    (e : Refusal code.TypeFault) → Refuses r e → Refuses (followed_by r next) e
refused_first r next (refusal.Because f) h = rw h refl
refused_first r next refusal.OutOfMemory h = tt

pub refused_type : {B : Type 0} (r : Result SoyType TypeFault) (next : SoyType → Result B TypeFault)
    (e : Refusal code.TypeFault) → FirstRefusal r e → Refuses (followed_by r next) e
refused_type r next (refusal.Because f) h = rw h refl
refused_type r next refusal.OutOfMemory h = tt

pub kept : (A : Type 0) (f : TypeFault) (e : Refusal code.TypeFault) → Keeps f e → Refuses {A = A} (Err f) e
kept A f (refusal.Because g) h = ap Err h
kept A f refusal.OutOfMemory h = tt

pub kept_fault : (f : TypeFault) (e : Refusal code.TypeFault) → Keeps f e → KeepsFault (Some f) e
kept_fault f (refusal.Because g) h = ap Some h
kept_fault f refusal.OutOfMemory h = tt

pub found_first : (a b : Option TypeFault) (e : Refusal code.TypeFault) → KeepsFault a e → KeepsFault (option_or a b) e
found_first a b (refusal.Because f) h = rw h refl
found_first a b refusal.OutOfMemory h = tt

pub found_first_in_file : (a b : Option CheckFault) (e : Refusal code_check.CheckFault) → KeepsInFile a e
    → KeepsInFile (option_or a b) e
found_first_in_file a b (refusal.Because f) h = rw h refl
found_first_in_file a b refusal.OutOfMemory h = tt
