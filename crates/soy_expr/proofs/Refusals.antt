-- A fault of what goes first is the fault of the whole.
use Rattle.std.specs.Prelude.{Result}
use mathlib.Core.Path.{refl}
use Rattle.soy_base.specs.declared.memory.Refusal.{Refusal}
use Rattle.soy_base.specs.declared.memory.Refusal.TheVariants as refusal
use Rattle.soy_tree.specs.Types.{SoyType}
use Rattle.soy_rules.specs.Faults.{TypeFault, followed_by}
use Rattle.soy_expr.specs.declared.type_fault.TypeFault as code
use Rattle.soy_expr.specs.ViewTypeFault.{FirstRefusal}

pub refused_first : (r : Result SoyType TypeFault) (next : SoyType → Result SoyType TypeFault)
    (e : Refusal code.TypeFault) → FirstRefusal r e → FirstRefusal (followed_by r next) e
refused_first r next (refusal.Because f) h = rw h refl
refused_first r next refusal.OutOfMemory h = tt
