-- When what the code answers is what is read.
-- A value stands for what is read, and a refusal for the path or for running out of memory.
-- Example: where a value fits nothing at the item 2, the refusal holds the path of one step, 2.
use Rattle.std.specs.Prelude.{◌≡◌, ◌∷◌, Result, Ok, Err}
use Rattle.soy_base.specs.declared.memory.Refusal.{Refusal}
use Rattle.soy_base.specs.declared.memory.Refusal.TheVariants.{Because, OutOfMemory}
use Rattle.soy_base.specs.declared.code.Code.{Code}
use Rattle.soy_base.specs.declared.path.PathStep.{PathStep}
use Rattle.soy_tree.specs.declared.value.Value as code_value
use Rattle.soy_rules.specs.ShortLists.{HasShortLists}
use Rattle.soy_tree.specs.Values.{Value}
use Rattle.soy_tree.specs.ViewValues.{view_value}
use Rattle.soy_types.specs.declared.fault.DataFault.{DataFault}
use Rattle.soy_base.specs.Path.{Path}

abbrev pub Reads : {A B : Type 0} → (B → A) → Result A Path → Result B (Refusal Path) → Type 0
Reads view read (Ok answer) = read ≡ Ok (view answer)
Reads view read (Err (Because path)) = read ≡ Err path
Reads view read (Err OutOfMemory) = Unit {0}

-- a refusal with one more step before its path
abbrev pub StepsInto : PathStep → Refusal Path → Refusal Path → Type 0
StepsInto step (Because path) (Because longer) = longer ≡ step ∷ path
StepsInto step (Because path) OutOfMemory = Unit {0}
StepsInto step OutOfMemory (Because longer) = ⊥
StepsInto step OutOfMemory OutOfMemory = Unit {0}

abbrev pub ReadsData : Result Value (Code × Path) → Result code_value.Value (Refusal DataFault) → Type 0
ReadsData read (Ok answer) = read ≡ Ok (view_value answer)
ReadsData read (Err (Because fault)) = read ≡ Err (fault.code, fault.path)
ReadsData read (Err OutOfMemory) = Unit {0}

-- the lists in a value that is answered are short
abbrev pub ReadsShort : {E : Type 0} → Result code_value.Value E → Type 0
ReadsShort (Ok answer) = HasShortLists (view_value answer)
ReadsShort (Err refusal) = Unit {0}
