-- What the check, or a part of it, answers: that all holds, the first failure, or that memory ran out.
-- Example: where the definition's answer is the fault 7 at 5, the code's is that, or that memory ran out.
use Rattle.std.specs.Prelude.{◌≡◌, List, Option, Some, None, Result, Ok, Err}
use Rattle.soy_base.specs.declared.memory.Refusal.{Refusal}
use Rattle.soy_base.specs.declared.memory.Refusal.TheVariants as refusal
use Rattle.soy_tree.specs.declared.tree.Tree as code_tree
use Rattle.soy_rules.specs.Faults.{TypeFault}
use Rattle.soy_rules.specs.TypeOf.{Scope}
use Rattle.soy_rules.specs.Bodies.{Checked}
use Rattle.soy_rules.specs.Demands.{CheckFault, check_fault, in_file}
use Rattle.soy_tree.specs.ViewTrees.{view_trees}
use Rattle.soy_expr.specs.declared.type_fault.TypeFault as code_fault
use Rattle.soy_expr.specs.ViewTypeFault.{view_type_fault}
use Rattle.soy_check.specs.declared.checker.CheckFault as code

abbrev pub view_check_fault : code.CheckFault → CheckFault
view_check_fault f =
    in_file f.fault.file (record { code = f.fault.code; at = f.fault.at; left = f.left; right = f.right })

-- what `check` answers: the trees unchanged, where there is no failure, or the first one
abbrev pub Checks : List code_tree.Tree → Result (List code_tree.Tree) (Refusal code.CheckFault) → Type 0
Checks trees (Ok typed) = (typed ≡ trees) × (check_fault (view_trees trees) ≡ None)
Checks trees (Err (refusal.Because f)) = check_fault (view_trees trees) ≡ Some (view_check_fault f)
Checks trees (Err refusal.OutOfMemory) = Unit {0}

-- whether a refusal keeps this failure
abbrev pub KeepsInFile : Option CheckFault → Refusal code.CheckFault → Type 0
KeepsInFile wanted (refusal.Because f) = wanted ≡ Some (view_check_fault f)
KeepsInFile wanted refusal.OutOfMemory = Unit {0}

-- whether an answer is that there is no failure, or this one
abbrev pub FindsInFile : {A : Type 0} → Option CheckFault → Result A (Refusal code.CheckFault) → Type 0
FindsInFile wanted (Ok a) = wanted ≡ None
FindsInFile wanted (Err e) = KeepsInFile wanted e

-- the same of a part of a file
abbrev pub MaybeFault : Type 0
MaybeFault = Option TypeFault

abbrev pub KeepsFault : Option TypeFault → Refusal code_fault.TypeFault → Type 0
KeepsFault wanted (refusal.Because f) = wanted ≡ Some (view_type_fault f)
KeepsFault wanted refusal.OutOfMemory = Unit {0}

abbrev pub Finds : {A : Type 0} → Option TypeFault → Result A (Refusal code_fault.TypeFault) → Type 0
Finds wanted (Ok a) = wanted ≡ None
Finds wanted (Err e) = KeepsFault wanted e

-- whether a refusal keeps the fault of this answer
abbrev pub Refuses : {A : Type 0} → Result A TypeFault → Refusal code_fault.TypeFault → Type 0
Refuses wanted (refusal.Because f) = wanted ≡ Err (view_type_fault f)
Refuses wanted refusal.OutOfMemory = Unit {0}

-- whether an answer, whose items are viewed so, is this one
abbrev pub Answers : {A B : Type 0} → (B → A) → Result A TypeFault → Result B (Refusal code_fault.TypeFault) → Type 0
Answers view wanted (Ok b) = wanted ≡ Ok (view b)
Answers view wanted (Err e) = Refuses wanted e

-- whether an answer is this one, with this scope afterwards
abbrev pub Passes : {A : Type 0} → Checked → Scope → Result A (Refusal code_fault.TypeFault) → Type 0
Passes wanted scope (Ok a) = wanted ≡ Ok scope
Passes wanted scope (Err e) = Refuses wanted e

-- whether an answer is this one, with any scope afterwards
abbrev pub Ends : {A : Type 0} → Checked → Result A (Refusal code_fault.TypeFault) → Type 0
Ends wanted (Ok a) = (end : Scope) × (wanted ≡ Ok end)
Ends wanted (Err e) = Refuses wanted e
