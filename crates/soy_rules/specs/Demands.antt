-- What the checker demands of the trees of all files: the first fault, if there is one.
-- There are two passes over all files, declarations and bodies, and the first fault of the first pass that has one
-- counts.
-- Example: where the first file's body has an unknown variable and the second file declares a parameter twice, the
-- fault is the 6 of the second file.
use Rattle.std.specs.Prelude.{ℕ, List, [], ◌∷◌, Option, Some, None, Ok, Err, option_map}
use Rattle.std.specs.Option.{option_or}
use Rattle.soy_tree.specs.Types.{Name}
use Rattle.soy_rules.specs.Faults.{TypeFault}
use Rattle.soy_tree.specs.Trees.{Tree}
use Rattle.soy_rules.specs.Templates.{Declared, declared, full_name, param_scope}
use Rattle.soy_rules.specs.Declarations.{declaration_fault}
use Rattle.soy_rules.specs.Bodies.{Around, Checked, after_nodes}

-- the number of the file, and the fault in it
pub record CheckFault : Type 0 where
  pub file : ℕ
  pub fault : TypeFault

abbrev pub in_file : ℕ → TypeFault → CheckFault
in_file file fault = record { file = file; fault = fault }

abbrev pub declarations_fault : List Declared → List Name → Option CheckFault
declarations_fault [] before = None
declarations_fault (d ∷ ds) before =
    option_or (option_map (in_file d.file) (declaration_fault d before)) (declarations_fault ds (full_name d ∷ before))

abbrev pub fault_of : Checked → Option TypeFault
fault_of (Ok scope) = None
fault_of (Err fault) = Some fault

abbrev pub body_fault : List Declared → Declared → Option TypeFault
body_fault all d =
    let around : Around = record { declared = all; namespace = d.namespace; params = d.template.params } in
    fault_of (after_nodes around d.template.body (param_scope d.template.params))

abbrev pub bodies_fault : List Declared → List Declared → Option CheckFault
bodies_fault all [] = None
bodies_fault all (d ∷ ds) = option_or (option_map (in_file d.file) (body_fault all d)) (bodies_fault all ds)

abbrev pub check_fault : List Tree → Option CheckFault
check_fault trees = option_or (declarations_fault (declared trees) []) (bodies_fault (declared trees) (declared trees))
