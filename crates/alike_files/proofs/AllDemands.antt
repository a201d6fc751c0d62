-- What is demanded of the trees of all files reads no more of spans than where a fault is.
use Rattle.std.proofs.Common.{◌≡◌, ℕ, List, [], ◌∷◌, map, Option, Some, None, refl}
use Rattle.std.specs.Prelude.{Ok, Err, option_map}
use Rattle.soy_rules.specs.Bodies.{Around, Checked, after_nodes}
use Rattle.soy_rules.specs.Declarations.{declaration_fault}
use Rattle.soy_rules.specs.Demands.{CheckFault, bodies_fault, body_fault, check_fault, declarations_fault, fault_of}
use Rattle.soy_rules.specs.Demands.{in_file}
use Rattle.soy_rules.specs.Faults.{TypeFault}
use Rattle.soy_rules.specs.Templates.{Declared, declared, full_name, param_scope}
use Rattle.soy_tree.specs.Trees.{Tree}
use Rattle.soy_tree.specs.Types.{Name}
use Rattle.soy_format.specs.WithoutSpans.{tree_without_spans}
use Rattle.alike_files.proofs.DeclarationFaults.{declaration_same}
use Rattle.alike_files.proofs.DeclaredTemplates.{declared_same, declared_without_spans, param_scope_same}
use Rattle.alike_files.proofs.Faults.{fault_placeless, first_same, placeless}
use Rattle.alike_files.proofs.NodeFaults.{nodes_same}

abbrev pub check_placeless : CheckFault → CheckFault
check_placeless f = record f { fault = fault_placeless f.fault }

of_file_same : (file : ℕ) (a b : Option TypeFault) → b ≡ option_map fault_placeless a
    → option_map (in_file file) b ≡ option_map check_placeless (option_map (in_file file) a)
of_file_same file None b e = rw e refl
of_file_same file (Some fault) b e = rw e refl

declarations_same : (ds : List Declared) (before : List Name)
    → declarations_fault (map declared_without_spans ds) before
    ≡ option_map check_placeless (declarations_fault ds before)
declarations_same [] before = refl
declarations_same (d ∷ ds) before =
    first_same check_placeless (option_map (in_file d.file) (declaration_fault d before)) _
    (declarations_fault ds (full_name d ∷ before)) _
    (of_file_same d.file (declaration_fault d before) _ (declaration_same d before))
    (declarations_same ds (full_name d ∷ before))

fault_of_same : (r s : Checked) → s ≡ placeless r → fault_of s ≡ option_map fault_placeless (fault_of r)
fault_of_same (Ok scope) s e = rw e refl
fault_of_same (Err fault) s e = rw e refl

body_fault_same : (all : List Declared) (d : Declared)
    → body_fault (map declared_without_spans all) (declared_without_spans d)
    ≡ option_map fault_placeless (body_fault all d)
body_fault_same all d =
    let c : Around = record { declared = all; namespace = d.namespace; params = d.template.params } in
    rw (param_scope_same d.template.params)
    (fault_of_same (after_nodes c d.template.body (param_scope d.template.params)) _
    (nodes_same c d.template.body (param_scope d.template.params)))

bodies_same : (all ds : List Declared)
    → bodies_fault (map declared_without_spans all) (map declared_without_spans ds)
    ≡ option_map check_placeless (bodies_fault all ds)
bodies_same all [] = refl
bodies_same all (d ∷ ds) =
    first_same check_placeless (option_map (in_file d.file) (body_fault all d)) _ (bodies_fault all ds) _
    (of_file_same d.file (body_fault all d) _ (body_fault_same all d)) (bodies_same all ds)

-- **the first failed demand**
pub demands_same : (trees : List Tree)
    → check_fault (map tree_without_spans trees) ≡ option_map check_placeless (check_fault trees)
demands_same trees =
    rw (declared_same trees)
    (first_same check_placeless (declarations_fault (declared trees) []) _
    (bodies_fault (declared trees) (declared trees)) _ (declarations_same (declared trees) [])
    (bodies_same (declared trees) (declared trees)))
