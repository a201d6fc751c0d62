-- Rows: where the variables of a loop are visible.
use Rattle.std.proofs.Common.{◌≡◌, List, [], ◌∷◌, ℕ, ◌-◌}
use Rattle.std.specs.Prelude.{Ok, Some, None}
use mathlib.Core.Path.{refl}
use Rattle.soy_base.specs.declared.code.Code.TheVariants as code
use Rattle.soy_tree.specs.Types.{IntType, ListType}
use Rattle.soy_tree.specs.Nodes.{Node, Nodes, Print, For, Let, no_node, node}
use Rattle.soy_rules.specs.Faults.{fails}
use Rattle.soy_rules.specs.TypeOf.{Scope}
use Rattle.soy_rules.specs.Bodies.{Around, Checked, after_nodes}
use Rattle.soy_rules.proofs.Rows.{at, a, b, n, var, int, scope_of}

abbrev around : Around
around = record { declared = []; namespace = a; params = [] }

abbrev checked : Nodes → Scope → Checked
checked = after_nodes around

abbrev list_b : Scope
list_b = scope_of b (ListType IntType)

-- a loop over `$b` with the variable `$a`, the index `$n` and this body
abbrev loop : Nodes → Node
loop body = For a (Some n) (var b 15) body (at 0)

abbrev printed : List ℕ → ℕ → Nodes
printed name offset = node (Print (var name offset) None (at (offset - 1))) no_node

loop_variables_inside : checked (node (loop (printed a 20)) no_node) list_b ≡ Ok list_b
loop_variables_inside = refl

index_inside : checked (node (loop (printed n 20)) no_node) list_b ≡ Ok list_b
index_inside = refl

loop_variable_in_its_list : checked (node (For a (Some n) (var a 15) no_node (at 0)) no_node) list_b
    ≡ fails code.Unknown 15 a []
loop_variable_in_its_list = refl

loop_variable_after_its_loop : checked (node (loop no_node) (printed a 30)) list_b ≡ fails code.Unknown 30 a []
loop_variable_after_its_loop = refl

index_after_its_loop : checked (node (loop no_node) (printed n 30)) list_b ≡ fails code.Unknown 30 n []
index_after_its_loop = refl

one_name_for_both : checked (node (For a (Some a) (var b 15) no_node (at 0)) no_node) list_b ≡ fails code.Twice 0 a []
one_name_for_both = refl

let_in_its_own_expression : checked (node (Let a (var a 9) (at 0)) no_node) list_b ≡ fails code.Unknown 9 a []
let_in_its_own_expression = refl

let_after_it : checked (node (Let a (int 1 9) (at 0)) (printed a 20)) list_b ≡ Ok ((a, IntType) ∷ list_b)
let_after_it = refl
