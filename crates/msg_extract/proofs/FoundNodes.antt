-- What a placeholder's name stands for is found at the first number of the name.
use Rattle.std.proofs.Common.{◌≡◌, ℕ, suc, Bool, true, false, List, [], ◌∷◌, map, refl, ap, sym, ◌∙◌}
use Rattle.std.proofs.Common.{Option, Some, None, option_map, slice_get}
use Rattle.std.specs.Prelude.{if◌then◌else◌, bytes_eq}
use Rattle.soy_tree.specs.Nodes.{Nodes, no_node}
use Rattle.soy_tree.specs.ViewNodes.{view_nodes}
use Rattle.soy_rules.specs.FirstNames.{first_from, first_number}
use Rattle.soy_rules.proofs.Firsts.{first_later}
use Rattle.msg_extract.specs.NamedNodes.{named_nodes}
use Rattle.msg_extract.specs.Views.ViewPlaceholders.{names_of, nodes_there, view_placeholder}
use Rattle.msg_extract.specs.declared.placeholder.Placeholder.{Placeholder}

-- the nodes of what was found
abbrev pub found_nodes : List Placeholder → Option ℕ → Nodes
found_nodes ps None = no_node
found_nodes ps (Some n) = nodes_there (slice_get ps n)

nodes_later : (p : Placeholder) (ps : List Placeholder) (found : Option ℕ)
    → found_nodes (p ∷ ps) (option_map suc found) ≡ found_nodes ps found
nodes_later p ps None = refl
nodes_later p ps (Some n) = refl

nodes_if : (p : Placeholder) (ps : List Placeholder) (same : Bool) (rest : Nodes) (later : Option ℕ)
    → rest ≡ found_nodes (p ∷ ps) later
    → (if same then view_nodes p.nodes else rest) ≡ found_nodes (p ∷ ps) (if same then Some 0 else later)
nodes_if p ps true rest later e = refl
nodes_if p ps false rest later e = e

pub nodes_found : (name : List ℕ) (ps : List Placeholder)
    → named_nodes name (map view_placeholder ps) ≡ found_nodes ps (first_number name (names_of ps))
nodes_found name [] = refl
nodes_found name (p ∷ ps) =
    nodes_if p ps (bytes_eq p.name name) (named_nodes name (map view_placeholder ps)) (first_from name 1 (names_of ps))
    (nodes_found name ps ∙ sym (nodes_later p ps (first_number name (names_of ps)))
    ∙ ap (found_nodes (p ∷ ps)) (sym (first_later name 0 (names_of ps))))
