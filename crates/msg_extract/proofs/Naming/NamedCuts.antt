-- The nodes of a placeholder that are found by its name are those of the cut that its name has among the uses.
use Rattle.std.proofs.Common.{◌≡◌, Bool, true, false, ◌||◌, List, [], ◌∷◌, ◌++◌, Option, Some, None}
use Rattle.std.proofs.Common.{refl, sym, ap, subst, ◌∙◌}
use Rattle.std.specs.Prelude.{if◌then◌else◌, bytes_eq}
use Rattle.std.specs.Option.{option_or}
use Rattle.std.proofs.lemmas.Slice.Eq.{bytes_eq-Decides}
use Rattle.soy_tree.specs.MessageText.{Cut}
use Rattle.soy_tree.specs.Nodes.{Message, Nodes, message, no_node}
use Rattle.soy_rules.specs.Placeholders.{AsPlaceholder, AsPlural, AsSelect, Role, Use, body_uses, name_of}
use Rattle.soy_tree.specs.Types.{Name}
use Rattle.msg_extract.specs.NamedNodes.{named_nodes}
use Rattle.msg_extract.specs.PlaceholderNodes.{cut_nodes, has_row, placeholders_of, role_nodes, rows_after, with_row}
use Rattle.soy_rules.specs.Placeholders.{uses_of}
use Rattle.soy_rules.specs.Placeholders.{cut_of_role, placeholder_cut}

-- the nodes of a cut, if there is one
abbrev pub nodes_there : Option Cut → Nodes
nodes_there None = no_node
nodes_there (Some cut) = cut_nodes cut

-- the nodes of the first row of a name, if there is one
abbrev row_of : Name → List (Name × Nodes) → Option Nodes
row_of name [] = None
row_of name (row ∷ rows) = if bytes_eq row.0 name then Some row.1 else row_of name rows

abbrev nodes_or_none : Option Nodes → Nodes
nodes_or_none None = no_node
nodes_or_none (Some ns) = ns

named_if : (b : Bool) (ns : Nodes) (o : Option Nodes) (other : Nodes) → other ≡ nodes_or_none o
    → (if b then ns else other) ≡ nodes_or_none (if b then Some ns else o)
named_if true ns o other same = refl
named_if false ns o other same = same

named_row : (name : Name) (rows : List (Name × Nodes)) → named_nodes name rows ≡ nodes_or_none (row_of name rows)
named_row name [] = refl
named_row name (row ∷ rows) =
    named_if (bytes_eq row.0 name) row.1 (row_of name rows) (named_nodes name rows) (named_row name rows)

or_none : (o : Option Nodes) → option_or o None ≡ o
or_none None = refl
or_none (Some ns) = refl

or_assoc : (a b c : Option Nodes) → option_or (option_or a b) c ≡ option_or a (option_or b c)
or_assoc None b c = refl
or_assoc (Some ns) b c = refl

or_if : (b : Bool) (ns : Nodes) (o p : Option Nodes) → (if b then Some ns else option_or o p)
    ≡ option_or (if b then Some ns else o) p
or_if true ns o p = refl
or_if false ns o p = refl

if_same : (b : Bool) (ns : Nodes) (o p : Option Nodes) → o ≡ p → (if b then Some ns else o) ≡ (if b then Some ns else p)
if_same true ns o p same = refl
if_same false ns o p same = same

row_append : (name : Name) (rows more : List (Name × Nodes))
    → row_of name (rows ++ more) ≡ option_or (row_of name rows) (row_of name more)
row_append name [] more = refl
row_append name (row ∷ rows) more =
    if_same (bytes_eq row.0 name) row.1 (row_of name (rows ++ more)) (option_or (row_of name rows) (row_of name more))
    (row_append name rows more)
    ∙ or_if (bytes_eq row.0 name) row.1 (row_of name rows) (row_of name more)

found_if : (b c : Bool) (ns : Nodes) (o : Option Nodes) → (b || c) ≡ true → (c ≡ true → (ms : Nodes) × (o ≡ Some ms))
    → (ms : Nodes) × ((if b then Some ns else o) ≡ Some ms)
found_if true c ns o one rest = (ns, refl)
found_if false c ns o one rest = rest one

row_found : (name : Name) (rows : List (Name × Nodes)) → has_row name rows ≡ true
    → (ns : Nodes) × (row_of name rows ≡ Some ns)
row_found name [] has = let no : ⊥ = cc in absurd no
row_found name (row ∷ rows) has =
    found_if (bytes_eq row.0 name) (has_row name rows) row.1 (row_of name rows) has (row_found name rows)

first_stays : (o p q : Option Nodes) → (ns : Nodes) × (o ≡ Some ns) → option_or o p ≡ option_or o q
first_stays None p q (ns, is) = let no : ⊥ = cc in absurd no
first_stays (Some ms) p q (ns, is) = refl

abbrev found_nodes : Option Cut → Option Nodes
found_nodes None = None
found_nodes (Some cut) = Some (cut_nodes cut)

same_cut : (b : Bool) (x : Option Cut) → x ≡ (if b then x else x)
same_cut true x = refl
same_cut false x = refl

-- a placeholder that is met, whether its name has a row or not
placed_if : (has b : Bool) (name n : Name) (rows : List (Name × Nodes)) (cut : Cut) (x : Option Cut)
    → has_row n rows ≡ has → bytes_eq n name ≡ b
    → option_or (row_of name (if has then rows else rows ++ ((n, cut_nodes cut) ∷ []))) (found_nodes x)
    ≡ option_or (row_of name rows) (found_nodes (if b then Some cut else x))
placed_if true true name n rows cut x has is =
    let same : n ≡ name = (bytes_eq-Decides n name).0 is in
    first_stays (row_of name rows) (found_nodes x) (Some (cut_nodes cut))
    (row_found name rows (subst (λ (k : Name). has_row k rows ≡ true) same has))
placed_if true false name n rows cut x has is = refl
placed_if false true name n rows cut x has is =
    let one : row_of name ((n, cut_nodes cut) ∷ []) ≡ Some (cut_nodes cut) = rw is refl in
    ap (λ o. option_or o (found_nodes x)) (row_append name rows ((n, cut_nodes cut) ∷ []))
    ∙ ap (λ o. option_or (option_or (row_of name rows) o) (found_nodes x)) one
    ∙ or_assoc (row_of name rows) (Some (cut_nodes cut)) (found_nodes x)
placed_if false false name n rows cut x has is =
    let one : row_of name ((n, cut_nodes cut) ∷ []) ≡ None = rw is refl in
    ap (λ o. option_or o (found_nodes x)) (row_append name rows ((n, cut_nodes cut) ∷ []))
    ∙ ap (λ o. option_or (option_or (row_of name rows) o) (found_nodes x)) one
    ∙ ap (λ o. option_or o (found_nodes x)) (or_none (row_of name rows))

use_row : (name n : Name) (rows : List (Name × Nodes)) (role : Role) (x : Option Cut)
    → option_or (row_of name (with_row rows n (role_nodes role))) (found_nodes x)
    ≡ option_or (row_of name rows) (found_nodes (if bytes_eq n name then option_or (cut_of_role role) x else x))
use_row name n rows (AsPlaceholder cut) x = placed_if (has_row n rows) (bytes_eq n name) name n rows cut x refl refl
use_row name n rows (AsPlural e) x =
    ap (λ y. option_or (row_of name rows) (found_nodes y)) (same_cut (bytes_eq n name) x)
use_row name n rows (AsSelect e) x =
    ap (λ y. option_or (row_of name rows) (found_nodes y)) (same_cut (bytes_eq n name) x)

rows_found : (name : Name) (all : List Use) (rows : List (Name × Nodes)) (uses : List Use)
    → row_of name (rows_after all rows uses)
    ≡ option_or (row_of name rows) (found_nodes (placeholder_cut name all uses))
rows_found name all rows [] = sym (or_none (row_of name rows))
rows_found name all rows (u ∷ uses) =
    rows_found name all (with_row rows (name_of all u.base u.content) (role_nodes u.role)) uses
    ∙ use_row name (name_of all u.base u.content) rows u.role (placeholder_cut name all uses)

same_nodes : (cut : Option Cut) → nodes_or_none (found_nodes cut) ≡ nodes_there cut
same_nodes None = refl
same_nodes (Some cut) = refl

-- the nodes of a name are those of the cut that the walk follows for it
pub named_cut : (m : Message) (name : Name)
    → named_nodes name (placeholders_of m) ≡ nodes_there (placeholder_cut name (uses_of m) (uses_of m))
named_cut (message desc meaning body span) name =
    named_row name (placeholders_of (message desc meaning body span))
    ∙ (ap nodes_or_none (rows_found name (body_uses body) [] (body_uses body))
    ∙ same_nodes (placeholder_cut name (body_uses body) (body_uses body)))
