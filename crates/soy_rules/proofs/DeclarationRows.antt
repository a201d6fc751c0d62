-- Rows: what is demanded of declarations.
use Rattle.std.proofs.Common.{◌≡◌, ℕ, List, [], ◌∷◌, true, false}
use Rattle.std.specs.Prelude.{codes, Option, Some, None}
use mathlib.Core.Path.{refl}
use Rattle.soy_base.specs.declared.code.Code.{Code}
use Rattle.soy_base.specs.declared.code.Code.TheVariants as code
use Rattle.soy_base.specs.declared.kind.Kind.TheVariants as kind
use Rattle.soy_tree.specs.Types.{Name, SoyType, NullType, IntType, HtmlType, AttributesType, ListType, MapType}
use Rattle.soy_tree.specs.Types.{UnionType, no_member, member}
use Rattle.soy_rules.specs.Faults.{TypeFault}
use Rattle.soy_tree.specs.Trees.{Param, Template, Tree}
use Rattle.soy_tree.specs.Nodes.{Nodes, Print, no_node, node}
use Rattle.soy_rules.specs.Declarations.{params_fault}
use Rattle.soy_rules.specs.Demands.{CheckFault, check_fault}
use Rattle.soy_rules.proofs.Rows.{at, a, b, n, var, union, one_field, two_fields}

abbrev param : Name → SoyType → ℕ → Param
param name t offset = record { name = name; of = t; required = true; span = at offset }

abbrev fault : Code → ℕ → List ℕ → TypeFault
fault code at left = record { code = code; at = at; left = left; right = [] }

-- the first fault of one parameter, which stands at 5
abbrev declared_fault : SoyType → Option TypeFault
declared_fault t = params_fault (param a t 5 ∷ []) []

html_alone : declared_fault HtmlType ≡ None
html_alone = refl

html_beside_null : declared_fault (UnionType (member HtmlType (member NullType (member NullType no_member)))) ≡ None
html_beside_null = refl

html_beside_int : declared_fault (union HtmlType IntType) ≡ Some (fault code.Mistyped 5 (codes "html|int"))
html_beside_int = refl

html_twice : declared_fault (union HtmlType HtmlType) ≡ Some (fault code.Mistyped 5 (codes "html|html"))
html_twice = refl

html_in_a_list : declared_fault (ListType HtmlType) ≡ Some (fault code.Mistyped 5 (codes "html"))
html_in_a_list = refl

attributes_in_a_record_in_a_map :
    declared_fault (MapType (one_field b (union NullType AttributesType)))
    ≡ Some (fault code.Mistyped 5 (codes "attributes"))
attributes_in_a_record_in_a_map = refl

field_given_twice : declared_fault (ListType (two_fields b IntType b IntType)) ≡ Some (fault code.Twice 5 b)
field_given_twice = refl

-- a union's own fault comes after those of its members
members_before_the_union :
    declared_fault (union HtmlType (two_fields b IntType b IntType)) ≡ Some (fault code.Twice 5 b)
members_before_the_union = refl

-- of one parameter its name goes before its type
name_before_type :
    params_fault (param a IntType 5 ∷ param a (ListType HtmlType) 9 ∷ []) [] ≡ Some (fault code.Twice 9 a)
name_before_type = refl

-- the template `t` at 20 of the namespace `a`, and a body with an unknown variable at 31
abbrev template : List Param → Nodes → Template
template params body =
    record { name = b; kind = kind.Text; private = false; params = params; body = body; span = at 20 }

abbrev file : List Template → Tree
file templates = record { namespace = a; templates = templates }

abbrev unknown : Nodes
unknown = node (Print (var n 31) None (at 30)) no_node

abbrev found_in : ℕ → TypeFault → Option CheckFault
found_in number fault = Some (record { file = number; fault = fault })

template_given_twice :
    check_fault (file (template [] no_node ∷ []) ∷ file (template [] no_node ∷ []) ∷ [])
    ≡ found_in 1 (fault code.Twice 20 (codes "a.b"))
template_given_twice = refl

declarations_before_bodies :
    check_fault
    (file (template [] unknown ∷ []) ∷ file (template (param n (ListType HtmlType) 5 ∷ []) no_node ∷ []) ∷ [])
    ≡ found_in 1 (fault code.Twice 20 (codes "a.b"))
declarations_before_bodies = refl

type_in_another_file :
    check_fault
    (file (template [] unknown ∷ [])
    ∷ record { namespace = b; templates = template (param n (ListType HtmlType) 5 ∷ []) no_node ∷ [] } ∷ [])
    ≡ found_in 1 (fault code.Mistyped 5 (codes "html"))
type_in_another_file = refl

body_alone : check_fault (file (template [] unknown ∷ []) ∷ []) ≡ found_in 0 (fault code.Unknown 31 n)
body_alone = refl

nothing_to_say : check_fault (file (template (param n IntType 5 ∷ []) unknown ∷ []) ∷ []) ≡ None
nothing_to_say = refl
