-- Rows: what calls demand, and in which order.
use Rattle.std.proofs.Common.{◌≡◌, ℕ, List, [], ◌∷◌, Bool, true, false}
use Rattle.std.specs.Prelude.{codes, None, Ok}
use mathlib.Core.Path.{refl}
use Rattle.soy_base.specs.declared.code.Code.TheVariants as code
use Rattle.soy_base.specs.declared.kind.Kind.TheVariants as kind
use Rattle.soy_tree.specs.Types.{Name, SoyType, BoolType, IntType, StringType}
use Rattle.soy_tree.specs.Expressions.{BoolLiteral}
use Rattle.soy_rules.specs.Faults.{fails}
use Rattle.soy_tree.specs.Trees.{Param, Template}
use Rattle.soy_tree.specs.Nodes.{Arguments, Call, Plain, Block, Print, no_argument, argument, no_node, node}
use Rattle.soy_rules.specs.TypeOf.{Scope}
use Rattle.soy_rules.specs.Templates.{Declared}
use Rattle.soy_rules.specs.Bodies.{Checked, after_node}
use Rattle.soy_rules.proofs.Rows.{at, a, b, n, var, int, text}

abbrev param : Name → SoyType → Bool → Param
param name t required = record { name = name; of = t; required = required; span = at 0 }

-- the template `a.n` with the parameters `a: int` and `b: string`, both required
abbrev template : Bool → Template
template private =
    record {
      name = n;
      kind = kind.Text;
      private = private;
      params = param a IntType true ∷ param b StringType true ∷ [];
      body = no_node;
      span = at 0;
    }

abbrev declared : Bool → List Declared
declared private = record { file = 0; namespace = a; template = template private } ∷ []

-- a call at 3 in a template with the parameters `a: bool` and `b: string`
abbrev params : List Param
params = param a BoolType true ∷ param b StringType true ∷ []

abbrev scope : Scope
scope = (a, BoolType) ∷ ((b, StringType) ∷ [])

abbrev called_from : Name → Bool → List ℕ → Bool → Arguments → Checked
called_from namespace private name all given =
    after_node (record { declared = declared private; namespace = namespace; params = params })
    (Call name all given (at 3)) scope

abbrev called : Bool → Arguments → Checked
called = called_from a false n

-- params, each at 5 with its expression at 7
abbrev given_a : SoyType → Arguments → Arguments
given_a IntType rest = argument a (Plain (int 1 7)) (at 5) rest
given_a _ rest = argument a (Plain (BoolLiteral true (at 7))) (at 5) rest

abbrev given_b : Arguments → Arguments
given_b rest = argument b (Plain (text b 7)) (at 5) rest

whole_call : called false (given_a IntType (given_b no_argument)) ≡ Ok scope
whole_call = refl

-- names
full_name_from_elsewhere : called_from b false (codes "a.n") true (given_a IntType no_argument) ≡ Ok scope
full_name_from_elsewhere = refl

name_without_a_dot : called_from b false n false no_argument ≡ fails code.Unknown 3 (codes "b.n") []
name_without_a_dot = refl

private_from_elsewhere : called_from b true (codes "a.n") false no_argument ≡ fails code.Unknown 3 (codes "a.n") []
private_from_elsewhere = refl

private_from_its_namespace : called_from a true n false (given_a IntType (given_b no_argument)) ≡ Ok scope
private_from_its_namespace = refl

-- the callee's parameters in the order in which it declares them, before what the params demand
both_left_out : called false no_argument ≡ fails code.Argument 3 a []
both_left_out = refl

second_left_out : called false (given_a BoolType no_argument) ≡ fails code.Argument 3 b []
second_left_out = refl

handed_on_of_another_type : called true (argument n (Plain (var n 7)) (at 5) no_argument)
    ≡ fails code.Mistyped 3 (codes "int") (codes "bool")
handed_on_of_another_type = refl

given_and_handed_on : called true (given_a IntType no_argument) ≡ Ok scope
given_and_handed_on = refl

-- the params in their order
of_another_type :
    called false (given_a BoolType (given_b no_argument)) ≡ fails code.Mistyped 7 (codes "int") (codes "bool")
of_another_type = refl

unknown_param :
    called false (given_a IntType (given_b (argument n (Plain (var n 7)) (at 5) no_argument)))
    ≡ fails code.Argument 5 n []
unknown_param = refl

given_twice : called false (given_b (given_a IntType (given_b no_argument))) ≡ fails code.Twice 5 b []
given_twice = refl

-- a block that is given is asked for its kind first, and then for what is in it
block_of_another_kind :
    called true (argument a (Block kind.Html (node (Print (var n 9) None (at 8)) no_node)) (at 5) no_argument)
    ≡ fails code.Mistyped 5 (codes "int") (codes "html")
block_of_another_kind = refl

fault_in_a_block :
    called false
    (given_a IntType (argument b (Block kind.Text (node (Print (var n 9) None (at 8)) no_node)) (at 5) no_argument))
    ≡ fails code.Unknown 9 n []
fault_in_a_block = refl
