-- The value of a typed print has one of its hole's classes.
use Rattle.std.proofs.Common.{◌≡◌, Bool, true, false, ◌&&◌, List, [], ◌∷◌, inl, inr, Result, Ok, refl, sym, subst}
use Rattle.std.specs.List.{list_all}
use Rattle.std.proofs.lemmas.Bool.{and_parts}
use Rattle.soy_rules.specs.Bodies.{has_member, is_printed}
use Rattle.soy_tree.specs.Expressions.{Expr}
use Rattle.soy_rules.specs.Faults.{TypeFault}
use Rattle.soy_rules.specs.Fits.{Fits, IsOf}
use Rattle.soy_tree.specs.Formed.{is_formed_expr}
use Rattle.soy_rules.specs.Has.{Has}
use Rattle.soy_rules.specs.Members.{is_simple, is_simple_member, members}
use Rattle.soy_rules.specs.TypeOf.{Scope, type_of}
use Rattle.soy_tree.specs.Types.{SoyType, NullType, BoolType, IntType, StringType, HtmlType, AttributesType, ListType}
use Rattle.soy_tree.specs.Types.{MapType, RecordType, UnionType}
use Rattle.soy_rules.specs.Val.{Binding, Known, val}
use Rattle.soy_tree.specs.Values.{Value, NullValue, BoolValue, IntValue, StringValue}
use Rattle.soy_rules.proofs.MembersHave.{HasAny, has_members}
use Rattle.soy_rules.proofs.ValueTypes.{value_type}
use Rattle.soy_pieces.specs.Giving.{BoundBlock, RunEnv, value_class}
use Rattle.soy_meaning.specs.Paths.PlanOfParts.{classes_of_all, known_classes, member_classes, printed_classes}
use Rattle.soy_meaning.specs.Walks.States.{IsMember}
use Rattle.soy_meaning.proofs.Members.{mem_left, mem_right}

not_simple : {P : Type 0} → ◌≡◌ {A = Bool} false true → P
not_simple e = let no : ⊥ = cc in absurd no

-- a value of null, bool, int or string
member_class : (v : Value) (m : SoyType) → is_simple_member m ≡ true → Has v m
    → IsMember (value_class v) (member_classes m)
member_class NullValue NullType simple h = inl refl
member_class (BoolValue b) BoolType simple h = inl refl
member_class (IntValue n) IntType simple h = inl refl
member_class (StringValue text) StringType simple h = inl refl
member_class _ NullType simple h = absurd h
member_class _ BoolType simple h = absurd h
member_class _ IntType simple h = absurd h
member_class _ StringType simple h = absurd h
member_class _ _ simple h = not_simple simple

any_class : (v : Value) (ts : List SoyType) → list_all is_simple_member ts ≡ true → HasAny v ts
    → IsMember (value_class v) (classes_of_all ts)
any_class v [] simple h = absurd h
any_class v (t ∷ ts) simple (inl h) =
    let parts = and_parts (is_simple_member t) (list_all is_simple_member ts) simple in
    mem_left (value_class v) (member_classes t) (classes_of_all ts) (member_class v t parts.0 h)
any_class v (t ∷ ts) simple (inr h) =
    let parts = and_parts (is_simple_member t) (list_all is_simple_member ts) simple in
    mem_right (value_class v) (member_classes t) (classes_of_all ts) (any_class v ts parts.1 h)

simple_class : (v : Value) (t : SoyType) → (has_member (members t) && is_simple t) ≡ true → Has v t
    → IsMember (value_class v) (classes_of_all (members t))
simple_class v t printed h =
    any_class v (members t) (and_parts (has_member (members t)) (is_simple t) printed).1 (has_members v t h)

pub printed_class : (v : Value) (t : SoyType) → is_printed t ≡ true → Has v t
    → IsMember (value_class v) (classes_of_all (members t))
printed_class v HtmlType printed h = absurd h
printed_class v AttributesType printed h = absurd h
printed_class v NullType printed h = simple_class v NullType printed h
printed_class v BoolType printed h = simple_class v BoolType printed h
printed_class v IntType printed h = simple_class v IntType printed h
printed_class v StringType printed h = simple_class v StringType printed h
printed_class v (ListType t) printed h = simple_class v (ListType t) printed h
printed_class v (MapType t) printed h = simple_class v (MapType t) printed h
printed_class v (RecordType fields) printed h = simple_class v (RecordType fields) printed h
printed_class v (UnionType ts) printed h = simple_class v (UnionType ts) printed h

pub printed_value_class : (e : Expr) (scope : Scope) (env : RunEnv) (t : SoyType) (v : Value)
    → is_formed_expr e ≡ true → Fits scope env → type_of e scope ≡ Ok t → is_printed t ≡ true → val e env ≡ Known v
    → IsMember (value_class v) (printed_classes e scope)
printed_value_class e scope env t v formed fits typed printed is =
    let has : Has v t =
    subst (λ (b : Binding BoundBlock). IsOf b t) is (value_type e scope env t formed fits typed) in
    subst (λ (r : Result SoyType TypeFault). IsMember (value_class v) (known_classes r)) (sym typed)
    (printed_class v t printed has)
