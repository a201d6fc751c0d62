-- Where a condition holds, narrowing is right.
use Rattle.std.proofs.Common.{◌≡◌, Bool, true, false, not, [], ◌∷◌, ◌⊎◌}
use Rattle.std.specs.Prelude.{if◌then◌else◌, bytes_eq}
use mathlib.Core.Path.{refl, ap}
use mathlib.Core.Logic.{inl, inr}
use Rattle.soy_base.specs.declared.fault.Span.{Span}
use Rattle.soy_tree.specs.declared.expr.BinaryOp.TheVariants as op
use Rattle.soy_tree.specs.Types.{Name, SoyType}
use Rattle.soy_tree.specs.Values.{
  Value,
  NullValue,
  BoolValue,
  IntValue,
  StringValue,
  ListValue,
  MapValue,
  RecordValue,
}
use Rattle.soy_tree.specs.Expressions.{
  Expr,
  NullLiteral,
  BoolLiteral,
  IntLiteral,
  StringLiteral,
  Variable,
  Member,
  Index,
  Minus,
  Not,
  Binary,
  Coalesce,
  Conditional,
}
use Rattle.soy_rules.specs.Members.{type_without_null}
use Rattle.soy_rules.specs.Has.{Has}
use Rattle.soy_rules.specs.TypeOf.{Scope}
use Rattle.soy_rules.specs.Val.{
  Binding,
  Known,
  BlockOf,
  Env,
  binding,
  val,
  operand,
  truth,
  is_truthy,
  is_null,
  is_null_value,
  is_same_value,
}
use Rattle.soy_rules.specs.Fits.{IsOf, Fits}
use Rattle.soy_rules.specs.Narrowing.{name_narrowed, variable_narrowed, narrowed}
use Rattle.soy_tree.proofs.SameNames.{both}
use Rattle.soy_rules.proofs.MembersHave.{null_or_narrowed}
use Rattle.soy_rules.proofs.ValueTypes.{narrowed_block}

pub known_narrowed : (v : Value) (t : SoyType)
    → is_null_value v ≡ false → (v ≡ NullValue) ⊎ Has v (type_without_null t) → Has v (type_without_null t)
known_narrowed v t e (inl p) = let d : is_null_value NullValue ≡ false = rw p at e in let no : ⊥ = cc in absurd no
known_narrowed v t e (inr h) = h

-- what isn't null is of the type without null
pub narrowed_is : {A : Type 0} (b : Binding A) (t : SoyType)
    → is_null b ≡ false → IsOf b t → IsOf b (type_without_null t)
narrowed_is (Known v) t e h = known_narrowed v t e (null_or_narrowed v t h)
narrowed_is (BlockOf a) t e h = narrowed_block t h

pub fits_if : {A : Type 0} (c : Bool) (name : Name) (v : Name × SoyType) (b : Name × Binding A) (scope : Scope)
    (env : Env A)
    → is_null (if c then b.1 else binding name env) ≡ false → Fits (v ∷ scope) (b ∷ env)
    → (is_null (binding name env) ≡ false → Fits (name_narrowed name scope) env)
    → Fits (if c then (v.0, type_without_null v.1) ∷ scope else v ∷ name_narrowed name scope) (b ∷ env)
fits_if true name v b scope env e f more = (f.0, narrowed_is b.1 v.1 e f.1, f.2)
fits_if false name v b scope env e f more = (f.0, f.1, more e)

-- the variable of a name that isn't bound to null
pub name_fits : {A : Type 0} (name : Name) (scope : Scope) (env : Env A)
    → is_null (binding name env) ≡ false → Fits scope env → Fits (name_narrowed name scope) env
name_fits name [] [] e f = f
name_fits name [] (b ∷ env) e f = absurd f
name_fits name (v ∷ scope) [] e f = absurd f
name_fits name (v ∷ scope) (b ∷ env) e f =
    let same : bytes_eq v.0 name ≡ bytes_eq b.0 name = ap (λ x. bytes_eq x name) f.0 in
    rw same (fits_if (bytes_eq b.0 name) name v b scope env e f (λ d. name_fits name scope env d f.2))

pub truthy_some : {A : Type 0} (b : Binding A) → is_truthy b ≡ true → is_null b ≡ false
truthy_some (Known NullValue) e = let no : ⊥ = cc in absurd no
truthy_some (Known (BoolValue b)) e = refl
truthy_some (Known (IntValue n)) e = refl
truthy_some (Known (StringValue text)) e = refl
truthy_some (Known (ListValue vs)) e = refl
truthy_some (Known (MapValue es)) e = refl
truthy_some (Known (RecordValue es)) e = refl
truthy_some (BlockOf a) e = refl

pub differs_some : {A : Type 0} (b : Binding A) → not (is_same_value (operand b) NullValue) ≡ true → is_null b ≡ false
differs_some (Known NullValue) e = let no : ⊥ = cc in absurd no
differs_some (Known (BoolValue b)) e = refl
differs_some (Known (IntValue n)) e = refl
differs_some (Known (StringValue text)) e = refl
differs_some (Known (ListValue vs)) e = refl
differs_some (Known (MapValue es)) e = refl
differs_some (Known (RecordValue es)) e = refl
differs_some (BlockOf a) e = refl

-- the condition `a != null`
pub variable_fits : {A : Type 0} (a : Expr) (scope : Scope) (env : Env A)
    → not (is_same_value (operand (val a env)) NullValue) ≡ true → Fits scope env → Fits (variable_narrowed a scope) env
variable_fits (Variable name span) scope env e f = name_fits name scope env (differs_some (binding name env) e) f
variable_fits (NullLiteral span) scope env e f = f
variable_fits (BoolLiteral b span) scope env e f = f
variable_fits (IntLiteral n span) scope env e f = f
variable_fits (StringLiteral text span) scope env e f = f
variable_fits (Member a name takes_null span) scope env e f = f
variable_fits (Index a i takes_null span) scope env e f = f
variable_fits (Minus a span) scope env e f = f
variable_fits (Not a span) scope env e f = f
variable_fits (Binary o a b span) scope env e f = f
variable_fits (Coalesce a b span) scope env e f = f
variable_fits (Conditional c a b span) scope env e f = f

pub difference_fits : {A : Type 0} (a b : Expr) (span : Span) (scope : Scope) (env : Env A)
    → not (is_same_value (operand (val a env)) (operand (val b env))) ≡ true → Fits scope env
    → Fits (narrowed (Binary op.Ne a b span) scope) env
difference_fits a (NullLiteral at) span scope env e f = variable_fits a scope env e f
difference_fits a (BoolLiteral b at) span scope env e f = f
difference_fits a (IntLiteral n at) span scope env e f = f
difference_fits a (StringLiteral text at) span scope env e f = f
difference_fits a (Variable name at) span scope env e f = f
difference_fits a (Member b name takes_null at) span scope env e f = f
difference_fits a (Index b i takes_null at) span scope env e f = f
difference_fits a (Minus b at) span scope env e f = f
difference_fits a (Not b at) span scope env e f = f
difference_fits a (Binary o b c at) span scope env e f = f
difference_fits a (Coalesce b c at) span scope env e f = f
difference_fits a (Conditional b c d at) span scope env e f = f

pub operand_truthy : {A : Type 0} (b : Binding A) → truth (operand b) ≡ true → is_truthy b ≡ true
operand_truthy (Known v) e = e
operand_truthy (BlockOf a) e = refl

pub branch_fits : {A : Type 0} (when : Expr) (scope : Scope) (env : Env A)
    → is_truthy (val when env) ≡ true → Fits scope env → Fits (narrowed when scope) env
branch_fits (Variable name span) scope env e f = name_fits name scope env (truthy_some (binding name env) e) f
branch_fits (Binary op.Ne a b span) scope env e f = difference_fits a b span scope env e f
branch_fits (Binary op.And a b span) scope env e f =
    let parts : (truth (operand (val a env)) ≡ true) × (truth (operand (val b env)) ≡ true) =
    both (truth (operand (val a env))) (truth (operand (val b env))) e in
    let inner : Fits (narrowed a scope) env = branch_fits a scope env (operand_truthy (val a env) parts.0) f in
    branch_fits b (narrowed a scope) env (operand_truthy (val b env) parts.1) inner
branch_fits (Binary op.Mul a b span) scope env e f = f
branch_fits (Binary op.Rem a b span) scope env e f = f
branch_fits (Binary op.Add a b span) scope env e f = f
branch_fits (Binary op.Sub a b span) scope env e f = f
branch_fits (Binary op.Lt a b span) scope env e f = f
branch_fits (Binary op.Gt a b span) scope env e f = f
branch_fits (Binary op.Le a b span) scope env e f = f
branch_fits (Binary op.Ge a b span) scope env e f = f
branch_fits (Binary op.Eq a b span) scope env e f = f
branch_fits (Binary op.Or a b span) scope env e f = f
branch_fits (NullLiteral span) scope env e f = f
branch_fits (BoolLiteral b span) scope env e f = f
branch_fits (IntLiteral n span) scope env e f = f
branch_fits (StringLiteral text span) scope env e f = f
branch_fits (Member a name takes_null span) scope env e f = f
branch_fits (Index a i takes_null span) scope env e f = f
branch_fits (Minus a span) scope env e f = f
branch_fits (Not a span) scope env e f = f
branch_fits (Coalesce a b span) scope env e f = f
branch_fits (Conditional c a b span) scope env e f = f
