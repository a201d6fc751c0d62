-- Variables whose types are changed and put back.
use Rattle.std.proofs.Common.{◌≡◌, Bool, true, false, List, [], ◌∷◌, ◌++◌, refl, ap, sym, ◌∙◌, Option, Some, None}
use Rattle.std.proofs.Common.{Bor, option_map}
use Rattle.std.specs.Prelude.{if◌then◌else◌, bytes_eq}
use Rattle.soy_tree.specs.declared.soy_type.SoyType as code
use Rattle.soy_tree.specs.declared.soy_type.Field as code_field
use Rattle.soy_tree.specs.Types.{Name, SoyType}
use Rattle.soy_rules.specs.Members.{type_without_null}
use Rattle.soy_rules.specs.Narrowing.{name_narrowed}
use Rattle.soy_rules.specs.TypeOf.{Scope, variable_type}
use Rattle.soy_tree.specs.ViewTypes.{view_type}
use Rattle.soy_rules.proofs.Views.{view_field-is}
use Rattle.soy_expr.specs.ViewScope.{view_vars}
use Rattle.soy_expr.specs.declared.narrowing.Outside as code_outside
use Rattle.soy_expr.specs.PutBack.{put_back}
use Rattle.soy_expr.specs.TypeNamed.{type_named, with_type}
use Rattle.soy_expr.specs.Visible.{variable}

-- what is put back last stands at the end
pub put_back_last : (outside : List code_outside.Outside) (o : code_outside.Outside) (vars : List code_field.Field)
    → put_back (outside ++ (o ∷ [])) vars ≡ put_back outside (with_type o.name.now o.of vars)
put_back_last [] o vars = refl
put_back_last (p ∷ outside) o vars = ap (with_type p.name.now p.of) (put_back_last outside o vars)

-- a type that is put back where it was changes nothing else
pub with_type-back : (vars : List code_field.Field) (name : Name) (of old : code.SoyType)
    → type_named name vars ≡ Some old → with_type name old (with_type name of vars) ≡ vars
with_type-back [] name of old h = cc
with_type-back (v ∷ vars) name of old h =
    by (bytes_eq v.name name) refl h (with_type-back vars name of old)
  where
    by : (b : Bool) → bytes_eq v.name name ≡ b → (if b then Some v.of else type_named name vars) ≡ Some old
        → (type_named name vars ≡ Some old → with_type name old (with_type name of vars) ≡ vars)
        → with_type name old (if b then variable v.name of ∷ vars else v ∷ with_type name of vars) ≡ v ∷ vars
    by true e k rest =
        let same : old ≡ v.of = cc in
        ap (λ b. if b then variable v.name old ∷ vars else variable v.name of ∷ with_type name old vars) e
        ∙ ap (λ (o : code.SoyType). variable v.name o ∷ vars) same
    by false e k rest =
        ap (λ b. if b then variable v.name old ∷ with_type name of vars else v ∷ with_type name old (with_type name of
        vars)) e
        ∙ ap (λ (l : List code_field.Field). v ∷ l) (rest k)

-- where no variable has the name, there is nothing to change
pub with_type-missing : (vars : List code_field.Field) (name : Name) (of : code.SoyType) → type_named name vars ≡ None
    → with_type name of vars ≡ vars
with_type-missing [] name of h = refl
with_type-missing (v ∷ vars) name of h = by (bytes_eq v.name name) h (with_type-missing vars name of)
  where
    by : (b : Bool) → (if b then Some v.of else type_named name vars) ≡ None
        → (type_named name vars ≡ None → with_type name of vars ≡ vars)
        → (if b then variable v.name of ∷ vars else v ∷ with_type name of vars) ≡ v ∷ vars
    by true k rest = cc
    by false k rest = ap (λ (l : List code_field.Field). v ∷ l) (rest k)

-- a type that is changed and kept is put back
pub kept_back : (outside : List code_outside.Outside) (o : code_outside.Outside) (of : code.SoyType)
    (vars new : List code_field.Field) → new ≡ with_type o.name.now of vars → type_named o.name.now vars ≡ Some o.of
    → put_back (outside ++ (o ∷ [])) new ≡ put_back outside vars
kept_back outside o of vars new e h =
    ap (put_back (outside ++ (o ∷ []))) e ∙ put_back_last outside o (with_type o.name.now of vars)
    ∙ ap (put_back outside) (with_type-back vars o.name.now of o.of h)

-- the type of the variable of a name is what stands for its type
pub type_named-view : (vars : List code_field.Field) (name : Name)
    → variable_type name (view_vars vars) ≡ option_map view_type (type_named name vars)
type_named-view [] name = refl
type_named-view (v ∷ vars) name =
    ap (λ (x : Name × SoyType). variable_type name (x ∷ view_vars vars)) (view_field-is v)
    ∙ by (bytes_eq v.name name) (type_named-view vars name)
  where
    by : (b : Bool) → variable_type name (view_vars vars) ≡ option_map view_type (type_named name vars)
        → (if b then Some (view_type v.of) else variable_type name (view_vars vars))
        ≡ option_map view_type (if b then Some v.of else type_named name vars)
    by true rest = refl
    by false rest = rest

-- what the type behind a reference stands for
pub view_through : (r : Option (Bor code.SoyType))
    → option_map (λ t. view_type t.now) r ≡ option_map view_type (option_map (λ t. t.now) r)
view_through None = refl
view_through (Some t) = refl

-- the variable that is found has its type without null
pub narrowed_found : (vars : List code_field.Field) (name : Name) (of old : code.SoyType)
    → type_named name vars ≡ Some old → view_type of ≡ type_without_null (view_type old)
    → name_narrowed name (view_vars vars) ≡ view_vars (with_type name of vars)
narrowed_found [] name of old h e = cc
narrowed_found (v ∷ vars) name of old h e =
    ap (λ (x : Name × SoyType). name_narrowed name (x ∷ view_vars vars)) (view_field-is v)
    ∙ by (bytes_eq v.name name) h (λ k. narrowed_found vars name of old k e)
  where
    by : (b : Bool) → (if b then Some v.of else type_named name vars) ≡ Some old
        → (type_named name vars ≡ Some old → name_narrowed name (view_vars vars) ≡ view_vars (with_type name of vars))
        → (if b then (v.name, type_without_null (view_type v.of)) ∷ view_vars vars
        else (v.name, view_type v.of) ∷ name_narrowed name (view_vars vars))
        ≡ view_vars (if b then variable v.name of ∷ vars else v ∷ with_type name of vars)
    by true k rest =
        let same : v.of ≡ old = cc in
        ap (λ (x : Name × SoyType). x ∷ view_vars vars)
        (ap (λ (o : code.SoyType). (v.name, type_without_null (view_type o))) same
        ∙ (ap (λ (t : SoyType). (v.name, t)) (sym e) ∙ sym (view_field-is (variable v.name of))))
    by false k rest =
        ap (λ (s : Scope). (v.name, view_type v.of) ∷ s) (rest k)
        ∙ ap (λ (x : Name × SoyType). x ∷ view_vars (with_type name of vars)) (sym (view_field-is v))

-- and where none is found, nothing changes
pub narrowed_missing : (vars : List code_field.Field) (name : Name) → type_named name vars ≡ None
    → name_narrowed name (view_vars vars) ≡ view_vars vars
narrowed_missing [] name h = refl
narrowed_missing (v ∷ vars) name h =
    ap (λ (x : Name × SoyType). name_narrowed name (x ∷ view_vars vars)) (view_field-is v)
    ∙ by (bytes_eq v.name name) h (narrowed_missing vars name)
  where
    by : (b : Bool) → (if b then Some v.of else type_named name vars) ≡ None
        → (type_named name vars ≡ None → name_narrowed name (view_vars vars) ≡ view_vars vars)
        → (if b then (v.name, type_without_null (view_type v.of)) ∷ view_vars vars
        else (v.name, view_type v.of) ∷ name_narrowed name (view_vars vars)) ≡ view_vars (v ∷ vars)
    by true k rest = cc
    by false k rest =
        ap (λ (s : Scope). (v.name, view_type v.of) ∷ s) (rest k)
        ∙ ap (λ (x : Name × SoyType). x ∷ view_vars vars) (sym (view_field-is v))
