-- The template that a call means is the one of its number.
use Rattle.std.proofs.Common.{◌≡◌, ℕ, zero, suc, ◌+◌, ◌≤◌, Bool, true, false, List, [], ◌∷◌, Option, Some, None, length}
use Rattle.std.proofs.Common.{map, ◌++◌, option_map, slice_get, refl, sym, ap, ◌∙◌, arith}
use Rattle.std.specs.Prelude.{if◌then◌else◌, bytes_eq}
use Rattle.std.proofs.lemmas.Option.{slice_get_past}
use Rattle.soy_base.specs.declared.fault.Span.{Span}
use Rattle.soy_base.specs.declared.place.Place.{Place}
use Rattle.soy_tree.specs.declared.tree.Param as code_param
use Rattle.soy_rules.specs.Bodies.{names_given}
use Rattle.soy_tree.specs.Nodes.{Arguments}
use Rattle.soy_tree.specs.Trees.{Param}
use Rattle.soy_tree.specs.ViewTrees.{view_params}
use Rattle.soy_rules.specs.Templates.{Declared, callee, called_name, full_name, is_visible_from, template_of, visible}
use Rattle.soy_tree.specs.Types.{Name}
use Rattle.template_ir.specs.Compiles.{callee_number, handed_on_names, number_of, params_there, same_handed}
use Rattle.template_ir.specs.Ops.{CallOp, Handed}
use Rattle.soy_rules.specs.ViewTemplates.{view_all, view_declared}
use Rattle.ir_build.specs.ViewScene.{call_op}
use Rattle.ir_build.specs.declared.scene.Scene.{Scene}
use Rattle.soy_rules.specs.declared.template.Declared as code

found_at : (b v : Bool) (d : Declared) (ds : List Declared) (n : ℕ) (namespace : Name) (rest : Option Declared)
    → v ≡ is_visible_from namespace d → slice_get ds n ≡ visible namespace rest
    → slice_get (d ∷ ds) (if b then (if v then 0 else 1 + length ds) else 1 + n)
    ≡ visible namespace (if b then Some d else rest)
found_at true true d ds n namespace rest e h = rw (← e) refl
found_at true false d ds n namespace rest e h =
    let long : length (d ∷ ds) ≤ 1 + length ds = omega arith in
    slice_get_past (d ∷ ds) (1 + length ds) long ∙ rw (← e) refl
found_at false v d ds n namespace rest e h = let next : 1 + n ≡ suc n = omega arith in rw next h

number_at : (namespace name : Name) (ds : List Declared)
    → slice_get ds (number_of namespace name ds) ≡ visible namespace (template_of name ds)
number_at namespace name [] = refl
number_at namespace name (d ∷ ds) =
    found_at (bytes_eq (full_name d) name) (is_visible_from namespace d) d ds (number_of namespace name ds) namespace
    (template_of name ds) refl (number_at namespace name ds)

pub callee_at : (ds : List Declared) (namespace name : Name)
    → slice_get ds (callee_number ds namespace name) ≡ callee ds namespace name
callee_at ds namespace name = number_at namespace (called_name namespace name) ds

pub get_map : {A B : Type 0} (f : A → B) (xs : List A) (i : ℕ) → slice_get (map f xs) i ≡ option_map f (slice_get xs i)
get_map f [] i = refl
get_map f (x ∷ xs) zero = refl
get_map f (x ∷ xs) (suc i) = get_map f xs i

-- ---- the parameters of the template of a number

pub params_found : (all : List code.Declared) (n : ℕ) (d : code.Declared) (ps : List code_param.Param)
    → Some d ≡ slice_get all n → ps ≡ d.template.now.params
    → view_params ps ≡ params_there (slice_get (view_all all) n)
params_found all n d ps e is =
    ap view_params is
    ∙ (ap (λ (o : Option code.Declared). params_there (option_map view_declared o)) e
    ∙ ap params_there (sym (get_map view_declared all n)))

pub params_missing : (all : List code.Declared) (n : ℕ) → None ≡ slice_get all n
    → view_params [] ≡ params_there (slice_get (view_all all) n)
params_missing all n e =
    ap (λ (o : Option code.Declared). params_there (option_map view_declared o)) e
    ∙ ap params_there (sym (get_map view_declared all n))

-- ---- the op of a call

pub call_is : (s : Scene) (name : Name) (all_on : Bool) (given : Arguments) (handed handed_all : List Handed)
    (ps : List Param) (point : Place) (span : Span) (number : ℕ)
    → number ≡ callee_number (view_all s.declared.now) s.namespace.now name
    → ps ≡ params_there (slice_get (view_all s.declared.now) number)
    → handed_all ≡ handed ++ map same_handed (handed_on_names all_on (view_params s.params.now) (names_given given) ps)
    → CallOp (record {
      template = number;
      given = handed_all;
      place = point;
      site = record { file = s.file; at = span.start };
    }) ≡ call_op s name all_on given handed point span
call_is s name all_on given handed handed_all ps point span number n p h =
    let there : ps ≡ params_there (callee (view_all s.declared.now) s.namespace.now name) =
    p ∙ (ap (λ (k : ℕ). params_there (slice_get (view_all s.declared.now) k)) n
    ∙ ap params_there (callee_at (view_all s.declared.now) s.namespace.now name)) in
    rw (n, h, there) refl
