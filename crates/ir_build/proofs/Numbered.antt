-- The number of a template is the first number of its full name, where a namespace sees it.
use Rattle.std.proofs.Common.{◌≡◌, ℕ, suc, ◌+◌, Bool, true, false, List, [], ◌∷◌, length, refl, ap, sym, ◌∙◌}
use Rattle.std.proofs.Common.{Option, Some, None, option_map, slice_get, arith}
use Rattle.std.specs.Prelude.{if◌then◌else◌, bytes_eq}
use Rattle.std.proofs.lemmas.List.{length-map}
use Rattle.soy_rules.specs.Templates.{is_visible_from}
use Rattle.soy_tree.specs.Types.{Name}
use Rattle.template_ir.specs.Compiles.{number_of}
use Rattle.soy_rules.specs.declared.template.Declared.{Declared}
use Rattle.soy_rules.specs.FirstNames.{first_from, first_number}
use Rattle.soy_rules.specs.FullNames.{full_names}
use Rattle.ir_build.specs.Numbers.{number_if_visible, visible_number}
use Rattle.soy_rules.specs.ViewTemplates.{view_all, view_declared}
use Rattle.soy_rules.proofs.Firsts.{first_later}

-- the number of what was found
abbrev pub found_number : Name → List Declared → Option ℕ → ℕ
found_number namespace ds None = length ds
found_number namespace ds (Some n) = number_if_visible namespace ds n

one_more_if : (b : Bool) (n m : ℕ) → (if b then suc n else suc m) ≡ suc (if b then n else m)
one_more_if true n m = refl
one_more_if false n m = refl

visible_later : (namespace : Name) (d : Declared) (ds : List Declared) (n : ℕ) (there : Option Declared)
    → visible_number namespace (d ∷ ds) (suc n) there ≡ suc (visible_number namespace ds n there)
visible_later namespace d ds n None = refl
visible_later namespace d ds n (Some e) = one_more_if (is_visible_from namespace (view_declared e)) n (length ds)

found_later : (namespace : Name) (d : Declared) (ds : List Declared) (found : Option ℕ)
    → found_number namespace (d ∷ ds) (option_map suc found) ≡ suc (found_number namespace ds found)
found_later namespace d ds None = refl
found_later namespace d ds (Some n) = visible_later namespace d ds n (slice_get ds n)

first_if : (b : Bool) (n m : ℕ) → n ≡ m → (if b then 0 else 1 + n) ≡ (if b then 0 else suc m)
first_if true n m e = refl
first_if false n m e = omega (arith, e)

number_if : (namespace : Name) (d : Declared) (ds : List Declared) (same : Bool) (rest : ℕ) (later : Option ℕ)
    → suc rest ≡ found_number namespace (d ∷ ds) later
    → (if same then (if is_visible_from namespace (view_declared d) then 0 else 1 + length (view_all ds)) else 1 + rest)
    ≡ found_number namespace (d ∷ ds) (if same then Some 0 else later)
number_if namespace d ds true rest later e =
    first_if (is_visible_from namespace (view_declared d)) (length (view_all ds)) (length ds)
    (length-map ds view_declared)
number_if namespace d ds false rest later e = let next : 1 + rest ≡ suc rest = omega arith in next ∙ e

pub number_found : (namespace name : Name) (ds : List Declared)
    → number_of namespace name (view_all ds) ≡ found_number namespace ds (first_number name (full_names ds))
number_found namespace name [] = refl
number_found namespace name (d ∷ ds) =
    ap (λ (n : Name). if bytes_eq n name
    then (if is_visible_from namespace (view_declared d) then 0 else 1 + length (view_all ds))
    else 1 + number_of namespace name (view_all ds)) (sym d.named)
    ∙ number_if namespace d ds (bytes_eq d.full name) (number_of namespace name (view_all ds))
    (first_from name 1 (full_names ds))
    (ap suc (number_found namespace name ds) ∙ sym (found_later namespace d ds (first_number name (full_names ds)))
    ∙ ap (found_number namespace (d ∷ ds)) (sym (first_later name 0 (full_names ds))))
