-- The template of a full name stands at the first number of the name.
use Rattle.std.proofs.Common.{◌≡◌, ℕ, suc, Bool, true, false, List, [], ◌∷◌, refl, ap, sym, ◌∙◌}
use Rattle.std.proofs.Common.{Bor, Option, Some, None, option_map, slice_get}
use Rattle.std.specs.Prelude.{if◌then◌else◌, bytes_eq}
use Rattle.soy_rules.specs.Templates as plain
use Rattle.soy_rules.specs.Templates.{template_of}
use Rattle.soy_tree.specs.Types.{Name}
use Rattle.soy_rules.specs.declared.template.Declared.{Declared}
use Rattle.soy_rules.specs.FirstNames.{first_from, first_number}
use Rattle.soy_rules.specs.FullNames.{full_names}
use Rattle.soy_rules.specs.ViewTemplates.{view_all, view_declared}
use Rattle.soy_rules.proofs.Firsts.{first_later}

-- the template of what was found
abbrev pub found_template : List Declared → Option ℕ → Option plain.Declared
found_template ds None = None
found_template ds (Some n) = option_map view_declared (slice_get ds n)

template_later : (d : Declared) (ds : List Declared) (found : Option ℕ)
    → found_template (d ∷ ds) (option_map suc found) ≡ found_template ds found
template_later d ds None = refl
template_later d ds (Some n) = refl

template_if : (d : Declared) (ds : List Declared) (same : Bool) (rest : Option plain.Declared) (later : Option ℕ)
    → rest ≡ found_template (d ∷ ds) later
    → (if same then Some (view_declared d) else rest) ≡ found_template (d ∷ ds) (if same then Some 0 else later)
template_if d ds true rest later e = refl
template_if d ds false rest later e = e

pub template_found : (name : Name) (ds : List Declared)
    → template_of name (view_all ds) ≡ found_template ds (first_number name (full_names ds))
template_found name [] = refl
template_found name (d ∷ ds) =
    ap (λ (n : Name). if bytes_eq n name then Some (view_declared d) else template_of name (view_all ds)) (sym d.named)
    ∙ template_if d ds (bytes_eq d.full name) (template_of name (view_all ds)) (first_from name 1 (full_names ds))
    (template_found name ds ∙ sym (template_later d ds (first_number name (full_names ds)))
    ∙ ap (found_template (d ∷ ds)) (sym (first_later name 0 (full_names ds))))

pub view_through : (found : Option (Bor Declared))
    → option_map (λ d. view_declared d.now) found ≡ option_map view_declared (option_map (λ d. d.now) found)
view_through None = refl
view_through (Some d) = refl
