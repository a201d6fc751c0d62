-- The template of a full name, by the place of the name among all.
use Rattle.std.proofs.Common.{◌≡◌, ℕ, suc, ◌+◌, ◌≤◌, Bool, true, false, not, cond, List, [], ◌∷◌, refl, ap, sym, ◌∙◌}
use Rattle.std.proofs.Common.{Bor, Option, Some, None, option_map, length, reverse, slice_get, arith}
use Rattle.std.specs.Prelude.{if◌then◌else◌, nat_lt}
use Rattle.std.specs.List.{position, prefix_len}
use Rattle.std.specs.Str.{bytes_eq}
use Rattle.std.proofs.lemmas.Bool.Decides.{nat_tests, same_from_decides}
use Rattle.std.proofs.lemmas.List.{length-map, reverse-reverse}
use Rattle.std.proofs.lemmas.Option.{slice_get_past}
use Rattle.std.proofs.lemmas.Slice.Eq.{bytes_eq-Decides}
use Rattle.soy_tree.specs.Types.{Name}
use Rattle.soy_rules.specs.Templates.{Declared, full_name, template_of}
use Rattle.soy_check.specs.declared.template.Indexed.{Indexed}
use Rattle.soy_check.specs.FullNames.{full, full_names}
use Rattle.soy_check.specs.ViewAround.{view_all, view_indexed}

pub bytes_eq-turned : (a b : List ℕ) → bytes_eq a b ≡ bytes_eq b a
bytes_eq-turned a b =
    same_from_decides (bytes_eq a b) (bytes_eq b a) (bytes_eq-Decides a b)
    ((λ e. sym ((bytes_eq-Decides b a).0 e)), (λ e. (bytes_eq-Decides b a).1 (sym e)))

abbrev names_before : Name → List Indexed → ℕ
names_before name all = prefix_len (λ other. not (bytes_eq name other)) (full_names all)

at_head : (b : Bool) (d : Indexed) (all : List Indexed) (n : ℕ) (rest : Option Declared)
    → rest ≡ option_map view_indexed (slice_get all n)
    → (if b then Some (view_indexed d) else rest) ≡ option_map view_indexed (slice_get (d ∷ all) (cond (not b) (1 +
    n) 0))
at_head true d all n rest h = refl
at_head false d all n rest h = let e : 1 + n ≡ suc n = omega arith in rw e h

template_at : (name : Name) (all : List Indexed)
    → template_of name (view_all all) ≡ option_map view_indexed (slice_get all (names_before name all))
template_at name [] = refl
template_at name (d ∷ all) =
    let e : bytes_eq (full_name (view_indexed d)) name ≡ bytes_eq name d.declared.full =
    ap (λ (n : Name). bytes_eq n name) (sym d.declared.named) ∙ bytes_eq-turned d.declared.full name in
    ap (λ b. if b then Some (view_indexed d) else template_of name (view_all all)) e
    ∙ at_head (bytes_eq name d.declared.full) d all (names_before name all) (template_of name (view_all all))
    (template_at name all)

pub some_is : (b : Bool) (n at : ℕ) → cond b (Some n) None ≡ Some at → n ≡ at
some_is true n at h = cc
some_is false n at h = cc

pub none_is : (b : Bool) (n : ℕ) → cond b (Some n) None ≡ None → b ≡ false
none_is true n h = cc
none_is false n h = refl

pub past : (n len : ℕ) → nat_lt n len ≡ false → len ≤ n
past n len h = grind (arith, nat_tests)

pub template_found : (name : Name) (all : List Indexed) (at : ℕ)
    → position (bytes_eq name) (full_names all) ≡ Some at
    → template_of name (view_all all) ≡ option_map view_indexed (slice_get all at)
template_found name all at h =
    template_at name all
    ∙ ap (λ n. option_map view_indexed (slice_get all n))
    (some_is (nat_lt (names_before name all) (length (full_names all))) (names_before name all) at h)

pub template_missing : (name : Name) (all : List Indexed) → position (bytes_eq name) (full_names all) ≡ None
    → template_of name (view_all all) ≡ None
template_missing name all h =
    let over : length all ≤ names_before name all =
    rw (← length-map all full)
    (past (names_before name all) (length (full_names all))
    (none_is (nat_lt (names_before name all) (length (full_names all))) (names_before name all) h)) in
    template_at name all ∙ ap (option_map view_indexed) (slice_get_past all (names_before name all) over)

-- a name stands among the full names where it stands among them in turn
pub indexed_position : (name : Name) (names : List Name) (all : List Indexed) (at : Option ℕ)
    → names ≡ reverse (full_names all) → at ≡ position (bytes_eq name) (reverse names)
    → position (bytes_eq name) (full_names all) ≡ at
indexed_position name names all at indexed is =
    ap (position (bytes_eq name)) (sym (reverse-reverse (full_names all)) ∙ ap reverse (sym indexed)) ∙ sym is

pub view_through : (found : Option (Bor Indexed))
    → option_map (λ d. view_indexed d.now) found ≡ option_map view_indexed (option_map (λ d. d.now) found)
view_through None = refl
view_through (Some d) = refl
