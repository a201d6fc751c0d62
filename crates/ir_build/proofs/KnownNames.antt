-- Names that are known are those that a walk finds.
use Rattle.std.proofs.Common.{◌≡◌, ℕ, ◌+◌, ◌&&◌, ◌||◌, Bool, true, false, List, [], ◌∷◌, Some, None, map, refl, sym, ap}
use Rattle.std.proofs.Common.{◌∙◌, Option}
use Rattle.std.specs.Prelude.{bytes_eq, if◌then◌else◌, is_some, not}
use Rattle.std.specs.List.{list_any}
use Rattle.soy_base.specs.Among.{is_among}
use Rattle.soy_rules.specs.Bodies.{param_of}
use Rattle.soy_rules.specs.FirstNames.{first_from, first_number}
use Rattle.soy_tree.proofs.SameNames.{same_name}
use Rattle.soy_tree.specs.Trees as trees
use Rattle.soy_tree.specs.Types.{Name}
use Rattle.soy_tree.specs.ViewTrees.{view_params}
use Rattle.soy_tree.specs.declared.tree.Param.{Param}
use Rattle.template_ir.specs.Compiles.{handed_on_names}
use Rattle.ir_build.specs.KnownNames.{is_known, known_params, param_names}

either_way : (s t : Bool) → (s ≡ true → t ≡ true) → (t ≡ true → s ≡ true) → s ≡ t
either_way true true f g = refl
either_way false false f g = refl
either_way true false f g = sym (f refl)
either_way false true f g = g refl

turned : (a b : Name) → bytes_eq a b ≡ true → bytes_eq b a ≡ true
turned a b e =
    let same : a ≡ b = same_name a b e in ap (λ x. bytes_eq b x) same ∙ (ap (λ x. bytes_eq x b) (sym same) ∙ e)

same_either_way : (a b : Name) → bytes_eq a b ≡ bytes_eq b a
same_either_way a b = either_way (bytes_eq a b) (bytes_eq b a) (turned a b) (turned b a)

-- ---- the first number

some_if : (same : Bool) (at : ℕ) (rest : Option ℕ) (later : Bool) → later ≡ is_some rest
    → (same || later) ≡ is_some (if same then Some at else rest)
some_if true at rest later e = refl
some_if false at rest later e = e

known_from : (name : Name) (at : ℕ) (names : List Name) → is_known name names ≡ is_some (first_from name at names)
known_from name at [] = refl
known_from name at (n ∷ ns) =
    some_if (bytes_eq n name) at (first_from name (at + 1) ns) (is_known name ns) (known_from name (at + 1) ns)

pub known_first : (name : Name) (names : List Name) → is_some (first_number name names) ≡ is_known name names
known_first name names = sym (known_from name 0 names)

-- ---- parameters

some_param : (same : Bool) (p : trees.Param) (rest : Option trees.Param) (later : Bool) → later ≡ is_some rest
    → (same || later) ≡ is_some (if same then Some p else rest)
some_param true p rest later e = refl
some_param false p rest later e = e

known_param : (name : Name) (params : List Param)
    → is_known name (param_names params) ≡ is_some (param_of name (view_params params))
known_param name [] = refl
known_param name (p ∷ ps) =
    some_param (bytes_eq p.name name) _ (param_of name (view_params ps)) (is_known name (param_names ps))
    (known_param name ps)

known_among : (name : Name) (names : List Name) → is_known name names ≡ is_among names name
known_among name [] = refl
known_among name (n ∷ ns) =
    ap (λ b. b || is_known name ns) (same_either_way n name) ∙ ap (λ b. bytes_eq name n || b) (known_among name ns)

-- ---- what is handed on

pub handed_none : (own : List trees.Param) (given : List Name) (params : List trees.Param)
    → handed_on_names false own given params ≡ []
handed_none own given [] = refl
handed_none own given (p ∷ ps) = handed_none own given ps

pub handed_known : (own : List Param) (given : List Name) (params : List trees.Param)
    → handed_on_names true (view_params own) given params ≡ known_params (param_names own) given params
handed_known own given [] = refl
handed_known own given (p ∷ ps) =
    ap (λ b. if b && not (is_among given p.name) then p.name ∷ handed_on_names true (view_params own) given ps
    else handed_on_names true (view_params own) given ps) (sym (known_param p.name own))
    ∙ (ap (λ b. if is_known p.name (param_names own) && not b
    then p.name ∷ handed_on_names true (view_params own) given ps
    else handed_on_names true (view_params own) given ps) (sym (known_among p.name given))
    ∙ ap (λ rest. if is_known p.name (param_names own) && not (is_known p.name given) then p.name ∷ rest else rest)
    (handed_known own given ps))
