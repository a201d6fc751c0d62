-- A map of parameters by their names, and what it finds after one more.
use Rattle.std.proofs.Common.{◌≡◌, ℕ, Bool, true, false, cond, List, [], ◌∷◌, Option, Some, None, option_map, refl, sym}
use Rattle.std.proofs.Common.{ap, ◌∙◌, Bor, bytes_eq}
use Rattle.std.proofs.lemmas.Map.Text.{hash_map_updates_str}
use Rattle.std.specs.HashMap.{HashMap, UpdatesBy, get_by}
use Rattle.std.specs.Str.{IsUtf8, chars}
use Rattle.soy_base.proofs.Texts.{bytes_eq-chars}
use Rattle.soy_rules.specs.Bodies.{param_of}
use Rattle.soy_tree.specs.ViewTrees.{view_param, view_params}
use Rattle.soy_tree.specs.declared.tree.Param as code
use Rattle.soy_check.specs.Named.{FindsParams, first_named}

-- the parameter that is added before others is found first
pub param_added : {S : Type 0} (old new : HashMap (Bor (List ℕ)) (Bor code.Param) S) (key : Bor (List ℕ))
    (param : Bor code.Param) (params : List code.Param) → IsUtf8 key.now → chars key.now ≡ param.now.name
    → UpdatesBy (λ x y. bytes_eq x.now y.now) (λ k. bytes_eq key.now k.now) old new (Some param)
    → FindsParams old.entries params → FindsParams new.entries (param.now ∷ params)
param_added old new key param params utf8 name updates finds = λ given given_utf8.
    ap (option_map (λ p. p.now)) (hash_map_updates_str key.now old new (Some param) updates given)
    ∙ at given given_utf8 (bytes_eq key.now given) refl
  where
    at : (given : List ℕ) → IsUtf8 given → (b : Bool) → bytes_eq key.now given ≡ b
        → option_map (λ p. p.now) (cond b (Some param) (get_by (λ k. bytes_eq given k.now) old))
        ≡ first_named (chars given) (param.now ∷ params)
    at given given_utf8 b e =
        let same : bytes_eq param.now.name (chars given) ≡ b =
        ap (λ i. bytes_eq i (chars given)) (sym name)
        ∙ (sym (bytes_eq-chars key.now given utf8 given_utf8) ∙ e) in
        rw same (by b)
      where
        by : (b : Bool)
            → option_map (λ p. p.now) (cond b (Some param) (get_by (λ k. bytes_eq given k.now) old))
            ≡ cond b (Some param.now) (first_named (chars given) params)
        by true = refl
        by false = finds given given_utf8

-- the first one of a name stands for the first one of the name
pub first_named_view : (name : List ℕ) (params : List code.Param)
    → option_map view_param (first_named name params) ≡ param_of name (view_params params)
first_named_view name [] = refl
first_named_view name (p ∷ params) = by (bytes_eq p.name name) (first_named_view name params)
  where
    by : (b : Bool) → option_map view_param (first_named name params) ≡ param_of name (view_params params)
        → option_map view_param (cond b (Some p) (first_named name params))
        ≡ cond b (Some (view_param p)) (param_of name (view_params params))
    by true rest = refl
    by false rest = rest

-- through borrows
pub view_through_borrows : (found : Option (Bor code.Param))
    → option_map (λ p. view_param p.now) found ≡ option_map view_param (option_map (λ p. p.now) found)
view_through_borrows None = refl
view_through_borrows (Some p) = refl
