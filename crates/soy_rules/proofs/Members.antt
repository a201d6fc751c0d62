-- Members of unions and lists of types.
use Rattle.std.proofs.Common.{◌≡◌, Bool, true, false, List, [], ◌∷◌, ◌++◌, filter}
use Rattle.std.specs.Prelude.{if◌then◌else◌}
use mathlib.Core.Path.{refl, ap}
use Rattle.soy_tree.specs.Types.{SoyType}
use Rattle.soy_rules.specs.Members.{is_some_type}

pub append_assoc : (xs ys zs : List SoyType) → (xs ++ ys) ++ zs ≡ xs ++ (ys ++ zs)
append_assoc [] ys zs = refl
append_assoc (x ∷ xs) ys zs = ap (λ l. x ∷ l) (append_assoc xs ys zs)

pub kept_if : (b : Bool) (t : SoyType) (xs ys zs : List SoyType) → xs ≡ ys ++ zs
    → (if b then t ∷ xs else xs) ≡ (if b then t ∷ ys else ys) ++ zs
kept_if true t xs ys zs e = ap (λ l. t ∷ l) e
kept_if false t xs ys zs e = e

-- the members other than null of two lists
pub kept_append : (ts us : List SoyType) → filter is_some_type (ts ++ us)
    ≡ filter is_some_type ts ++ filter is_some_type us
kept_append [] us = refl
kept_append (t ∷ ts) us =
    kept_if (is_some_type t) t (filter is_some_type (ts ++ us)) (filter is_some_type ts) (filter is_some_type us)
    (kept_append ts us)
