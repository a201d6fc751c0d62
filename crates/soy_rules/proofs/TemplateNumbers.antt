-- The template of a number, among those of the trees from an index on.
use Rattle.std.proofs.Common.{◌≡◌, ℕ, zero, suc, ◌+◌, ◌-◌, ◌<◌, List, [], ◌∷◌, ◌++◌, drop, length, slice_index_or}
use Rattle.std.proofs.Common.{arith}
use Rattle.std.specs.Prelude.{Some, None, slice_get}
use mathlib.Core.Path.{refl, ap}
use Rattle.soy_tree.specs.declared.tree.Tree as code
use Rattle.soy_tree.specs.declared.tree.Template as code_template
use Rattle.soy_rules.specs.Typed.{templates_of, params_at, params_there}

pub get_append_left : {X : Type 0} (xs ys : List X) (n : ℕ) (x : X) → slice_get xs n ≡ Some x
    → slice_get (xs ++ ys) n ≡ Some x
get_append_left [] ys n x e = let no : ⊥ = cc in absurd no
get_append_left (y ∷ xs) ys zero x e = e
get_append_left (y ∷ xs) ys (suc n) x e = get_append_left xs ys n x e

pub get_append_right : {X : Type 0} (xs ys : List X) (n : ℕ) → slice_get xs n ≡ None
    → slice_get (xs ++ ys) n ≡ slice_get ys (n - length xs)
get_append_right [] ys n e = let d : n ≡ n - 0 = omega arith in ap (λ k. slice_get ys k) d
get_append_right (y ∷ xs) ys zero e = let no : ⊥ = cc in absurd no
get_append_right (y ∷ xs) ys (suc n) e =
    let d : n - length xs ≡ suc n - length (y ∷ xs) = omega arith in rw (← d) (get_append_right xs ys n e)

pub templates-drop : (ts : List code.Tree) (i : ℕ) (t : code.Tree) → i < length ts → t ≡ slice_index_or ts i t
    → templates_of (drop i ts) ≡ t.templates ++ templates_of (drop (i + 1) ts)
templates-drop [] i t below is = absurd (omega arith)
templates-drop (u ∷ ts) zero t below is = rw is refl
templates-drop (u ∷ ts) (suc i) t below is = let e : suc i + 1 ≡ suc (i + 1) =
    omega arith in rw e (templates-drop ts i t (omega arith) is)

pub params_here : (ts : List code.Tree) (i n : ℕ) (t : code.Tree) (x : code_template.Template) → i < length ts
    → t ≡ slice_index_or ts i t → slice_get t.templates n ≡ Some x → params_at n (templates_of (drop i ts)) ≡ x.params
params_here ts i n t x below is e =
    rw (templates-drop ts i t below is)
    (ap params_there (get_append_left t.templates (templates_of (drop (i + 1) ts)) n x e))

pub params_later : (ts : List code.Tree) (i n : ℕ) (t : code.Tree) → i < length ts → t ≡ slice_index_or ts i t
    → slice_get t.templates n ≡ None → params_at n (templates_of (drop i ts))
    ≡ params_at (n - length t.templates) (templates_of (drop (i + 1) ts))
params_later ts i n t below is e =
    rw (templates-drop ts i t below is)
    (ap params_there (get_append_right t.templates (templates_of (drop (i + 1) ts)) n e))
