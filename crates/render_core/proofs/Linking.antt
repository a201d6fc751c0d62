-- How links are made and kept.
use Rattle.std.proofs.Common.{◌≡◌, ℕ, zero, suc, ◌+◌, ◌-◌, ◌≤◌, ◌<◌, ◌&&◌, ◌⊎◌, inl, inr, Bool, true, false}
use Rattle.std.proofs.Common.{List, [], ◌∷◌, ◌++◌, Some, length, take, slice_index_or, refl, sym, ap, ◌∙◌, arith}
use Rattle.std.proofs.Common.{subst}
use Rattle.std.specs.List.{slice_get}
use Rattle.std.specs.Prelude.{bytes_eq}
use Rattle.std.proofs.lemmas.Bool.{cases_lt, cases_order}
use Rattle.soy_tree.specs.Types.{Name}
use Rattle.soy_rules.specs.Val.{binding}
use Rattle.template_ir.specs.declared.program.ProgramParts.{ProgramParts}
use Rattle.render_core.specs.Keys.{agreed, fits_key, key_of, level_of, levels_of, lowered, next_of}
use Rattle.render_core.specs.Linked.{IsLinked, Leads, LeadsTo, Passes, is_sought}
use Rattle.render_core.specs.Variables.{cells_of, env_at, name_or_none, name_there}
use Rattle.render_core.specs.declared.held.Bound.{Bound}
use Rattle.render_core.specs.declared.links.Levels.{Levels}
use Rattle.render_core.specs.declared.links.Links.{Links}
use Rattle.render_core.specs.declared.links.Links.TheVariants as links
use Rattle.render_core.proofs.Finds.{found_below}
use Rattle.render_core.proofs.Keys.{fewer_agreed, index_end, index_inside, index_last, index_outside, index_within}
use Rattle.render_core.proofs.Keys.{more_agreed, same_name}

-- ---- kept

get_below : {A : Type 0} (xs : List A) (m n : ℕ) (x : A) → slice_get (take m xs) n ≡ Some x
    → (n < m) × (slice_get xs n ≡ Some x)
get_below xs zero n x e = cc
get_below [] (suc m) n x e = cc
get_below (y ∷ ys) (suc m) zero x e = (omega arith, e)
get_below (y ∷ ys) (suc m) (suc n) x e = let h = get_below ys m n x e in (omega (arith, h.0), h.1)

take_below : {A : Type 0} (xs : List A) (m n : ℕ) → n ≤ m → take n (take m xs) ≡ take n xs
take_below xs m zero h = refl
take_below xs zero (suc n) h = absurd (omega arith)
take_below [] (suc m) (suc n) h = refl
take_below (y ∷ ys) (suc m) (suc n) h = ap (λ zs. y ∷ zs) (take_below ys m n (omega arith))

-- the first of variables whose links are right
pub linked_first : (bound : List Bound) (m : ℕ) → IsLinked bound → IsLinked (take m bound)
linked_first bound m linked n b is =
    let there = get_below bound m n b is in
    subst (λ (bs : List Bound). Leads bs b.links b.below) (sym (take_below bound m n (omega (arith, there.0))))
    (linked n b there.1)

get_snoc : {A : Type 0} (xs : List A) (y : A) (n : ℕ) (x : A) → slice_get (xs ++ y ∷ []) n ≡ Some x
    → ((n < length xs) × (slice_get xs n ≡ Some x)) ⊎ ((n ≡ length xs) × (x ≡ y))
get_snoc [] y zero x e = inr (refl, (let s : x ≡ y = cc in s))
get_snoc [] y (suc n) x e = cc
get_snoc (z ∷ zs) y zero x e = inl (omega arith, e)
get_snoc (z ∷ zs) y (suc n) x e = later (get_snoc zs y n x e)
  where
    later : ((n < length zs) × (slice_get zs n ≡ Some x)) ⊎ ((n ≡ length zs) × (x ≡ y))
        → ((suc n < suc (length zs)) × (slice_get zs n ≡ Some x)) ⊎ ((suc n ≡ suc (length zs)) × (x ≡ y))
    later (inl h) = inl (omega (arith, h.0), h.1)
    later (inr h) = inr (ap suc h.0, h.1)

take_snoc : {A : Type 0} (xs : List A) (y : A) (n : ℕ) → n ≤ length xs → take n (xs ++ y ∷ []) ≡ take n xs
take_snoc xs y zero h = refl
take_snoc [] y (suc n) h = absurd (omega arith)
take_snoc (x ∷ xs) y (suc n) h = ap (λ zs. x ∷ zs) (take_snoc xs y n (omega arith))

take_all : {A : Type 0} (xs : List A) → take (length xs) xs ≡ xs
take_all [] = refl
take_all (x ∷ xs) = ap (λ zs. x ∷ zs) (take_all xs)

-- and one more
pub linked_more : (bound : List Bound) (variable : Bound) → IsLinked bound
    → Leads bound variable.links variable.below → IsLinked (bound ++ variable ∷ [])
linked_more bound variable linked leads n b is = by_place (get_snoc bound variable n b is)
  where
    by_place : ((n < length bound) × (slice_get bound n ≡ Some b)) ⊎ ((n ≡ length bound) × (b ≡ variable))
        → Leads (take n (bound ++ variable ∷ [])) b.links b.below
    by_place (inl h) =
        subst (λ (bs : List Bound). Leads bs b.links b.below)
        (sym (take_snoc bound variable n (omega (arith, h.0)))) (linked n b h.1)
    by_place (inr h) =
        subst (λ (v : Bound). Leads (take n (bound ++ variable ∷ [])) v.links v.below) (sym h.1)
        (subst (λ (bs : List Bound). Leads bs variable.links variable.below)
        (sym (take_snoc bound variable n (omega (arith, h.0)) ∙ (ap (λ k. take k bound) h.0 ∙ take_all bound))) leads)

-- ---- made

length_snoc : (xs : List ℕ) (y : ℕ) → length (xs ++ y ∷ []) ≡ length xs + 1
length_snoc [] y = refl
length_snoc (x ∷ xs) y = let h = length_snoc xs y in omega (arith, h)

other_name : (p : ProgramParts) (b : Bound) (l : Levels) (name : Name) (key : ℕ) → b.links ≡ links.Many l
    → (agreed 32 key (key_of name) ≡ agreed 32 key l.key → ⊥) → is_sought p b name ≡ false
other_name p b l name key is other = by_case (is_sought p b name) refl
  where
    by_case : (t : Bool) → is_sought p b name ≡ t → t ≡ false
    by_case false e = refl
    by_case true e =
        absurd (other (ap (agreed 32 key) (sym (same_name l.key (name_or_none (name_there p b.name)) name
        (subst (λ (x : Links). (fits_key x (name_or_none (name_there p b.name))
        && bytes_eq (name_or_none (name_there p b.name)) name) ≡ true) is e)))))

levels_are : (x : Links) (l : Levels) → Some l ≡ levels_of x → x ≡ links.Many l
levels_are (links.Few n fingerprint) l e = cc
levels_are (links.Many m) l e = let h : m ≡ l = cc in ap links.Many h

-- past a variable from which down many are visible
pub passes : (bound : List Bound) (number : ℕ) (b : Bound) (l : Levels) → 0 < number
    → Some b ≡ slice_get bound (number - 1) → Some l ≡ levels_of b.links
    → Leads (take (number - 1) bound) b.links b.below → Passes bound number l
passes bound number b l some there has leads = λ p input name key other.
    let is : b.links ≡ links.Many l = levels_are b.links l has in
    sym (found_below p input bound number b name some (sym there) (other_name p b l name key is other) leads)
    ∙ ap (λ (x : Links). binding name
    (env_at (cells_of p input bound) (lowered number (next_of x b.below (key_of name))))) is

-- one more level is copied
pub copied_level : (bound : List Bound) (key : ℕ) (l : Levels) (number : ℕ) (to : List ℕ) (below : ℕ)
    → length to < agreed 32 key l.key → Passes bound number l → LeadsTo bound key to number below
    → LeadsTo bound key (to ++ lowered number (level_of l (length to)) ∷ []) number below
copied_level bound key l number to below low past leads p input name =
    let count : ℕ = agreed 32 key (key_of name) in
    let next : ℕ = lowered number (level_of l (length to)) in
    leads p input name ∙ (elim (cases_order count (length to)) [
      | inl same ↦
          (let other : agreed 32 l.key (key_of name) ≡ count =
          fewer_agreed 32 key l.key (key_of name) (omega (arith, low, same)) in
          ap (λ n. binding name (env_at (cells_of p input bound) n))
          (index_outside to count number (omega (arith, same)))
          ∙ (past p input name key (λ (e : count ≡ agreed 32 key l.key). omega (arith, e, low, same))
          ∙ (ap (λ n. binding name (env_at (cells_of p input bound) (lowered number (level_of l n)))) (other ∙ same)
          ∙ ap (λ n. binding name (env_at (cells_of p input bound) n))
          (sym (ap (λ k. slice_index_or (to ++ next ∷ []) k number) same ∙ index_last to next number)))))
      | inr other ↦ elim other [
        | inl less ↦
            ap (λ n. binding name (env_at (cells_of p input bound) n))
            (sym (index_inside to (next ∷ []) count number number less))
        | inr more ↦
            ap (λ n. binding name (env_at (cells_of p input bound) n))
            (index_outside to count number (omega (arith, more))
            ∙ sym (index_outside (to ++ next ∷ []) count number
            (let size : length (to ++ next ∷ []) ≡ length to + 1 = length_snoc to next in omega (arith, size, more))))
      ]
    ])

-- the variable is put where a search comes to it
pub placed_level : (bound : List Bound) (key : ℕ) (number : ℕ) (to : List ℕ) (below : ℕ)
    → LeadsTo bound key to number below → LeadsTo bound key (to ++ number ∷ []) number below
placed_level bound key number to below leads p input name =
    leads p input name
    ∙ ap (λ n. binding name (env_at (cells_of p input bound) n))
    (sym (index_end to number (agreed 32 key (key_of name))))

-- the levels past it are those past its own
pub passed_level : (bound : List Bound) (key : ℕ) (l : Levels) (number : ℕ) (to : List ℕ) (below : ℕ)
    → agreed 32 key l.key < length to → Passes bound number l → LeadsTo bound key to number below
    → LeadsTo bound key to (lowered number (level_of l (agreed 32 key l.key))) below
passed_level bound key l number to below high past leads p input name =
    let count : ℕ = agreed 32 key (key_of name) in
    let next : ℕ = lowered number (level_of l (agreed 32 key l.key)) in
    leads p input name ∙ (elim (cases_lt count (length to)) [
      | inl less ↦
          ap (λ n. binding name (env_at (cells_of p input bound) n)) (index_within to count number next less)
      | inr more ↦
          (let other : agreed 32 l.key (key_of name) ≡ agreed 32 key l.key =
          more_agreed 32 key l.key (key_of name) (omega (arith, high, more)) in
          ap (λ n. binding name (env_at (cells_of p input bound) n)) (index_outside to count number more)
          ∙ (past p input name key (λ (e : count ≡ agreed 32 key l.key). omega (arith, e, high, more))
          ∙ (ap (λ n. binding name (env_at (cells_of p input bound) (lowered number (level_of l n)))) other
          ∙ ap (λ n. binding name (env_at (cells_of p input bound) n))
          (sym (index_outside to count next more)))))
    ])
