-- The numbers of entries: one that is found is a template of the trees, and it is the same in the program.
use Rattle.std.proofs.Common.{◌≡◌, ℕ, suc, ◌+◌, Bool, true, false, cond, List, [], ◌∷◌, map, Option, Some, None}
use Rattle.std.proofs.Common.{refl, sym, ap, ◌∙◌, arith}
use Rattle.std.specs.Prelude.{slice_get}
use Rattle.std.specs.List.{position, position_from}
use Rattle.std.proofs.lemmas.Iterator.Adapters.{position_from-zero}
use Rattle.soy_base.specs.declared.place.Place.{Place}
use Rattle.soy_rules.specs.Templates.{Declared, full_name}
use Rattle.soy_tree.specs.Types.{Name}
use Rattle.template_ir.specs.Compiles.{StandsTemplates}
use Rattle.soy_rules.specs.Language.{Language}
use Rattle.template_ir.specs.Ops as ops
use Rattle.template_ir.specs.ViewOps.{view_routine}
use Rattle.template_ir.specs.declared.program.Routine.{Routine}
use Rattle.soy_front.specs.Entries.{entry_number, is_entry, is_entry_routine, is_entry_template}

-- ---- the first that passes a test

-- the one at an index of a list that is counted from a number on passes
record Passes {X : Type 0} (test : X → Bool) (xs : List X) (from at : ℕ) : Type 0 where
  pub index : ℕ
  pub item : X
  pub counted : at ≡ from + index
  pub there : slice_get xs index ≡ Some item
  pub passes : test item ≡ true

never : {X : Type 0} (x : X) → ◌≡◌ {A = Option X} None (Some x) → ⊥
never x e = cc

first_passes : {X : Type 0} (test : X → Bool) (x : X) (xs : List X) (from at : ℕ) (first : Bool) → test x ≡ first
    → cond first (Some from) (position_from test (from + 1) xs) ≡ Some at
    → (position_from test (from + 1) xs ≡ Some at → Passes test xs (from + 1) at) → Passes test (x ∷ xs) from at
first_passes test x xs from at true is e later =
    let same : from ≡ at = cc in
    record { index = 0; item = x; counted = omega arith; there = refl; passes = is }
first_passes test x xs from at false is e later =
    let p = later e in
    record {
      index = suc p.index;
      item = p.item;
      counted = omega (arith, p.counted);
      there = p.there;
      passes = p.passes;
    }

found_passes : {X : Type 0} (test : X → Bool) (xs : List X) (from at : ℕ) → position_from test from xs ≡ Some at
    → Passes test xs from at
found_passes test [] from at e = absurd (never at e)
found_passes test (x ∷ xs) from at e =
    first_passes test x xs from at (test x) refl e (found_passes test xs (from + 1) at)

counted_first : {X : Type 0} (test : X → Bool) (xs : List X) → position test xs ≡ position_from test 0 xs
counted_first test xs = position_from-zero test xs

-- **the number of an entry is that of a template**
pub entry_declared : (name : Name) (ds : List Declared) (number : ℕ) → entry_number name ds ≡ Some number
    → (d : Declared) × (slice_get ds number ≡ Some d)
entry_declared name ds number e =
    let p = found_passes (is_entry_template name) ds 0 number (sym (counted_first (is_entry_template name) ds) ∙ e) in
    let same : number ≡ p.index = omega (arith, p.counted) in
    (p.item, ap (slice_get ds) same ∙ p.there)

-- ---- the templates of a program

module _ (l : Language) (all : List Declared) (places : List Place) (there : List ops.Op) (name : Name) where
  entries_from : (ds : List Declared) (rs : List Routine) (hole i : ℕ)
      → StandsTemplates l all places there ds (map view_routine rs) hole
      → position_from (is_entry_routine name) i rs ≡ position_from (is_entry_template name) i ds
  entries_from [] [] hole i stands = refl
  entries_from [] (r ∷ rs) hole i stands = absurd stands
  entries_from (d ∷ ds) [] hole i stands = absurd stands
  entries_from (d ∷ ds) (r ∷ rs) hole i stands =
      let same : is_entry_routine name r ≡ is_entry_template name d =
      ap (λ n. is_entry name n r.private r.kind) stands.0.name
      ∙ (ap (λ b. is_entry name (full_name d) b r.kind) stands.0.private
      ∙ ap (λ k. is_entry name (full_name d) d.template.private k) stands.0.kind) in
      ap (λ b. cond b (Some i) (position_from (is_entry_routine name) (i + 1) rs)) same
      ∙ ap (λ o. cond (is_entry_template name d) (Some i) o) (entries_from ds rs _ (i + 1) stands.1)

  -- **the entries of a program are those of its trees**
  pub entries_same : (rs : List Routine) → StandsTemplates l all places there all (map view_routine rs) 0
      → position (is_entry_routine name) rs ≡ entry_number name all
  entries_same rs stands =
      counted_first (is_entry_routine name) rs
      ∙ (entries_from all rs 0 0 stands ∙ sym (counted_first (is_entry_template name) all))
