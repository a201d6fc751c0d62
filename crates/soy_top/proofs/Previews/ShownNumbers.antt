-- The numbers of templates that may be previewed: one that is found is a template of the trees, of kind html, and it is
-- the same in the program.
use Rattle.std.proofs.Common.{◌≡◌, ℕ, suc, ◌+◌, Bool, true, false, cond, List, [], ◌∷◌, map, Option, Some, None}
use Rattle.std.proofs.Common.{refl, sym, ap, ◌∙◌, arith, subst}
use Rattle.std.specs.Prelude.{IfSome, ◌&&◌, bytes_eq, not, option_and_then, slice_get}
use Rattle.std.specs.List.{position, position_from}
use Rattle.std.proofs.lemmas.Iterator.Adapters.{position_from-zero}
use Rattle.soy_base.specs.declared.kind.Kind.{Kind}
use Rattle.soy_base.specs.declared.kind.Kind.TheVariants as kind
use Rattle.soy_base.specs.declared.place.Place.{Place}
use Rattle.soy_rules.specs.Templates.{Declared, full_name}
use Rattle.soy_tree.specs.Types.{Name}
use Rattle.template_ir.specs.Compiles.{StandsTemplates}
use Rattle.soy_rules.specs.Language.{Language}
use Rattle.template_ir.specs.Ops as ops
use Rattle.template_ir.specs.ViewOps.{view_routine}
use Rattle.template_ir.specs.declared.program.Routine.{Routine}
use Rattle.soy_top.specs.Shown.{IsHtml, is_shown, is_shown_kind, is_shown_routine, is_shown_template, shown_number}

-- ---- the first that passes a test

-- there is one that passes it at an index of a list that is counted from a number on
record Stands {X : Type 0} (test : X → Bool) (xs : List X) (from at : ℕ) : Type 0 where
  pub index : ℕ
  pub item : X
  pub counted : at ≡ from + index
  pub there : slice_get xs index ≡ Some item
  pub passes : test item ≡ true

never : {X : Type 0} (x : X) → ◌≡◌ {A = Option X} None (Some x) → ⊥
never x e = cc

first_stands : {X : Type 0} (test : X → Bool) (x : X) (xs : List X) (from at : ℕ) (first : Bool) → test x ≡ first
    → cond first (Some from) (position_from test (from + 1) xs) ≡ Some at
    → (position_from test (from + 1) xs ≡ Some at → Stands test xs (from + 1) at) → Stands test (x ∷ xs) from at
first_stands test x xs from at true is e later =
    let same : from ≡ at = cc in
    record { index = 0; item = x; counted = omega arith; there = refl; passes = is }
first_stands test x xs from at false is e later =
    let s = later e in
    record {
      index = suc s.index;
      item = s.item;
      counted = omega (arith, s.counted);
      there = s.there;
      passes = s.passes;
    }

found_stands : {X : Type 0} (test : X → Bool) (xs : List X) (from at : ℕ) → position_from test from xs ≡ Some at
    → Stands test xs from at
found_stands test [] from at e = absurd (never at e)
found_stands test (x ∷ xs) from at e =
    first_stands test x xs from at (test x) refl e (found_stands test xs (from + 1) at)

last_passes : (one other : Bool) → one && other ≡ true → other ≡ true
last_passes true other e = e
last_passes false other e = cc

html_kind : (k : Kind) → is_shown_kind k ≡ true → k ≡ kind.Html
html_kind kind.Html e = refl
html_kind kind.Attributes e = cc
html_kind kind.Text e = cc

counted_first : {X : Type 0} (test : X → Bool) (xs : List X) → position test xs ≡ position_from test 0 xs
counted_first test xs = position_from-zero test xs

module _ (name : Name) (ds : List Declared) (number : ℕ) (e : shown_number name ds ≡ Some number) where
  first_shown : Stands (is_shown_template name) ds 0 number
  first_shown =
      found_stands (is_shown_template name) ds 0 number (sym (counted_first (is_shown_template name) ds) ∙ e)

  first_there : slice_get ds number ≡ Some first_shown.item
  first_there =
      let same : number ≡ first_shown.index = omega (arith, first_shown.counted) in
      ap (slice_get ds) same ∙ first_shown.there

  -- **the number is that of a template**
  pub shown_declared : (d : Declared) × (slice_get ds number ≡ Some d)
  shown_declared = (first_shown.item, first_there)

  -- **and that is of kind html**
  pub number_html : IfSome (slice_get ds number) IsHtml
  number_html = subst (λ o. IfSome o IsHtml) (sym first_there) (html_kind first_shown.item.template.kind
      (last_passes (bytes_eq (full_name first_shown.item) name && not first_shown.item.template.private)
      (is_shown_kind first_shown.item.template.kind) first_shown.passes))

-- **so is the template that may be previewed**
pub shown_html : (name : Name) (ds : List Declared)
    → IfSome (option_and_then (slice_get ds) (shown_number name ds)) IsHtml
shown_html name ds = by_number (shown_number name ds) refl where
  by_number : (o : Option ℕ) → shown_number name ds ≡ o → IfSome (option_and_then (slice_get ds) o) IsHtml
  by_number None is = tt
  by_number (Some number) is = number_html name ds number is

-- ---- the templates of a program

module _ (l : Language) (all : List Declared) (places : List Place) (there : List ops.Op) (name : Name) where
  shown_from : (ds : List Declared) (rs : List Routine) (hole i : ℕ)
      → StandsTemplates l all places there ds (map view_routine rs) hole
      → position_from (is_shown_routine name) i rs ≡ position_from (is_shown_template name) i ds
  shown_from [] [] hole i stands = refl
  shown_from [] (r ∷ rs) hole i stands = absurd stands
  shown_from (d ∷ ds) [] hole i stands = absurd stands
  shown_from (d ∷ ds) (r ∷ rs) hole i stands =
      let same : is_shown_routine name r ≡ is_shown_template name d =
      ap (λ n. is_shown name n r.private r.kind) stands.0.name
      ∙ (ap (λ b. is_shown name (full_name d) b r.kind) stands.0.private
      ∙ ap (λ k. is_shown name (full_name d) d.template.private k) stands.0.kind) in
      ap (λ b. cond b (Some i) (position_from (is_shown_routine name) (i + 1) rs)) same
      ∙ ap (λ o. cond (is_shown_template name d) (Some i) o) (shown_from ds rs _ (i + 1) stands.1)

  -- **the numbers of a program are those of its trees**
  pub shown_same : (rs : List Routine) → StandsTemplates l all places there all (map view_routine rs) 0
      → position (is_shown_routine name) rs ≡ shown_number name all
  shown_same rs stands =
      counted_first (is_shown_routine name) rs
      ∙ (shown_from all rs 0 0 stands ∙ sym (counted_first (is_shown_template name) all))
