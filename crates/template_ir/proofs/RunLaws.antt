-- What a program gives for a template is what its trees give, where the places are those of the holes.
use Rattle.std.proofs.Common.{◌≡◌, ◌+◌, ℕ, zero, suc, ℤ, pos, Bool, true, false, List, [], ◌∷◌, Option, Some, None}
use Rattle.std.proofs.Common.{Ok, if◌then◌else◌, refl, sym, ap, ◌∙◌, subst, arith, length, bytes_eq}
use Rattle.std.specs.Prelude.{option_map, slice_get}
use Rattle.soy_base.specs.declared.place.Place.{Place}
use Rattle.plural_rules.specs.Category.{category_of}
use Rattle.html_state.specs.Start.{start}
use Rattle.soy_rules.specs.Templates.{Declared, called_name, full_name, is_visible_from, template_of, visible}
use Rattle.soy_tree.specs.Types.{Name}
use Rattle.soy_rules.specs.Val.{Binding, BlockOf, Known, binding}
use Rattle.soy_pieces.specs.Giving.{BoundBlock, RunEnv}
use Rattle.soy_pieces.specs.Outcome.{Outcome, RunEnd, costs_of_outcome, end_of_outcome, gives_nothing}
use Rattle.soy_pieces.specs.Outcome.{pieces_of_outcome}
use Rattle.soy_pieces.specs.Pieces.{RunContext, at_end, called_within, context_in, frame_outcome, template_run}
use Rattle.soy_pieces.specs.Site.{Site}
use Rattle.soy_pieces.proofs.Outcomes.{followed_nothing}
use Rattle.template_ir.specs.Compiles.{StandsNodes, StandsTemplate, StandsTemplates, callee_number, number_of}
use Rattle.soy_rules.specs.Language.{Language}
use Rattle.template_ir.specs.Compiles.{context_of_template}
use Rattle.template_ir.specs.HoleCounts.{nodes_holes}
use Rattle.template_ir.specs.Ops.{Op, Program, Routine}
use Rattle.template_ir.specs.Run.{all_give, block_gives, body_there, called_at, category_in, op_gives}
use Rattle.template_ir.specs.Run.{template_gives}
use Rattle.soy_base.specs.Table.{table}
use Rattle.template_ir.proofs.Matching.{EnvsMatch, Matches}
use Rattle.template_ir.proofs.NodeLaws.{nodes_law}
use Rattle.template_ir.proofs.PartLaws.{end_of_block}
use Rattle.template_ir.specs.Placed.{EntryPlaced, PlacedAt, TemplatePlaced, holes_before}
use Rattle.soy_pieces.specs.LanguageContext.{language_context}
use Rattle.template_ir.proofs.Plain.{Same, plain, plain_costs, plain_end, plain_pieces}
use Rattle.soy_pieces.specs.Outcome.{pieces_end_costs}
use Rattle.soy_base.specs.Piece.{Piece}

get_next : {A : Type 0} (x : A) (xs : List A) (n : ℕ) → slice_get (x ∷ xs) (1 + n) ≡ slice_get xs n
get_next x xs n = let e : 1 + n ≡ suc n = omega arith in ap (λ k. slice_get (x ∷ xs) k) e

-- ---- which template a number names

module _ (namespace full : Name) where
  pub found_at : (ds : List Declared) (d : Declared) → visible namespace (template_of full ds) ≡ Some d
      → slice_get ds (number_of namespace full ds) ≡ Some d
  found_at [] d h = let no : ⊥ = cc in absurd no
  found_at (x ∷ ds) d h = by_test (bytes_eq (full_name x) full) (found_at ds d) h
    where
      seen : (w : Bool) → (if w then Some x else None) ≡ Some d
          → slice_get (x ∷ ds) (if w then 0 else 1 + length ds) ≡ Some d
      seen true j = j
      seen false j = let no : ⊥ = cc in absurd no

      by_test : (t : Bool) → (visible namespace (template_of full ds) ≡ Some d
          → slice_get ds (number_of namespace full ds) ≡ Some d)
          → visible namespace (if t then Some x else template_of full ds) ≡ Some d
          → slice_get (x ∷ ds) (if t then (if is_visible_from namespace x then 0 else 1 + length ds)
          else 1 + number_of namespace full ds) ≡ Some d
      by_test false more k = get_next x ds (number_of namespace full ds) ∙ more k
      by_test true more k = seen (is_visible_from namespace x) k

module _ (l : Language) (all : List Declared) (places : List Place) (ops : List Op) where
  past_end : (ds : List Declared) (rs : List Routine) (hole : ℕ) → StandsTemplates l all places ops ds rs hole
      → slice_get rs (length ds) ≡ None
  past_end [] [] hole h = refl
  past_end [] (r ∷ rs) hole h = absurd h
  past_end (d ∷ ds) [] hole h = absurd h
  past_end (d ∷ ds) (r ∷ rs) hole h = past_end ds rs (hole + nodes_holes l.translation d.template.body) h.1

  kind_found : (namespace full : Name) (ds : List Declared) (rs : List Routine) (hole : ℕ)
      → StandsTemplates l all places ops ds rs hole
      → option_map (λ (r : Routine). r.kind) (slice_get rs (number_of namespace full ds))
      ≡ option_map (λ (d : Declared). d.template.kind) (visible namespace (template_of full ds))
  kind_found namespace full [] [] hole h = refl
  kind_found namespace full [] (r ∷ rs) hole h = absurd h
  kind_found namespace full (d ∷ ds) [] hole h = absurd h
  kind_found namespace full (d ∷ ds) (r ∷ rs) hole h =
      by_test (bytes_eq (full_name d) full)
      (kind_found namespace full ds rs (hole + nodes_holes l.translation d.template.body) h.1)
    where
      seen : (w : Bool) → option_map (λ (x : Routine). x.kind) (slice_get (r ∷ rs) (if w then 0 else 1 + length ds))
          ≡ option_map (λ (x : Declared). x.template.kind) (if w then Some d else None)
      seen true = ap Some h.0.kind
      seen false = ap (option_map (λ (x : Routine). x.kind))
          (get_next r rs (length ds) ∙ past_end ds rs (hole + nodes_holes l.translation d.template.body) h.1)

      by_test : (t : Bool) → option_map (λ (x : Routine). x.kind) (slice_get rs (number_of namespace full ds))
          ≡ option_map (λ (x : Declared). x.template.kind) (visible namespace (template_of full ds))
          → option_map (λ (x : Routine). x.kind) (slice_get (r ∷ rs)
          (if t then (if is_visible_from namespace d then 0 else 1 + length ds) else 1 + number_of namespace full ds))
          ≡ option_map (λ (x : Declared). x.template.kind) (visible namespace (if t then Some d else template_of full
          ds))
      by_test false more =
          ap (option_map (λ (x : Routine). x.kind)) (get_next r rs (number_of namespace full ds)) ∙ more
      by_test true more = seen (is_visible_from namespace d)

  pub template_there : (ds : List Declared) (rs : List Routine) (hole : ℕ) → StandsTemplates l all places ops ds rs hole
      → (n : ℕ) (d : Declared) → slice_get ds n ≡ Some d
      → (r : Routine) × (slice_get rs n ≡ Some r)
      × StandsTemplate l all places ops d r (hole + holes_before l.translation ds n)
  template_there [] [] hole h n d found = let no : ⊥ = cc in absurd no
  template_there [] (r ∷ rs) hole h n d found = absurd h
  template_there (x ∷ ds) [] hole h n d found = absurd h
  template_there (x ∷ ds) (r ∷ rs) hole h zero d found =
      let same : x ≡ d = cc in
      let here : hole ≡ hole + 0 = omega arith in (
        r,
        refl,
        subst (λ m. StandsTemplate l all places ops d r m) here
            (subst (λ y. StandsTemplate l all places ops y r hole) same h.0),
      )
  template_there (x ∷ ds) (r ∷ rs) hole h (suc n) d found =
      let more = template_there ds rs (hole + nodes_holes l.translation x.template.body) h.1 n d found in
      let there : hole + nodes_holes l.translation x.template.body + holes_before l.translation ds n
      ≡ hole + (nodes_holes l.translation x.template.body + holes_before l.translation ds n) = omega arith in
      (more.0, more.1, subst (λ m. StandsTemplate l all places ops d more.0 m) there more.2)

binding_itself : (b : Binding BoundBlock) → Matches b b
binding_itself (Known v) = refl
binding_itself (BlockOf a) = refl

module _ (l : Language) (all : List Declared) (places : List Place) (p : Program)
    (stands : StandsTemplates l all places p.ops all p.templates 0) (direction : p.direction ≡ l.direction)
    (plural : p.plural ≡ l.plural) (ordinal : p.ordinal ≡ l.ordinal) where
  abbrev c : RunContext
  c = language_context l all

  categories : (which : Bool) (n : ℤ) → category_in p which n ≡ c.category which n
  categories true n = ap (λ r. category_of r n) ordinal
  categories false n = ap (λ r. category_of r n) plural

  abbrev Deeper : ℕ → Type 0
  Deeper left = (at : Site) (number : ℕ) (d : Declared) → slice_get all number ≡ Some d → (env other : RunEnv)
      → EnvsMatch env other → TemplatePlaced c places left number env
      → Same (called_within c left at d env) (called_at p left at number other)

  frame_law : (left : ℕ) → Deeper left → (number : ℕ) (d : Declared) → slice_get all number ≡ Some d
      → (env other : RunEnv) → EnvsMatch env other
      → PlacedAt c places (called_within c left) (TemplatePlaced c places left) (slice_get all number)
      (holes_before l.translation all number) env
      → Same (frame_outcome (context_in c d) (called_within c left) d.template.kind d.template.body env)
      (block_gives (table (op_gives p (called_at p left)) p.ops) (body_there (slice_get p.templates number)) (pos 0)
      other)
  frame_law left deeper number d found env other match placed =
      let there = template_there l all places p.ops all p.templates 0 stands number d found in
      let hole : ℕ = holes_before l.translation all number in
      let none_before : 0 + hole ≡ hole = omega arith in
      let body = subst (λ h. StandsNodes (context_of_template l all places p.ops d) d.template.body h
      there.0.body.first there.0.body.end) none_before there.2.body in
      let here = subst (λ (f : Option Declared). PlacedAt c places (called_within c left) (TemplatePlaced c places
      left) f
      hole env) found placed in
      nodes_law (context_in c d) p places (called_within c left) (called_at p left) (TemplatePlaced c places left)
      direction
      categories (λ name. kind_found l all places p.ops d.namespace (called_name d.namespace name) all p.templates 0
      stands)
      (λ at name e h inner within same x. deeper at (callee_number all d.namespace name) e
      (found_at d.namespace (called_name d.namespace name) all e h) inner within same x)
      d.template.body hole there.0.body.first there.0.body.end body there.0.body.end gives_nothing (omega arith) env
      other
      match (Ok (start d.template.kind)) at_end (λ u v. Unit {0}) here
      (λ u v x s w. end_of_block (context_in c d) p places (called_within c left) (called_at p left)
      (TemplatePlaced c places left) direction there.0.body.end (pos 0) v gives_nothing gives_nothing refl)
      ∙ (ap plain (followed_nothing (block_gives (table (op_gives p (called_at p left)) p.ops) there.0.body (pos 0)
      other))
      ∙ ap (λ (r : Option Routine). plain (block_gives (table (op_gives p (called_at p left)) p.ops) (body_there r)
      (pos 0)
      other)) (sym there.1))

  run_law : (left : ℕ) → Deeper left
  unfolding called_within called_at TemplatePlaced
  run_law zero at number d found env other match placed = refl
  run_law (suc left) at number d found env other match placed =
      frame_law left (run_law left) number d found env other match placed

  pub entry_law : (number : ℕ) (d : Declared) → slice_get all number ≡ Some d → (env : RunEnv)
      → EntryPlaced c places number env → Same (template_run c d env) (template_gives p number env)
  unfolding all_give
  entry_law number d found env placed =
      frame_law 100 (run_law 100) number d found env env (λ x. binding_itself (binding x env)) placed

pub same_given : (a b : Outcome) → Same a b → pieces_end_costs b ≡ pieces_end_costs a
same_given a b h =
    sym (three (pieces_of_outcome a) (pieces_of_outcome b) (end_of_outcome a) (end_of_outcome b) (costs_of_outcome a)
    (costs_of_outcome b) (sym (plain_pieces a) ∙ (ap pieces_of_outcome h ∙ plain_pieces b))
    (sym (plain_end a) ∙ (ap end_of_outcome h ∙ plain_end b))
    (sym (plain_costs a) ∙ (ap costs_of_outcome h ∙ plain_costs b)))
  where
    three : (x y : List Piece) (e f : RunEnd) (k m : List ℕ) → x ≡ y → e ≡ f → k ≡ m
        → ◌≡◌ {A = List Piece × RunEnd × List ℕ} (x, e, k) (y, f, m)
    three x y e f k m u v w = cc
