-- A program that stands for typed and accepted trees can't go wrong.
use Rattle.std.proofs.Common.{◌≡◌, ℕ, ◌+◌, ◌≤◌, true, false, List, [], ◌∷◌, inl, inr, Option, Some}
use Rattle.std.proofs.Common.{Ok, map, refl, sym, ap, ◌∙◌, subst, arith}
use Rattle.std.specs.Prelude.{slice_get}
use Rattle.std.specs.List.{list_all}
use Rattle.soy_base.specs.declared.kind.Kind.{Kind}
use Rattle.soy_base.specs.declared.place.ValueClass.{ValueClass}
use Rattle.html_state.specs.declared.row.State.{State}
use Rattle.soy_tree.specs.MessageParts.{MsgParts}
use Rattle.soy_tree.specs.Nodes.{Message}
use Rattle.soy_rules.specs.Templates.{Declared, callee, called_name, declared, param_scope}
use Rattle.soy_tree.specs.Trees.{Tree}
use Rattle.soy_tree.specs.Types.{Name}
use Rattle.soy_meaning.specs.Walks.AcceptedTrees.{walk_trees}
use Rattle.soy_meaning.specs.Walks.Holes.{hole_count, holes_before}
use Rattle.soy_meaning.specs.Paths.PathParts.{passed_by}
use Rattle.soy_meaning.specs.Paths.Plan.{Plan, Frame, in_turn}
use Rattle.soy_pieces.specs.Site.{Site}
use Rattle.soy_meaning.specs.Paths.PlanOfNodes.{PlanContext, closes_at, declared_plan, nodes_plan, trees_plan}
use Rattle.soy_meaning.specs.Walks.Points.{Address, AtHole, Here, Inside, Left, Right, point_at}
use Rattle.soy_meaning.specs.Walks.States.{IsMember}
use Rattle.soy_meaning.specs.Runs.TranslationFits.{TranslationsFit}
use Rattle.soy_meaning.specs.Runs.TypedData.{AreTypedTrees}
use Rattle.soy_meaning.specs.Walks.Walk.{Walked}
use Rattle.soy_meaning.proofs.Typing.CheckedTrees.{templates_typed}
use Rattle.soy_meaning.proofs.Runs.RunPaths.{member_fits}
use Rattle.template_ir.specs.CompiledTrees.{ArePatterns, NodesPatterns}
use Rattle.template_ir.specs.Compiles.{Compiles, StandsTemplate, StandsTemplates, callee_number}
use Rattle.soy_rules.specs.Language.{Language}
use Rattle.template_ir.specs.Compiles.{context_of_template}
use Rattle.template_ir.specs.HoleCounts.{nodes_holes}
use Rattle.template_ir.specs.Ops.{Program, Routine}
use Rattle.template_ir.specs.Sound.{is_sound, is_sound_block, is_sound_template}
use Rattle.template_ir.proofs.CheckedTemplates.{AreApart, params_apart, template_demands}
use Rattle.template_ir.proofs.Counts.{nodes_count}
use Rattle.template_ir.proofs.Forward.{nodes_forward}
use Rattle.template_ir.proofs.PlacedRuns.{found_member}
use Rattle.template_ir.proofs.RunLaws.{found_at, template_there}
use Rattle.template_ir.proofs.SoundNodes.{IsRoutineOf, nodes_sound}
use Rattle.template_ir.proofs.SoundOps.{body_sound, both_true, checks, end_passes}
use Rattle.template_ir.proofs.TakenClasses.{Taken, TakesHoles, first_taken, frame_taken, second_taken, taken_from}
use Rattle.template_ir.proofs.TakenClasses.{walk_takes}

member_patterns : (translation : Message → Option MsgParts) (ds : List Declared) (d : Declared) → IsMember d ds
    → ArePatterns translation ds → NodesPatterns translation d.template.body
member_patterns translation [] d member h = absurd member
member_patterns translation (first ∷ ds) d (inl same) h =
    subst (λ z. NodesPatterns translation z.template.body) (sym same) h.0
member_patterns translation (first ∷ ds) d (inr member) h = member_patterns translation ds d member h.1

to_itself : (a : ℕ) → a ≤ a
to_itself a = omega arith

-- no hole stands outside the frames of templates
no_point : (k : Kind) (at : Site) (p : Plan) (y : Address) (classes : List ValueClass)
    → point_at (Frame k at p) y ≡ Some (AtHole classes) → ⊥
no_point k at p Here classes e = let no : ⊥ = cc in no
no_point k at p (Left y) classes e = let no : ⊥ = cc in no
no_point k at p (Right y) classes e = let no : ⊥ = cc in no
no_point k at p (Inside y) classes e = let no : ⊥ = cc in no

no_hole : (translation : Message → Option MsgParts) (all ds : List Declared) (x : Address) (classes : List ValueClass)
    → point_at (in_turn (map (declared_plan translation all) ds)) x ≡ Some (AtHole classes) → ⊥
no_hole translation all [] Here classes e = let no : ⊥ = cc in no
no_hole translation all [] (Left x) classes e = let no : ⊥ = cc in no
no_hole translation all [] (Right x) classes e = let no : ⊥ = cc in no
no_hole translation all [] (Inside x) classes e = let no : ⊥ = cc in no
no_hole translation all (d ∷ ds) Here classes e = let no : ⊥ = cc in no
no_hole translation all (d ∷ ds) (Left x) classes e =
    let c : PlanContext = record { file = d.file; namespace = d.namespace; declared = all; translation = translation }
    in
    no_point d.template.kind (closes_at d.file d.template.span)
    (nodes_plan c d.template.body (param_scope d.template.params)) x classes e
no_hole translation all (d ∷ ds) (Right x) classes e = no_hole translation all ds x classes e
no_hole translation all (d ∷ ds) (Inside x) classes e = let no : ⊥ = cc in no

module _ (trees : List Tree) (l : Language) (v : Walked State) (p : Program) (typed : AreTypedTrees trees)
    (fits : TranslationsFit l.translation (declared trees)) (patterns : ArePatterns l.translation (declared trees))
    (walks : walk_trees l.translation trees ≡ Ok v) (compiles : Compiles trees v.places l p) where
  abbrev all : List Declared
  all = declared trees

  abbrev plan_of : Declared → Plan
  plan_of = declared_plan l.translation all

  abbrev context_of : Declared → PlanContext
  context_of d = record { file = d.file; namespace = d.namespace; declared = all; translation = l.translation }

  whole_taken : Taken v.places (trees_plan l.translation trees) 0
  whole_taken = record {
    holes = λ x classes e parts leads. absurd (no_hole l.translation all all x classes e);
    frames = λ y kind q e.
        let n : holes_before (trees_plan l.translation trees) y ≡ 0 + holes_before (trees_plan l.translation trees) y =
        omega arith in
        subst (λ k. TakesHoles v.places q k) n (walk_takes (trees_plan l.translation trees) v walks y kind q e);
  }

  routine_of : (namespace name : Name) (e : Declared) → callee all namespace name ≡ Some e
      → IsRoutineOf e (slice_get p.templates (callee_number all namespace name))
  routine_of namespace name e is =
      let number : ℕ = callee_number all namespace name in
      let found : slice_get all number ≡ Some e = found_at namespace (called_name namespace name) all e is in
      let there = template_there l all v.places p.ops all p.templates 0 compiles.templates number e found in
      record { routine = there.0; is = there.1; kind = there.2.kind; params = there.2.params }

  callee_apart : (namespace name : Name) (e : Declared) → callee all namespace name ≡ Some e
      → AreApart e.template.params []
  callee_apart namespace name e is =
      params_apart trees typed e
      (found_member all (callee_number all namespace name) e
      (found_at namespace (called_name namespace name) all e is))

  template_sound : (d : Declared) → IsMember d all → (r : Routine) (first : ℕ) → Taken v.places (plan_of d) first
      → StandsTemplate l all v.places p.ops d r first
      → is_sound_template (checks p.templates v.places p.ops) r ≡ true
  template_sound d member r first taken h =
      let body : Plan = nodes_plan (context_of d) d.template.body (param_scope d.template.params) in
      ap (λ ps. is_sound_block (checks p.templates v.places p.ops) r.body false (param_scope ps)) h.params
      ∙ body_sound p.templates v.places p.ops r.body (param_scope d.template.params)
      (nodes_forward (context_of_template l all v.places p.ops d) d.template.body first r.body.first r.body.end h.body)
      h.within
      (nodes_sound l all v.places p.templates p.ops routine_of callee_apart d d.template.body first r.body.first
      r.body.end r.body.end false (param_scope d.template.params)
      (frame_taken v.places (closes_at d.file d.template.span) d.template.kind body first taken)
      (member_patterns l.translation all d member patterns) (member_fits l.translation all d member fits)
      (templates_typed trees typed d member)
      (template_demands trees typed d member) h.body (to_itself r.body.end)
      (λ s. end_passes p.templates v.places p.ops r.body.end false s))

  templates_sound : (ds : List Declared) → ((d : Declared) → IsMember d ds → IsMember d all) → (rs : List Routine)
      (first : ℕ) → Taken v.places (in_turn (map plan_of ds)) first
      → StandsTemplates l all v.places p.ops ds rs first
      → list_all (is_sound_template (checks p.templates v.places p.ops)) rs ≡ true
  templates_sound [] among [] first taken h = refl
  templates_sound [] among (r ∷ rs) first taken h = absurd h
  templates_sound (d ∷ ds) among [] first taken h = absurd h
  templates_sound (d ∷ ds) among (r ∷ rs) first taken h =
      let count : hole_count (plan_of d) ≡ nodes_holes l.translation d.template.body =
      nodes_count (context_of d) d.template.body (param_scope d.template.params) in
      both_true _ _
      (template_sound d (among d (inl refl)) r first
      (first_taken v.places (plan_of d) (in_turn (map plan_of ds)) first taken) h.0)
      (templates_sound ds (λ e member. among e (inr member)) rs
      (first + nodes_holes l.translation d.template.body)
      (taken_from v.places (in_turn (map plan_of ds)) (first + hole_count (plan_of d))
      (first + nodes_holes l.translation d.template.body) (ap (λ k. first + k) count)
      (second_taken v.places (plan_of d) (in_turn (map plan_of ds)) first (record { parts = []; path = passed_by })
      taken)) h.1)

  pub compiled_is_sound : is_sound p ≡ true
  compiled_is_sound = templates_sound all (λ d member. member) p.templates 0 whole_taken compiles.templates
