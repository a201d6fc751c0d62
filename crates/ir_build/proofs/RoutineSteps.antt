-- Templates of a program, one by one.
use Rattle.std.proofs.Common.{◌≡◌, ℕ, ◌+◌, ◌≤◌, ◌<◌, List, [], ◌∷◌, ◌++◌, drop, length, slice_index_or, refl}
use Rattle.std.proofs.Common.{sym, ap, subst, ◌∙◌, arith}
use Rattle.soy_base.specs.declared.place.Place.{Place}
use Rattle.soy_rules.specs.Templates.{Declared, declared, full_name}
use Rattle.soy_tree.specs.Trees.{Param, Tree}
use Rattle.soy_tree.specs.Types.{Name}
use Rattle.template_ir.specs.Compiles.{CompileContext, Compiles, StandsNodes, StandsTemplates}
use Rattle.soy_rules.specs.Language.{Language}
use Rattle.template_ir.specs.Compiles.{context_of_template}
use Rattle.template_ir.specs.HoleCounts.{nodes_holes}
use Rattle.template_ir.specs.Ops.{Op, Program, Routine}
use Rattle.template_ir.specs.declared.op.Block.{Block}
use Rattle.soy_rules.specs.declared.template.Declared as code
use Rattle.ir_build.specs.Claims.{block_stands, nodes_stand}
use Rattle.ir_build.specs.Laid.{Lays, Made, Pushes, laid_block, with_ops}
use Rattle.ir_build.specs.OnGoing.{RowsOn}
use Rattle.ir_build.specs.Routines.{template_holes, template_stands, templates_holes, templates_stand}
use Rattle.soy_rules.specs.ViewTemplates.{view_all, view_declared}
use Rattle.ir_build.specs.ViewScene.{context_of, translation_in}
use Rattle.msg_extract.specs.LanguageOf.{language_of}
use Rattle.ir_build.specs.declared.scene.Scene.{Scene}
use Rattle.soy_tree.specs.declared.node.Node as code_node
use Rattle.soy_tree.specs.ViewNodes.{view_nodes}
use Rattle.soy_tree.specs.ViewTrees.{view_params}
use Rattle.ir_build.proofs.Laying.{lays_all, lays_as, lays_both, pushes_as, pushes_block}
use Rattle.ir_build.proofs.Loops.{rows_begin, rows_end, rows_step}
use Rattle.ir_build.proofs.OpLists.{drop_all, drop_next}

abbrev compile_context : ℕ → Name → List Param → List Declared → Language → List Place → List Op → CompileContext
compile_context f n ps ds l xs all = record {
  file = f;
  namespace = n;
  params = ps;
  declared = ds;
  translation = l.translation;
  places = xs;
  ops = all;
}

same_context : (f g : ℕ) (n m : Name) (ps qs : List Param) (ds es : List Declared) (k l : Language) (xs ys : List Place)
    (all : List Op) → f ≡ g → n ≡ m → ps ≡ qs → ds ≡ es → k ≡ l → xs ≡ ys
    → compile_context f n ps ds k xs all ≡ compile_context g m qs es l ys all
same_context f g n m ps qs ds es k l xs ys all e1 e2 e3 e4 e5 e6 = rw (e1, e2, e3, e4, e5, e6) refl

module _ (l : Language) (all_declared : List Declared) (places : List Place) where
  -- what is said of the own ops of a template's body
  abbrev pub body_of : Declared → ℕ → List Op → ℕ → ℕ → Type 0
  body_of d hole all at end = StandsNodes (context_of_template l all_declared places all d) d.template.body hole at end

  -- the own ops of a body, by what a template is compiled with
  pub scene_pushed : (s : Scene) (d : code.Declared) (nodes : List code_node.Node) (a b : Made)
      (own own_after : List Op)
      → s.file ≡ d.file → s.namespace.now ≡ d.namespace.now → s.params.now ≡ d.template.now.params
      → view_all s.declared.now ≡ all_declared → language_of s.bundle.now ≡ l → s.places.now ≡ places
      → nodes ≡ d.template.now.body
      → Pushes (nodes_stand s (view_nodes nodes)) (nodes_holes (translation_in s) (view_nodes nodes)) a b own own_after
      → Pushes (body_of (view_declared d)) (template_holes l.translation (view_declared d)) a b own own_after
  scene_pushed s d nodes a b own own_after file namespace params all_are language places_are body p =
      let count : nodes_holes (translation_in s) (view_nodes nodes)
      ≡ nodes_holes l.translation (view_nodes d.template.now.body) =
      ap (λ (x : Language). nodes_holes x.translation (view_nodes nodes)) language
      ∙ ap (λ (x : List code_node.Node). nodes_holes l.translation (view_nodes x)) body in
      pushes_as (nodes_stand s (view_nodes nodes)) (body_of (view_declared d))
      (nodes_holes (translation_in s) (view_nodes nodes)) (nodes_holes l.translation (view_nodes d.template.now.body)) a
      b own own_after count (λ hole all at end h. subst (λ (c : CompileContext). StandsNodes c
      (view_nodes d.template.now.body) hole at end) (same_context s.file d.file s.namespace.now d.namespace.now
      (view_params s.params.now) (view_params d.template.now.params) (view_all s.declared.now) all_declared
      (language_of s.bundle.now) l s.places.now places all file namespace (ap view_params params) all_are language
      places_are) (subst (λ (x : List code_node.Node). StandsNodes (context_of s all) (view_nodes x) hole at end) body
      h)) p

  pub routine_laid : (d : Declared) (r : Routine) (a b e : Made) (none own : List Op) (block : Block) → none ≡ []
      → Pushes (body_of d) (template_holes l.translation d) a b none own → block ≡ laid_block b own → e ≡ with_ops b own
      → r.name ≡ full_name d → r.kind ≡ d.template.kind → r.private ≡ d.template.private
      → r.params ≡ d.template.params → r.body ≡ block
      → Lays (template_stands l all_declared places d r) (template_holes l.translation d) a e
  routine_laid d r a b e none own block nil p block_is made name kind private params body =
      let n : ℕ = template_holes l.translation d in
      lays_as (block_stands (body_of d) (laid_block b own)) (template_stands l all_declared places d r)
      (template_holes l.translation d) (template_holes l.translation d) a e refl
      (λ hole all before x le.
      let same : laid_block b own ≡ r.body = sym (body ∙ block_is) in
      let ends : length b.ops + length own ≤ length all = omega (arith, x.0, le) in
      record {
        name = name;
        kind = kind;
        private = private;
        params = params;
        within = subst (λ (y : Block). y.end ≤ length all) same ends;
        body = subst (λ (y : Block). StandsNodes (context_of_template l all_declared places all d) d.template.body hole
            y.first y.end) same x.1;
      })
      (pushes_block (body_of d) (template_holes l.translation d) a b e none own nil p made)

  abbrev pub RoutinesOn : List code.Declared → ℕ → Made → Made → List Routine → Type 0
  RoutinesOn xs i first now done =
      RowsOn (templates_stand l all_declared places (view_all (drop i xs)))
      (templates_holes l.translation (view_all (drop i xs))) (templates_stand l all_declared places (view_all xs))
      (templates_holes l.translation (view_all xs)) first now done

  pub routines_step : (xs : List code.Declared) (i : ℕ) (x : code.Declared) (r : Routine) (first now next : Made)
      (done done_next : List Routine) → i < length xs → x ≡ slice_index_or xs i x
      → Lays (template_stands l all_declared places (view_declared x) r) (template_holes l.translation
      (view_declared x)) now next
      → done_next ≡ done ++ (r ∷ []) → RoutinesOn xs i first now done → RoutinesOn xs (i + 1) first next done_next
  routines_step xs i x r first now next done done_next below is one e on =
      let rest : List Declared = view_all (drop (i + 1) xs) in
      rows_step (templates_stand l all_declared places (view_all (drop i xs))) (templates_stand l all_declared places
      rest) (templates_stand l all_declared places (view_all xs)) (templates_holes l.translation (view_all (drop i xs)))
      (templates_holes l.translation rest) (templates_holes l.translation (view_all xs)) first now next done done_next r
      e (λ later more m. subst (λ (v : List Declared). Lays (templates_stand l all_declared places v (r ∷ more))
      (templates_holes l.translation v) now later) (sym (ap view_all (drop_next xs i x below is)))
      (lays_as _ (templates_stand l all_declared places (view_declared x ∷ rest) (r ∷ more))
      (template_holes l.translation (view_declared x) + templates_holes l.translation rest) _ now later refl
      (λ hole all before y le. (y.0 le, y.1 le))
      (lays_both (template_stands l all_declared places (view_declared x) r) (templates_stand l all_declared places rest
      more) (template_holes l.translation (view_declared x)) (templates_holes l.translation rest) now next later one
      m))) on

  pub all_stand : (ds : List Declared) (routines : List Routine) (h : ℕ) (a b : Made) → a.holes ≡ 0
      → Lays (templates_stand l all_declared places ds routines) h a b
      → StandsTemplates l all_declared places b.ops ds routines 0
  all_stand ds routines h a b zero_first x =
      let itself : length b.ops ≤ length b.ops = omega arith in
      subst (λ (n : ℕ). StandsTemplates l all_declared places b.ops ds routines n) zero_first
      (lays_all (templates_stand l all_declared places ds routines) h a b x itself)

  pub routines_begin : (xs : List code.Declared) (m : Made) (done : List Routine) → done ≡ [] → RoutinesOn xs 0 m m done
  routines_begin xs m done nil =
      rows_begin (templates_stand l all_declared places (view_all xs)) (templates_holes l.translation (view_all xs)) m
      done nil

  pub routines_end : (xs : List code.Declared) (i : ℕ) (first now : Made) (done : List Routine) → length xs ≤ i
      → RoutinesOn xs i first now done
      → Lays (templates_stand l all_declared places (view_all xs) done) (templates_holes l.translation (view_all xs))
      first now
  routines_end xs i first now done long on =
      rows_end (templates_stand l all_declared places (view_all [])) (templates_stand l all_declared places
      (view_all xs)) 0 (templates_holes l.translation (view_all xs)) first now done refl (λ all before le. tt)
      (subst (λ (ys : List code.Declared). RowsOn (templates_stand l all_declared places (view_all ys))
      (templates_holes l.translation (view_all ys)) (templates_stand l all_declared places (view_all xs))
      (templates_holes l.translation (view_all xs)) first now done) (drop_all xs i long) on)

pub compiles_all : (trees : List Tree) (places : List Place) (l : Language) (p : Program) (ds : List Declared)
    (routines : List Routine) (h : ℕ) (a b : Made) → ds ≡ declared trees → a.holes ≡ 0
    → Lays (templates_stand l ds places ds routines) h a b → p.templates ≡ routines → p.ops ≡ b.ops
    → p.direction ≡ l.direction → p.plural ≡ l.plural → p.ordinal ≡ l.ordinal → Compiles trees places l p
compiles_all trees places l p ds routines h a b ds_are first x templates ops direction plural ordinal = record {
  templates = subst (λ (es : List Declared). StandsTemplates l es places p.ops es p.templates 0) ds_are
      (subst (λ (rs : List Routine). StandsTemplates l ds places p.ops ds rs 0) (sym templates)
      (subst (λ (os : List Op). StandsTemplates l ds places os ds routines 0) (sym ops)
      (all_stand l ds places ds routines h a b first x)));
  direction = direction;
  plural = plural;
  ordinal = ordinal;
}
