-- Templates that are gone through while their rows are written.
use Rattle.std.proofs.Common.{◌≡◌, ◌+◌, ◌≤◌, ◌<◌, ℕ, List, [], ◌∷◌, ◌++◌, Option, Result, Ok, OnOk, IfOk, length, map}
use Rattle.std.proofs.Common.{drop}
use Rattle.std.proofs.Common.{slice_index_or, ap, sym, subst, ◌∙◌}
use Rattle.soy_base.specs.declared.memory.OutOfMemory.{OutOfMemory}
use Rattle.soy_tree.specs.MessageParts.{MsgParts}
use Rattle.soy_tree.specs.Nodes.{Message}
use Rattle.soy_rules.specs.Templates.{Declared, declared, param_scope}
use Rattle.soy_tree.specs.Trees.{Tree}
use Rattle.soy_rules.specs.TypeOf.{Scope}
use Rattle.soy_tree.specs.ViewNodes.{view_nodes}
use Rattle.soy_tree.specs.ViewTrees.{view_params, view_template}
use Rattle.soy_tree.specs.declared.bundle.Bundle.{Bundle}
use Rattle.soy_tree.specs.declared.node.Node as code_node
use Rattle.soy_tree.specs.declared.soy_type.Field.{Field}
use Rattle.soy_tree.specs.declared.tree.Param as code_param
use Rattle.soy_tree.specs.declared.tree.Template as code_template
use Rattle.soy_expr.specs.ViewScope.{view_vars}
use Rattle.soy_meaning.specs.Paths.PlanOfNodes.{PlanContext, declared_plan, nodes_plan, template_plan, trees_plan}
use Rattle.std.specs.declared.alloc.Global.{Global}
use Rattle.std.specs.declared.vec.Vec.{Vec}
use Rattle.soy_meaning.specs.Paths.Plan.{Plan, in_turn}
use Rattle.html_context.specs.ChosenTranslation.{chosen_translation}
use Rattle.html_context.specs.StandsFor.{StandsFor, Writes, walk_of}
use Rattle.soy_rules.specs.ViewTemplates.{view_all, view_declared}
use Rattle.html_context.specs.declared.table.Row.{Row}
use Rattle.html_context.specs.declared.table.Row.TheVariants as row
use Rattle.soy_rules.specs.declared.template.Declared as code
use Rattle.html_context.proofs.BuiltRows.{written_frame}
use Rattle.html_context.proofs.WrittenLists.{InTurnSoFar, next_in_turn, written_in_turn}
use Rattle.html_context.proofs.WrittenRows.{first_of, none_of}

module _ (f : Declared → Plan) (old rows new : List Row) (numbers : List ℕ) (i : ℕ) (xs : List code.Declared)
    (whole : Plan) where
  pub next_declared : (x : code.Declared) (n : ℕ) → i < length xs → x ≡ slice_index_or xs i x
      → InTurnSoFar old rows numbers (in_turn (map f (view_all (drop i xs)))) whole
      → Writes (f (view_declared x)) rows new (Ok n)
      → InTurnSoFar old new (numbers ++ (n ∷ [])) (in_turn (map f (view_all (drop (i + 1) xs)))) whole
  next_declared x n small is h w =
      next_in_turn old rows new numbers n (f (view_declared x)) (in_turn (map f (view_all (drop (i + 1) xs)))) whole
      (subst (λ (l : List code.Declared). InTurnSoFar old rows numbers (in_turn (map f (view_all l))) whole)
      (first_of xs i x small is) h) w

  pub all_declared : (all : List ℕ) (result : Result ℕ OutOfMemory) → length xs ≤ i → all ≡ numbers
      → InTurnSoFar old rows numbers (in_turn (map f (view_all (drop i xs)))) whole
      → OnOk result (new ≡ rows ++ (row.InTurn all ∷ [])) → IfOk result (λ j. j ≡ length rows)
      → Writes whole old new result
  all_declared all result h is l e j =
      written_in_turn old rows new all whole result
      (subst (λ (ns : List ℕ). InTurnSoFar old rows ns (in_turn (map f (view_all []))) whole) (sym is)
      (subst (λ (ys : List code.Declared). InTurnSoFar old rows numbers (in_turn (map f (view_all ys))) whole)
      (none_of xs i h) l)) e j

-- the body of a template, as its frame
pub written_template : (k : PlanContext) (t : code_template.Template) (items : List code_node.Node)
    (params : List code_param.Param)
    (vars : List Field) (old mid new : List Row) (n : ℕ) (result : Result ℕ OutOfMemory) → items ≡ t.body
    → params ≡ t.params
    → view_vars vars ≡ param_scope (view_params params)
    → Writes (nodes_plan k (view_nodes items) (view_vars vars)) old mid (Ok n)
    → OnOk result (new ≡ mid ++ (row.Frame t.kind (record { file = k.file; at = t.span.end }) n ∷ []))
    → IfOk result (λ j. j ≡ length mid) → Writes (template_plan k (view_template t)) old new result
written_template k t items params vars old mid new n result b p v w e j =
    written_frame t.kind (record { file = k.file; at = t.span.end })
    (nodes_plan k (view_nodes t.body) (param_scope (view_params t.params)))
    old mid new n result
    (subst (λ (l : List code_node.Node). Writes (nodes_plan k (view_nodes l) (param_scope (view_params t.params))) old
    mid (Ok n)) b
    (subst (λ (l : List code_param.Param). Writes (nodes_plan k (view_nodes items) (param_scope (view_params l))) old
    mid (Ok n)) p
    (subst (λ (s : Scope). Writes (nodes_plan k (view_nodes items) s) old mid (Ok n)) v w))) e j

pub stands : (translation : Message → Option MsgParts) (trees : List Tree) (ds : List Declared) (old : List Row)
    (rows : Vec Row Global) (root : ℕ) → ds ≡ declared trees
    → Writes (in_turn (map (declared_plan translation ds) ds)) old rows.items (Ok root)
    → StandsFor (record { rows = rows; root = root }) (trees_plan translation trees)
stands translation trees ds old rows root e w =
    w.2 ∙ ap (λ (l : List Declared). walk_of (in_turn (map (declared_plan translation l) l))) e

-- the same where the templates and the bundle were looked up in indexes of them
pub stands_indexed : (trees : List Tree) (given taken : Bundle) (some all : List code.Declared) (old : List Row)
    (rows : Vec Row Global) (root : ℕ) → taken ≡ given → all ≡ some → view_all some ≡ declared trees
    → Writes (in_turn (map (declared_plan (chosen_translation taken.messages) (view_all all)) (view_all some))) old
    rows.items (Ok root)
    → StandsFor (record { rows = rows; root = root }) (trees_plan (chosen_translation given.messages) trees)
stands_indexed trees given taken some all old rows root same_bundle same_templates e w =
    stands (chosen_translation given.messages) trees (view_all some) old rows root e
    (subst (λ (b : Bundle). Writes (in_turn (map (declared_plan (chosen_translation b.messages) (view_all some))
    (view_all some))) old rows.items (Ok root)) same_bundle
    (subst (λ (ds : List code.Declared). Writes (in_turn (map (declared_plan (chosen_translation taken.messages)
    (view_all ds)) (view_all some))) old rows.items (Ok root)) same_templates w))
