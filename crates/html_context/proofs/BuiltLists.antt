-- Lists of nodes, arms, cases and params that are gone through while their rows are written.
use Rattle.std.proofs.Common.{◌≡◌, ◌+◌, ◌≤◌, ◌<◌, ℕ, ℤ, List, [], ◌∷◌, ◌++◌, Result, Ok, OnOk, IfOk, length, map, drop}
use Rattle.std.proofs.Common.{slice_index_or, ap, sym, ◌∙◌, subst}
use Rattle.soy_base.specs.declared.fault.Span.{Span}
use Rattle.soy_base.specs.declared.memory.OutOfMemory.{OutOfMemory}
use Rattle.soy_tree.specs.Expressions.{Expr}
use Rattle.soy_rules.specs.Narrowing.{narrowed}
use Rattle.soy_tree.specs.Nodes.{Given, MessageBody, Nodes, argument, arm, case, plural_case, select_case}
use Rattle.soy_rules.specs.TypeOf.{Scope}
use Rattle.soy_tree.specs.Types.{Name}
use Rattle.soy_tree.specs.ViewExpressions.{view_expr}
use Rattle.soy_tree.specs.ViewNodes.{view_arguments, view_arms, view_body, view_cases, view_given, view_node}
use Rattle.soy_tree.specs.ViewNodes.{view_nodes}
use Rattle.soy_tree.specs.ViewNodes.{view_plural_cases, view_select_cases}
use Rattle.soy_tree.specs.declared.node.Argument as code_argument
use Rattle.soy_tree.specs.declared.node.Arm as code_arm
use Rattle.soy_tree.specs.declared.node.Case as code_case
use Rattle.soy_tree.specs.declared.node.Node as code_node
use Rattle.soy_tree.specs.declared.node.PluralCase as code_plural_case
use Rattle.soy_tree.specs.declared.node.SelectCase as code_select_case
use Rattle.soy_tree.specs.declared.soy_type.Field.{Field}
use Rattle.soy_expr.specs.ViewScope.{view_vars}
use Rattle.soy_meaning.specs.Paths.Plan.{Plan, arms_meet}
use Rattle.soy_pieces.specs.Site.{Site}
use Rattle.soy_meaning.specs.Paths.PlanOfNodes.{PlanContext, argument_frames, arm_plans, body_plan, case_plans}
use Rattle.soy_meaning.specs.Paths.PlanOfNodes.{given_frame}
use Rattle.soy_meaning.specs.Paths.PlanOfNodes.{node_plan, nodes_plan, plural_plans, scope_past, select_plans}
use Rattle.html_context.specs.StandsFor.{Writes, walk_of}
use Rattle.html_context.specs.Walks.{view_site}
use Rattle.html_context.specs.declared.fault.Site as code_site
use Rattle.html_context.specs.declared.table.Row.{Row}
use Rattle.html_context.specs.declared.table.Row.TheVariants as row
use Rattle.html_context.proofs.PlanCongruence.{Way}
use Rattle.html_context.proofs.ViewBodies.{argument_is, arm_is, case_is, plural_case_is, select_case_is}
use Rattle.html_context.proofs.WrittenLists.{InTurnSoFar, ListSoFar, next_in_turn, next_listed, written_in_turn}
use Rattle.html_context.proofs.WrittenLists.{written_meet}
use Rattle.html_context.proofs.WrittenRows.{first_of, none_of}

-- the last of arms, and that all meet
pub last_meets : (at : code_site.Site) (ps : List Plan) (last : Plan) (old rows mid new : List Row)
    (numbers all : List ℕ)
    (n : ℕ) (result : Result ℕ OutOfMemory) → ListSoFar old rows numbers (last ∷ []) (map walk_of ps)
    → Writes last rows mid (Ok n) → all ≡ numbers ++ (n ∷ []) → OnOk result (new ≡ mid ++ (row.Meet at all ∷ []))
    → IfOk result (λ k. k ≡ length mid) → Writes (arms_meet (view_site at) ps) old new result
last_meets at ps last old rows mid new numbers all n result h w is e k =
    written_meet at old mid new all ps result
    (subst (λ (l : List ℕ). ListSoFar old mid l [] (map walk_of ps)) (sym is)
    (next_listed old rows mid numbers n last [] (map walk_of ps) h w)) e k

module _ (k : PlanContext) (scope : Scope) (old rows new : List Row) (numbers : List ℕ) (n i : ℕ) where
  -- arms of an if
  pub next_arm : (last : Plan) (xs : List code_arm.Arm) (x : code_arm.Arm) (whole : List Way)
      (body : List code_node.Node)
      (inner : List Field) → i < length xs → x ≡ slice_index_or xs i x → body ≡ (code_arm.out-Arm x).body
      → view_vars inner ≡ narrowed (view_expr (code_arm.out-Arm x).when) scope
      → ListSoFar old rows numbers (arm_plans k (view_arms (drop i xs)) scope ++ (last ∷ [])) whole
      → Writes (nodes_plan k (view_nodes body) (view_vars inner)) rows new (Ok n)
      → ListSoFar old new (numbers ++ (n ∷ [])) (arm_plans k (view_arms (drop (i + 1) xs)) scope ++ (last ∷ [])) whole
  next_arm last xs x whole body inner small is b s h w =
      next_listed old rows new numbers n (nodes_plan k (view_nodes (code_arm.out-Arm x).body)
      (narrowed (view_expr (code_arm.out-Arm x).when) scope))
      (arm_plans k (view_arms (drop (i + 1) xs)) scope ++ (last ∷ [])) whole
      (subst (λ (l : List Plan). ListSoFar old rows numbers l whole)
      (ap (λ (l : List code_arm.Arm). arm_plans k (view_arms l) scope ++ (last ∷ [])) (first_of xs i x small is)
      ∙ ap (λ (a : Expr × Nodes). arm_plans k (arm a.0 a.1 (view_arms (drop (i + 1) xs))) scope ++ (last ∷ []))
      (arm_is x)) h)
      (subst (λ (l : List code_node.Node). Writes (nodes_plan k (view_nodes l)
      (narrowed (view_expr (code_arm.out-Arm x).when) scope)) rows new (Ok n)) b
      (subst (λ (v : Scope). Writes (nodes_plan k (view_nodes body) v) rows new (Ok n)) s w))

  pub no_arm_left : (last : Plan) (xs : List code_arm.Arm) (whole : List Way) → length xs ≤ i
      → ListSoFar old rows numbers (arm_plans k (view_arms (drop i xs)) scope ++ (last ∷ [])) whole
      → ListSoFar old rows numbers (last ∷ []) whole
  no_arm_left last xs whole h l =
      subst (λ (ys : List code_arm.Arm). ListSoFar old rows numbers (arm_plans k (view_arms ys) scope ++ (last ∷ []))
      whole)
      (none_of xs i h) l

  -- cases of a switch
  pub next_case : (last : Plan) (xs : List code_case.Case) (x : code_case.Case) (whole : List Way)
      (body : List code_node.Node)
      (inner : List Field) → i < length xs → x ≡ slice_index_or xs i x → body ≡ (code_case.out-Case x).body
      → view_vars inner ≡ scope
      → ListSoFar old rows numbers (case_plans k (view_cases (drop i xs)) scope ++ (last ∷ [])) whole
      → Writes (nodes_plan k (view_nodes body) (view_vars inner)) rows new (Ok n)
      → ListSoFar old new (numbers ++ (n ∷ [])) (case_plans k (view_cases (drop (i + 1) xs)) scope ++ (last ∷ [])) whole
  next_case last xs x whole body inner small is b s h w =
      next_listed old rows new numbers n (nodes_plan k (view_nodes (code_case.out-Case x).body) scope)
      (case_plans k (view_cases (drop (i + 1) xs)) scope ++ (last ∷ [])) whole
      (subst (λ (l : List Plan). ListSoFar old rows numbers l whole)
      (ap (λ (l : List code_case.Case). case_plans k (view_cases l) scope ++ (last ∷ [])) (first_of xs i x small is)
      ∙ ap (λ (a : List Expr × Nodes). case_plans k (case a.0 a.1 (view_cases (drop (i + 1) xs))) scope ++ (last ∷ []))
      (case_is x)) h)
      (subst (λ (l : List code_node.Node). Writes (nodes_plan k (view_nodes l) scope) rows new (Ok n)) b
      (subst (λ (v : Scope). Writes (nodes_plan k (view_nodes body) v) rows new (Ok n)) s w))

  pub no_case_left : (last : Plan) (xs : List code_case.Case) (whole : List Way) → length xs ≤ i
      → ListSoFar old rows numbers (case_plans k (view_cases (drop i xs)) scope ++ (last ∷ [])) whole
      → ListSoFar old rows numbers (last ∷ []) whole
  no_case_left last xs whole h l =
      subst (λ (ys : List code_case.Case). ListSoFar old rows numbers
      (case_plans k (view_cases ys) scope ++ (last ∷ [])) whole)
      (none_of xs i h) l

  -- cases of a plural
  pub next_plural : (at : Site) (last : Plan) (xs : List code_plural_case.PluralCase) (x : code_plural_case.PluralCase)
      (whole : List Way) → i < length xs
      → x ≡ slice_index_or xs i x
      → ListSoFar old rows numbers (plural_plans k (view_plural_cases (drop i xs)) scope at ++ (last ∷ [])) whole
      → Writes (body_plan k (view_body x.body) scope at) rows new (Ok n)
      → ListSoFar old new (numbers ++ (n ∷ [])) (plural_plans k (view_plural_cases (drop (i + 1) xs)) scope at
      ++ (last ∷ [])) whole
  next_plural at last xs x whole small is h w =
      next_listed old rows new numbers n (body_plan k (view_body x.body) scope at)
      (plural_plans k (view_plural_cases (drop (i + 1) xs)) scope at ++ (last ∷ [])) whole
      (subst (λ (l : List Plan). ListSoFar old rows numbers l whole)
      (ap (λ (l : List code_plural_case.PluralCase). plural_plans k (view_plural_cases l) scope at ++ (last ∷ []))
      (first_of xs i x small is)
      ∙ ap (λ (a : ℤ × MessageBody). plural_plans k (plural_case a.0 a.1 (view_plural_cases (drop (i + 1) xs))) scope at
      ++ (last ∷ [])) (plural_case_is x)) h)
      w

  pub no_plural_left : (at : Site) (last : Plan) (xs : List code_plural_case.PluralCase) (whole : List Way)
      → length xs ≤ i
      → ListSoFar old rows numbers (plural_plans k (view_plural_cases (drop i xs)) scope at ++ (last ∷ [])) whole
      → ListSoFar old rows numbers (last ∷ []) whole
  no_plural_left at last xs whole h l =
      subst (λ (ys : List code_plural_case.PluralCase). ListSoFar old rows numbers
      (plural_plans k (view_plural_cases ys) scope at ++ (last ∷ [])) whole)
      (none_of xs i h) l

  -- cases of a select
  pub next_select : (at : Site) (last : Plan) (xs : List code_select_case.SelectCase) (x : code_select_case.SelectCase)
      (whole : List Way) → i < length xs
      → x ≡ slice_index_or xs i x
      → ListSoFar old rows numbers (select_plans k (view_select_cases (drop i xs)) scope at ++ (last ∷ [])) whole
      → Writes (body_plan k (view_body x.body) scope at) rows new (Ok n)
      → ListSoFar old new (numbers ++ (n ∷ [])) (select_plans k (view_select_cases (drop (i + 1) xs)) scope at
      ++ (last ∷ [])) whole
  next_select at last xs x whole small is h w =
      next_listed old rows new numbers n (body_plan k (view_body x.body) scope at)
      (select_plans k (view_select_cases (drop (i + 1) xs)) scope at ++ (last ∷ [])) whole
      (subst (λ (l : List Plan). ListSoFar old rows numbers l whole)
      (ap (λ (l : List code_select_case.SelectCase). select_plans k (view_select_cases l) scope at ++ (last ∷ []))
      (first_of xs i x small is)
      ∙ ap (λ (a : List ℕ × MessageBody). select_plans k (select_case a.0 a.1 (view_select_cases (drop (i + 1) xs)))
      scope at ++ (last ∷ [])) (select_case_is x)) h)
      w

  pub no_select_left : (at : Site) (last : Plan) (xs : List code_select_case.SelectCase) (whole : List Way)
      → length xs ≤ i
      → ListSoFar old rows numbers (select_plans k (view_select_cases (drop i xs)) scope at ++ (last ∷ [])) whole
      → ListSoFar old rows numbers (last ∷ []) whole
  no_select_left at last xs whole h l =
      subst (λ (ys : List code_select_case.SelectCase). ListSoFar old rows numbers
      (select_plans k (view_select_cases ys) scope at ++ (last ∷ [])) whole)
      (none_of xs i h) l

  -- params of a call
  pub next_argument : (xs : List code_argument.Argument) (x : code_argument.Argument) (whole : Plan) → i < length xs
      → x ≡ slice_index_or xs i x
      → InTurnSoFar old rows numbers (argument_frames k (view_arguments (drop i xs)) scope) whole
      → Writes (given_frame k (view_given x.given) x.span scope) rows new (Ok n)
      → InTurnSoFar old new (numbers ++ (n ∷ [])) (argument_frames k (view_arguments (drop (i + 1) xs)) scope) whole
  next_argument xs x whole small is h w =
      next_in_turn old rows new numbers n (given_frame k (view_given x.given) x.span scope)
      (argument_frames k (view_arguments (drop (i + 1) xs)) scope) whole
      (subst (λ (p : Plan). InTurnSoFar old rows numbers p whole)
      (ap (λ (l : List code_argument.Argument). argument_frames k (view_arguments l) scope) (first_of xs i x small is)
      ∙ ap (λ (a : Name × Given × Span). argument_frames k (argument a.0 a.1 a.2 (view_arguments (drop (i + 1) xs)))
      scope) (argument_is x)) h)
      w

  pub no_argument_left : (xs : List code_argument.Argument) (whole : Plan) (all : List ℕ)
      (result : Result ℕ OutOfMemory)
      → length xs ≤ i → all ≡ numbers
      → InTurnSoFar old rows numbers (argument_frames k (view_arguments (drop i xs)) scope) whole
      → OnOk result (new ≡ rows ++ (row.InTurn all ∷ [])) → IfOk result (λ j. j ≡ length rows)
      → Writes whole old new result
  no_argument_left xs whole all result h is l e j =
      written_in_turn old rows new all whole result
      (subst (λ (ns : List ℕ). InTurnSoFar old rows ns (argument_frames k (view_arguments []) scope) whole) (sym is)
      (subst (λ (ys : List code_argument.Argument). InTurnSoFar old rows numbers
      (argument_frames k (view_arguments ys) scope) whole)
      (none_of xs i h) l)) e j

  -- nodes
  pub next_node : (xs : List code_node.Node) (x : code_node.Node) (vars inner : List Field) (past : Scope)
      (whole : Plan)
      → i < length xs → x ≡ slice_index_or xs i x → view_vars vars ≡ scope → inner ≡ vars
      → past ≡ scope_past (view_node x) scope
      → InTurnSoFar old rows numbers (nodes_plan k (view_nodes (drop i xs)) scope) whole
      → Writes (node_plan k (view_node x) (view_vars inner)) rows new (Ok n)
      → InTurnSoFar old new (numbers ++ (n ∷ [])) (nodes_plan k (view_nodes (drop (i + 1) xs)) past) whole
  next_node xs x vars inner past whole small is v s p h w =
      subst (λ (z : Scope). InTurnSoFar old new (numbers ++ (n ∷ [])) (nodes_plan k (view_nodes (drop (i + 1) xs)) z)
      whole) (sym p)
      (next_in_turn old rows new numbers n (node_plan k (view_node x) scope)
      (nodes_plan k (view_nodes (drop (i + 1) xs)) (scope_past (view_node x) scope)) whole
      (subst (λ (l : List code_node.Node). InTurnSoFar old rows numbers (nodes_plan k (view_nodes l) scope) whole)
      (first_of xs i x small is) h)
      (subst (λ (z : Scope). Writes (node_plan k (view_node x) z) rows new (Ok n)) (ap view_vars s ∙ v) w))

  pub no_node_left : (xs : List code_node.Node) (whole : Plan) (all : List ℕ) (result : Result ℕ OutOfMemory)
      → length xs ≤ i → all ≡ numbers → InTurnSoFar old rows numbers (nodes_plan k (view_nodes (drop i xs)) scope) whole
      → OnOk result (new ≡ rows ++ (row.InTurn all ∷ [])) → IfOk result (λ j. j ≡ length rows)
      → Writes whole old new result
  no_node_left xs whole all result h is l e j =
      written_in_turn old rows new all whole result
      (subst (λ (ns : List ℕ). InTurnSoFar old rows ns (nodes_plan k (view_nodes []) scope) whole) (sym is)
      (subst (λ (ys : List code_node.Node). InTurnSoFar old rows numbers (nodes_plan k (view_nodes ys) scope) whole)
      (none_of xs i h) l)) e j
