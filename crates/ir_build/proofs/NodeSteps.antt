-- Lists of nodes, arms and cases, compiled item by item.
use Rattle.std.proofs.Common.{◌≡◌, ℕ, ◌+◌, ◌<◌, ◌≤◌, List, [], ◌∷◌, ◌++◌, drop, length, slice_index_or, refl, sym, ap}
use Rattle.std.proofs.Common.{subst}
use Rattle.soy_base.specs.declared.fault.Span.{Span}
use Rattle.soy_tree.specs.declared.node.Argument as code_argument
use Rattle.soy_tree.specs.declared.node.Arm as code_arm
use Rattle.soy_tree.specs.declared.node.Case as code_case
use Rattle.soy_tree.specs.declared.node.MessageBody as code_body
use Rattle.soy_tree.specs.declared.node.Node as code
use Rattle.soy_tree.specs.declared.node.PluralCase as code_plural_case
use Rattle.soy_tree.specs.declared.node.SelectCase as code_select_case
use Rattle.soy_tree.specs.declared.expr.Expr as code_expr
use Rattle.soy_tree.specs.Nodes.{Arguments, Arms, Cases, Given, MessageBody, Nodes, PluralCases, SelectCases, argument}
use Rattle.soy_tree.specs.Nodes.{arm, case, plural_case, select_case}
use Rattle.soy_tree.specs.Types.{Name}
use Rattle.soy_tree.specs.ViewExpressions.{view_expr, view_exprs}
use Rattle.soy_tree.specs.ViewNodes.{view_argument, view_arguments, view_arms, view_body, view_cases, view_node}
use Rattle.soy_tree.specs.ViewNodes.{view_nodes, view_plural_cases, view_select_cases}
use Rattle.template_ir.specs.HoleCounts.{argument_holes, arm_holes, body_holes, case_holes, given_holes, node_holes}
use Rattle.template_ir.specs.HoleCounts.{nodes_holes, plural_holes, select_holes}
use Rattle.template_ir.specs.Ops.{Branch, Choice, Handed, Op}
use Rattle.template_ir.specs.declared.op.ExactBlock.{ExactBlock}
use Rattle.template_ir.specs.declared.op.WordBlock.{WordBlock}
use Rattle.ir_build.specs.Claims.{arms_stand, block_stands, body_stands, cases_stand, given_stand, node_stands}
use Rattle.ir_build.specs.Claims.{nodes_stand, plural_cases_stand, select_cases_stand}
use Rattle.ir_build.specs.Gives.{Gives, given_stands}
use Rattle.ir_build.specs.Laid.{Lays, Made, Pushes, laid_block, with_ops}
use Rattle.ir_build.specs.OnGoing.{PushesOn, RowsOn}
use Rattle.ir_build.specs.Rows.{branch, choice, exact_block, handed_as, word_block}
use Rattle.ir_build.specs.ViewScene.{translation_in}
use Rattle.ir_build.specs.declared.scene.Scene.{Scene}
use Rattle.ir_build.proofs.Laying.{lays_as, lays_both, pushes_block, pushes_both, pushes_none}
use Rattle.ir_build.proofs.Loops.{rows_begin, rows_end, rows_step}
use Rattle.ir_build.proofs.OpLists.{drop_all}
use Rattle.ir_build.proofs.Views.{argument_next, arm_next, case_next, node_next, plural_case_next, select_case_next}

-- ---- what each loop keeps

abbrev pub NodesOn : Scene → List code.Node → ℕ → Made → Made → List Op → List Op → Type 0
NodesOn s xs i first now own_first own_now =
    PushesOn (nodes_stand s (view_nodes (drop i xs))) (nodes_holes (translation_in s) (view_nodes (drop i xs)))
    (nodes_stand s (view_nodes xs)) (nodes_holes (translation_in s) (view_nodes xs)) first now own_first own_now

abbrev pub ArmsOn : Scene → List code_arm.Arm → ℕ → Made → Made → List Branch → Type 0
ArmsOn s xs i first now done =
    RowsOn (arms_stand s (view_arms (drop i xs))) (arm_holes (translation_in s) (view_arms (drop i xs)))
    (arms_stand s (view_arms xs)) (arm_holes (translation_in s) (view_arms xs)) first now done

abbrev pub CasesOn : Scene → List code_case.Case → ℕ → Made → Made → List Choice → Type 0
CasesOn s xs i first now done =
    RowsOn (cases_stand s (view_cases (drop i xs))) (case_holes (translation_in s) (view_cases (drop i xs)))
    (cases_stand s (view_cases xs)) (case_holes (translation_in s) (view_cases xs)) first now done

abbrev pub GivenOn : Scene → List code_argument.Argument → ℕ → Made → Made → List Handed → Type 0
GivenOn s xs i first now done =
    RowsOn (given_stand s (view_arguments (drop i xs))) (argument_holes (translation_in s) (view_arguments (drop i xs)))
    (given_stand s (view_arguments xs)) (argument_holes (translation_in s) (view_arguments xs)) first now done

abbrev pub PluralCasesOn : Scene → List code_plural_case.PluralCase → ℕ → Made → Made → List ExactBlock → Type 0
PluralCasesOn s xs i first now done =
    RowsOn (plural_cases_stand s (view_plural_cases (drop i xs)))
    (plural_holes (translation_in s) (view_plural_cases (drop i xs))) (plural_cases_stand s (view_plural_cases xs))
    (plural_holes (translation_in s) (view_plural_cases xs)) first now done

abbrev pub SelectCasesOn : Scene → List code_select_case.SelectCase → ℕ → Made → Made → List WordBlock → Type 0
SelectCasesOn s xs i first now done =
    RowsOn (select_cases_stand s (view_select_cases (drop i xs)))
    (select_holes (translation_in s) (view_select_cases (drop i xs))) (select_cases_stand s (view_select_cases xs))
    (select_holes (translation_in s) (view_select_cases xs)) first now done

-- ---- nodes

pub nodes_begin : (s : Scene) (xs : List code.Node) (m : Made) (own : List Op) → NodesOn s xs 0 m m own own
nodes_begin s xs m own = λ later own_later p. p

pub nodes_step : (s : Scene) (xs : List code.Node) (i : ℕ) (x : code.Node) (first now next : Made)
    (own_first own_now own_next : List Op) → i < length xs → x ≡ slice_index_or xs i x
    → Pushes (node_stands s (view_node x)) (node_holes (translation_in s) (view_node x)) now next own_now own_next
    → NodesOn s xs i first now own_first own_now → NodesOn s xs (i + 1) first next own_first own_next
nodes_step s xs i x first now next own_first own_now own_next below is p on =
    let rest : Nodes = view_nodes (drop (i + 1) xs) in
    λ later own_later q. on later own_later
    (subst (λ (ns : Nodes). Pushes (nodes_stand s ns) (nodes_holes (translation_in s) ns) now later own_now own_later)
    (sym (node_next xs i x below is))
    (pushes_both (node_stands s (view_node x)) (nodes_stand s rest) (node_holes (translation_in s) (view_node x))
    (nodes_holes (translation_in s) rest) now next later own_now own_next own_later p q))

pub nodes_end : (s : Scene) (xs rest : List code.Node) (first now : Made) (own_first own_now : List Op) → rest ≡ []
    → PushesOn (nodes_stand s (view_nodes rest)) (nodes_holes (translation_in s) (view_nodes rest))
    (nodes_stand s (view_nodes xs)) (nodes_holes (translation_in s) (view_nodes xs)) first now own_first own_now
    → Pushes (nodes_stand s (view_nodes xs)) (nodes_holes (translation_in s) (view_nodes xs)) first now own_first
    own_now
nodes_end s xs rest first now own_first own_now nil on =
    on now own_now
    (subst (λ (r : List code.Node). Pushes (nodes_stand s (view_nodes r)) (nodes_holes (translation_in s)
    (view_nodes r)) now now own_now own_now) (sym nil)
    (pushes_none (nodes_stand s (view_nodes [])) now own_now (λ all at. refl)))

-- ---- arms, cases and params

module _ (s : Scene) where
  body_block : (items body : List code.Node) (a b d : Made) (none inner : List Op) → items ≡ body → none ≡ []
      → Pushes (nodes_stand s (view_nodes items)) (nodes_holes (translation_in s) (view_nodes items)) a b none inner
      → d ≡ with_ops b inner
      → Lays (block_stands (nodes_stand s (view_nodes body)) (laid_block b inner))
      (nodes_holes (translation_in s) (view_nodes body)) a d
  body_block items body a b d none inner it nil p made =
      pushes_block (nodes_stand s (view_nodes body)) (nodes_holes (translation_in s) (view_nodes body)) a b d none inner
      nil
      (subst (λ (x : List code.Node). Pushes (nodes_stand s (view_nodes x)) (nodes_holes (translation_in s) (view_nodes
      x)) a b none inner) it p) made

  source_block : (b0 : code_body.MessageBody) (body : code_body.MessageBody) (a b d : Made) (none inner : List Op)
      → b0 ≡ body → none ≡ []
      → Pushes (body_stands s (view_body b0)) (body_holes (translation_in s) (view_body b0)) a b none inner
      → d ≡ with_ops b inner
      → Lays (block_stands (body_stands s (view_body body)) (laid_block b inner))
      (body_holes (translation_in s) (view_body body)) a d
  source_block b0 body a b d none inner it nil p made =
      pushes_block (body_stands s (view_body body)) (body_holes (translation_in s) (view_body body)) a b d none inner
      nil (subst (λ (x : code_body.MessageBody). Pushes (body_stands s (view_body x)) (body_holes (translation_in s)
      (view_body x)) a b none inner) it p) made

  pub arms_step : (xs : List code_arm.Arm) (i : ℕ) (x : code_arm.Arm) (items : List code.Node)
      (first now mid next : Made) (none inner : List Op) (done done_next : List Branch) → i < length xs
      → x ≡ slice_index_or xs i x → items ≡ (code_arm.out-Arm x).body → none ≡ []
      → Pushes (nodes_stand s (view_nodes items)) (nodes_holes (translation_in s) (view_nodes items)) now mid none inner
      → next ≡ with_ops mid inner
      → done_next ≡ done ++ (branch (view_expr (code_arm.out-Arm x).when) (laid_block mid inner) ∷ [])
      → ArmsOn s xs i first now done → ArmsOn s xs (i + 1) first next done_next
  arms_step xs i x items first now mid next none inner done done_next below is it nil p made e on =
      let rest : Arms = view_arms (drop (i + 1) xs) in
      let body : Nodes = view_nodes (code_arm.out-Arm x).body in
      rows_step (arms_stand s (view_arms (drop i xs))) (arms_stand s rest) (arms_stand s (view_arms xs))
      (arm_holes (translation_in s) (view_arms (drop i xs))) (arm_holes (translation_in s) rest)
      (arm_holes (translation_in s) (view_arms xs)) first now next done done_next
      (branch (view_expr (code_arm.out-Arm x).when) (laid_block mid inner)) e
      (λ later more l. subst (λ (v : Arms). Lays (arms_stand s v (branch (view_expr (code_arm.out-Arm x).when)
      (laid_block mid inner) ∷ more)) (arm_holes (translation_in s) v) now later) (sym (arm_next xs i x below is))
      (lays_as _ (arms_stand s (arm (view_expr (code_arm.out-Arm x).when) body rest)
      (branch (view_expr (code_arm.out-Arm x).when) (laid_block mid inner) ∷
      more)) (nodes_holes (translation_in s) body + arm_holes (translation_in s) rest) _ now later refl
      (λ hole all before y. (refl, y.0.0, y.0.1, y.1))
      (lays_both (block_stands (nodes_stand s body) (laid_block mid inner)) (arms_stand s rest more)
      (nodes_holes (translation_in s) body) (arm_holes (translation_in s) rest) now next later
      (body_block items (code_arm.out-Arm x).body now mid next none inner it nil p made) l))) on

  pub cases_step : (xs : List code_case.Case) (i : ℕ) (x : code_case.Case) (items : List code.Node)
      (values : List code_expr.Expr) (first now mid next : Made) (none inner : List Op) (done done_next : List Choice)
      → i < length xs → x ≡ slice_index_or xs i x → items ≡ (code_case.out-Case x).body
      → values ≡ (code_case.out-Case x).values → none ≡ []
      → Pushes (nodes_stand s (view_nodes items)) (nodes_holes (translation_in s) (view_nodes items)) now mid none inner
      → next ≡ with_ops mid inner
      → done_next ≡ done ++ (choice (view_exprs values) (laid_block mid inner) ∷ [])
      → CasesOn s xs i first now done → CasesOn s xs (i + 1) first next done_next
  cases_step xs i x items values first now mid next none inner done done_next below is it values_are nil p made e on =
      let rest : Cases = view_cases (drop (i + 1) xs) in
      let body : Nodes = view_nodes (code_case.out-Case x).body in
      rows_step (cases_stand s (view_cases (drop i xs))) (cases_stand s rest) (cases_stand s (view_cases xs))
      (case_holes (translation_in s) (view_cases (drop i xs))) (case_holes (translation_in s) rest)
      (case_holes (translation_in s) (view_cases xs)) first now next done done_next
      (choice (view_exprs values) (laid_block mid inner)) e
      (λ later more l. subst (λ (v : Cases). Lays (cases_stand s v (choice (view_exprs values) (laid_block mid inner) ∷
      more)) (case_holes (translation_in s) v) now later) (sym (case_next xs i x below is))
      (lays_as _ (cases_stand s (case (view_exprs (code_case.out-Case x).values) body rest) (choice (view_exprs values)
      (laid_block mid inner) ∷ more)) (nodes_holes (translation_in s) body + case_holes (translation_in s) rest) _ now
      later refl (λ hole all before y. (ap view_exprs values_are, y.0.0, y.0.1, y.1))
      (lays_both (block_stands (nodes_stand s body) (laid_block mid inner)) (cases_stand s rest more)
      (nodes_holes (translation_in s) body) (case_holes (translation_in s) rest) now next later
      (body_block items (code_case.out-Case x).body now mid next none inner it nil p made) l))) on

  pub given_step : (xs : List code_argument.Argument) (i : ℕ) (x : code_argument.Argument) (first now next : Made)
      (done done_next : List Handed) → i < length xs → x ≡ slice_index_or xs i x
      → Gives s (view_argument x) now next done done_next
      → GivenOn s xs i first now done → GivenOn s xs (i + 1) first next done_next
  given_step xs i x first now next done done_next below is g on =
      let rest : Arguments = view_arguments (drop (i + 1) xs) in
      let v : Name × Given × Span = view_argument x in
      rows_step (given_stand s (view_arguments (drop i xs))) (given_stand s rest) (given_stand s (view_arguments xs))
      (argument_holes (translation_in s) (view_arguments (drop i xs))) (argument_holes (translation_in s) rest)
      (argument_holes (translation_in s) (view_arguments xs)) first now next done done_next
      (handed_as (view_argument x).0 g.by) g.adds
      (λ later more l. subst (λ (w : Arguments). Lays (given_stand s w (handed_as (view_argument x).0 g.by ∷ more))
      (argument_holes (translation_in s) w) now later) (sym (argument_next xs i x below is))
      (lays_as _ (given_stand s (argument (view_argument x).0 (view_argument x).1 (view_argument x).2 rest)
      (handed_as (view_argument x).0 g.by ∷ more))
      (given_holes (translation_in s) (view_argument x).1 + argument_holes (translation_in s) rest) _ now later refl
      (λ hole all before y. (refl, y.0, y.1))
      (lays_both (given_stands s (view_argument x).1 g.by) (given_stand s rest more)
      (given_holes (translation_in s) (view_argument x).1) (argument_holes (translation_in s) rest) now next later
      g.lays l))) on

  pub plural_cases_step : (xs : List code_plural_case.PluralCase) (i : ℕ) (x : code_plural_case.PluralCase)
      (first now mid next : Made) (none inner : List Op) (done done_next : List ExactBlock) → i < length xs
      → x ≡ slice_index_or xs i x → none ≡ []
      → Pushes (body_stands s (view_body x.body)) (body_holes (translation_in s) (view_body x.body)) now mid none inner
      → next ≡ with_ops mid inner → done_next ≡ done ++ (exact_block x.is (laid_block mid inner) ∷ [])
      → PluralCasesOn s xs i first now done → PluralCasesOn s xs (i + 1) first next done_next
  plural_cases_step xs i x first now mid next none inner done done_next below is nil p made e on =
      let rest : PluralCases = view_plural_cases (drop (i + 1) xs) in
      let body : MessageBody = view_body x.body in
      rows_step (plural_cases_stand s (view_plural_cases (drop i xs))) (plural_cases_stand s rest)
      (plural_cases_stand s (view_plural_cases xs)) (plural_holes (translation_in s) (view_plural_cases (drop i xs)))
      (plural_holes (translation_in s) rest) (plural_holes (translation_in s) (view_plural_cases xs)) first now next
      done done_next (exact_block x.is (laid_block mid inner)) e
      (λ later more l. subst (λ (v : PluralCases). Lays (plural_cases_stand s v (exact_block x.is (laid_block mid inner)
      ∷ more)) (plural_holes (translation_in s) v) now later) (sym (plural_case_next xs i x below is))
      (lays_as _ (plural_cases_stand s (plural_case x.is body rest) (exact_block x.is (laid_block mid inner) ∷ more))
      (body_holes (translation_in s) body + plural_holes (translation_in s) rest) _ now later refl
      (λ hole all before y. (refl, y.0.0, y.0.1, y.1))
      (lays_both (block_stands (body_stands s body) (laid_block mid inner)) (plural_cases_stand s rest more)
      (body_holes (translation_in s) body) (plural_holes (translation_in s) rest) now next later
      (source_block x.body x.body now mid next none inner refl nil p made) l))) on

  pub select_cases_step : (xs : List code_select_case.SelectCase) (i : ℕ) (x : code_select_case.SelectCase)
      (first now mid next : Made) (none inner : List Op) (done done_next : List WordBlock) → i < length xs
      → x ≡ slice_index_or xs i x → none ≡ []
      → Pushes (body_stands s (view_body x.body)) (body_holes (translation_in s) (view_body x.body)) now mid none inner
      → next ≡ with_ops mid inner → done_next ≡ done ++ (word_block x.is (laid_block mid inner) ∷ [])
      → SelectCasesOn s xs i first now done → SelectCasesOn s xs (i + 1) first next done_next
  select_cases_step xs i x first now mid next none inner done done_next below is nil p made e on =
      let rest : SelectCases = view_select_cases (drop (i + 1) xs) in
      let body : MessageBody = view_body x.body in
      rows_step (select_cases_stand s (view_select_cases (drop i xs))) (select_cases_stand s rest)
      (select_cases_stand s (view_select_cases xs)) (select_holes (translation_in s) (view_select_cases (drop i xs)))
      (select_holes (translation_in s) rest) (select_holes (translation_in s) (view_select_cases xs)) first now next
      done done_next (word_block x.is (laid_block mid inner)) e
      (λ later more l. subst (λ (v : SelectCases). Lays (select_cases_stand s v (word_block x.is (laid_block mid inner)
      ∷ more)) (select_holes (translation_in s) v) now later) (sym (select_case_next xs i x below is))
      (lays_as _ (select_cases_stand s (select_case x.is body rest) (word_block x.is (laid_block mid inner) ∷ more))
      (body_holes (translation_in s) body + select_holes (translation_in s) rest) _ now later refl
      (λ hole all before y. (refl, y.0.0, y.0.1, y.1))
      (lays_both (block_stands (body_stands s body) (laid_block mid inner)) (select_cases_stand s rest more)
      (body_holes (translation_in s) body) (select_holes (translation_in s) rest) now next later
      (source_block x.body x.body now mid next none inner refl nil p made) l))) on

  pub arms_begin : (xs : List code_arm.Arm) (m : Made) (done : List Branch) → done ≡ [] → ArmsOn s xs 0 m m done
  arms_begin xs m done nil =
      rows_begin (arms_stand s (view_arms xs)) (arm_holes (translation_in s) (view_arms xs)) m done nil

  pub arms_end : (xs : List code_arm.Arm) (i : ℕ) (first now : Made) (done : List Branch) → length xs ≤ i
      → ArmsOn s xs i first now done
      → Lays (arms_stand s (view_arms xs) done) (arm_holes (translation_in s) (view_arms xs)) first now
  arms_end xs i first now done long on =
      rows_end (arms_stand s (view_arms [])) (arms_stand s (view_arms xs)) 0 (arm_holes (translation_in s)
      (view_arms xs)) first now done refl (λ all before. tt)
      (subst (λ (ys : List code_arm.Arm). RowsOn (arms_stand s (view_arms ys)) (arm_holes (translation_in s)
      (view_arms ys)) (arms_stand s (view_arms xs)) (arm_holes (translation_in s) (view_arms xs)) first now done)
      (drop_all xs i long) on)

  pub cases_begin : (xs : List code_case.Case) (m : Made) (done : List Choice) → done ≡ [] → CasesOn s xs 0 m m done
  cases_begin xs m done nil =
      rows_begin (cases_stand s (view_cases xs)) (case_holes (translation_in s) (view_cases xs)) m done nil

  pub cases_end : (xs : List code_case.Case) (i : ℕ) (first now : Made) (done : List Choice) → length xs ≤ i
      → CasesOn s xs i first now done
      → Lays (cases_stand s (view_cases xs) done) (case_holes (translation_in s) (view_cases xs)) first now
  cases_end xs i first now done long on =
      rows_end (cases_stand s (view_cases [])) (cases_stand s (view_cases xs)) 0 (case_holes (translation_in s)
      (view_cases xs)) first now done refl (λ all before. tt)
      (subst (λ (ys : List code_case.Case). RowsOn (cases_stand s (view_cases ys)) (case_holes (translation_in s)
      (view_cases ys)) (cases_stand s (view_cases xs)) (case_holes (translation_in s) (view_cases xs)) first now done)
      (drop_all xs i long) on)

  pub given_begin : (xs : List code_argument.Argument) (m : Made) (done : List Handed) → done ≡ [] → GivenOn s xs 0 m m
      done
  given_begin xs m done nil =
      rows_begin (given_stand s (view_arguments xs)) (argument_holes (translation_in s) (view_arguments xs)) m done nil

  pub given_end : (xs : List code_argument.Argument) (i : ℕ) (first now : Made) (done : List Handed) → length xs ≤ i
      → GivenOn s xs i first now done
      → Lays (given_stand s (view_arguments xs) done) (argument_holes (translation_in s) (view_arguments xs)) first now
  given_end xs i first now done long on =
      rows_end (given_stand s (view_arguments [])) (given_stand s (view_arguments xs)) 0
      (argument_holes (translation_in s) (view_arguments xs)) first now done
      refl (λ all before. refl)
      (subst (λ (ys : List code_argument.Argument). RowsOn (given_stand s (view_arguments ys))
      (argument_holes (translation_in s) (view_arguments ys))
      (given_stand s (view_arguments xs)) (argument_holes (translation_in s) (view_arguments xs)) first now done)
      (drop_all xs i long) on)

  pub plural_cases_begin : (xs : List code_plural_case.PluralCase) (m : Made) (done : List ExactBlock) → done ≡ []
      → PluralCasesOn s xs 0 m m done
  plural_cases_begin xs m done nil =
      rows_begin (plural_cases_stand s (view_plural_cases xs)) (plural_holes (translation_in s) (view_plural_cases xs))
      m done nil

  pub plural_cases_end : (xs : List code_plural_case.PluralCase) (i : ℕ) (first now : Made) (done : List ExactBlock)
      → length xs ≤ i
      → PluralCasesOn s xs i first now done
      → Lays (plural_cases_stand s (view_plural_cases xs) done) (plural_holes (translation_in s) (view_plural_cases xs))
      first now
  plural_cases_end xs i first now done long on =
      rows_end (plural_cases_stand s (view_plural_cases [])) (plural_cases_stand s (view_plural_cases xs)) 0
      (plural_holes (translation_in s) (view_plural_cases xs)) first now done
      refl (λ all before. tt)
      (subst (λ (ys : List code_plural_case.PluralCase). RowsOn (plural_cases_stand s (view_plural_cases ys))
      (plural_holes (translation_in s) (view_plural_cases ys))
      (plural_cases_stand s (view_plural_cases xs)) (plural_holes (translation_in s) (view_plural_cases xs)) first now
      done) (drop_all xs i long) on)

  pub select_cases_begin : (xs : List code_select_case.SelectCase) (m : Made) (done : List WordBlock) → done ≡ []
      → SelectCasesOn s xs 0 m m done
  select_cases_begin xs m done nil =
      rows_begin (select_cases_stand s (view_select_cases xs)) (select_holes (translation_in s) (view_select_cases xs))
      m done nil

  pub select_cases_end : (xs : List code_select_case.SelectCase) (i : ℕ) (first now : Made) (done : List WordBlock)
      → length xs ≤ i
      → SelectCasesOn s xs i first now done
      → Lays (select_cases_stand s (view_select_cases xs) done) (select_holes (translation_in s) (view_select_cases xs))
      first now
  select_cases_end xs i first now done long on =
      rows_end (select_cases_stand s (view_select_cases [])) (select_cases_stand s (view_select_cases xs)) 0
      (select_holes (translation_in s) (view_select_cases xs)) first now done
      refl (λ all before. tt)
      (subst (λ (ys : List code_select_case.SelectCase). RowsOn (select_cases_stand s (view_select_cases ys))
      (select_holes (translation_in s) (view_select_cases ys))
      (select_cases_stand s (view_select_cases xs)) (select_holes (translation_in s) (view_select_cases xs)) first now
      done) (drop_all xs i long) on)
