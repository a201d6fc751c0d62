use Rattle.std.proofs.Common.{◌≡◌, ◌+◌, ◌*◌, ◌∷◌, [], ◌++◌, max, map, drop, length}
use denote.Param.Weighed.{most}
use Rattle.soy_tree.specs.ViewNodes.{view_arguments, view_arms, view_body, view_cases, view_nodes, view_plural_cases}
use Rattle.soy_tree.specs.ViewNodes.{view_select_cases}
use Rattle.soy_tree.specs.declared.node.Node.{size-Node}
use Rattle.soy_tree.specs.declared.node.Arm.{size-Arm}
use Rattle.soy_tree.specs.declared.node.Case.{size-Case}
use Rattle.soy_tree.specs.declared.node.Argument.{size-Argument}
use Rattle.soy_tree.specs.declared.node.MessageBody.{size-MessageBody}
use Rattle.soy_tree.specs.declared.node.PluralCase.{size-PluralCase}
use Rattle.soy_tree.specs.declared.node.SelectCase.{size-SelectCase}
use Rattle.soy_expr.specs.ViewScope.{view_vars}
use Rattle.soy_meaning.specs.Paths.Plan.{Then}
use Rattle.soy_meaning.specs.Paths.PlanOfNodes.{argument_frames, arm_plans, body_plan, case_plans, nodes_plan}
use Rattle.soy_meaning.specs.Paths.PlanOfNodes.{plural_plans}
use Rattle.soy_meaning.specs.Paths.PlanOfNodes.{select_plans}
use Rattle.soy_expr.specs.Grows.{Grows}
use Rattle.html_context.specs.RowPlans.{plan_at}
use Rattle.html_context.specs.StandsFor.{walk_of}
use Rattle.html_context.specs.ViewBuilder.{plan_context}
use Rattle.html_context.specs.Walks.{view_site}
use Rattle.html_context.proofs.WrittenLists.{InTurnSoFar, ListSoFar}
use Rattle.html_context.proofs.builder.Builder.+building.Given as goal

abbrev pub invariant-nodes-loop-node : goal.invariant-nodes-loop-node
invariant-nodes-loop-node l = record {
  so_far : InTurnSoFar l.initial.rows.items l.rows.items l.numbers.items
      (nodes_plan (plan_context l.self) (view_nodes (drop l.node-index l.nodes)) (view_vars l.vars))
      (nodes_plan (plan_context l.self) (view_nodes l.nodes) (view_vars l.initial.vars));
  grown : Grows l.initial.vars l.vars;
  count : l.count ≡ length l.initial.vars;
}

abbrev pub invariant-arms-loop-arm : goal.invariant-arms-loop-arm
invariant-arms-loop-arm l =
    let last = nodes_plan (plan_context l.self) (view_nodes l.other) (view_vars l.initial.vars) in record {
      so_far : ListSoFar l.initial.rows.items l.rows.items l.numbers.items
          (arm_plans (plan_context l.self) (view_arms (drop l.arm-index l.arms)) (view_vars l.initial.vars) ++ (last ∷ []))
          (map walk_of (arm_plans (plan_context l.self) (view_arms l.arms) (view_vars l.initial.vars) ++ (last ∷ [])));
      same : l.vars ≡ l.initial.vars;
    }

abbrev pub invariant-cases-loop-case : goal.invariant-cases-loop-case
invariant-cases-loop-case l =
    let last = nodes_plan (plan_context l.self) (view_nodes l.other) (view_vars l.initial.vars) in record {
      so_far : ListSoFar l.initial.rows.items l.rows.items l.numbers.items
          (case_plans (plan_context l.self) (view_cases (drop l.case-index l.cases)) (view_vars l.initial.vars) ++ (last ∷ []))
          (map walk_of (case_plans (plan_context l.self) (view_cases l.cases) (view_vars l.initial.vars) ++ (last ∷ [])));
      same : l.vars ≡ l.initial.vars;
    }

abbrev pub invariant-plural_cases-loop-case : goal.invariant-plural_cases-loop-case
invariant-plural_cases-loop-case l =
    let last = body_plan (plan_context l.self) (view_body l.other) (view_vars l.initial.vars) (view_site l.at) in record {
      so_far : ListSoFar l.initial.rows.items l.rows.items l.numbers.items
          (plural_plans (plan_context l.self) (view_plural_cases (drop l.case-index l.cases)) (view_vars l.initial.vars)
          (view_site l.at) ++ (last ∷ []))
          (map walk_of (plural_plans (plan_context l.self) (view_plural_cases l.cases) (view_vars l.initial.vars) (view_site l.at)
          ++ (last ∷ [])));
      same : l.vars ≡ l.initial.vars;
    }

abbrev pub invariant-select_cases-loop-case : goal.invariant-select_cases-loop-case
invariant-select_cases-loop-case l =
    let last = body_plan (plan_context l.self) (view_body l.other) (view_vars l.initial.vars) (view_site l.at) in record {
      so_far : ListSoFar l.initial.rows.items l.rows.items l.numbers.items
          (select_plans (plan_context l.self) (view_select_cases (drop l.case-index l.cases)) (view_vars l.initial.vars)
          (view_site l.at) ++ (last ∷ []))
          (map walk_of (select_plans (plan_context l.self) (view_select_cases l.cases) (view_vars l.initial.vars) (view_site l.at)
          ++ (last ∷ [])));
      same : l.vars ≡ l.initial.vars;
    }

abbrev pub invariant-arguments-loop-argument : goal.invariant-arguments-loop-argument
invariant-arguments-loop-argument l = record {
  so_far : InTurnSoFar l.initial.rows.items l.rows.items l.numbers.items
      (argument_frames (plan_context l.self) (view_arguments (drop l.argument-index l.arguments)) (view_vars l.initial.vars))
      (Then (plan_at l.initial.rows.items l.fn.hole) (argument_frames (plan_context l.self) (view_arguments l.arguments)
      (view_vars l.initial.vars)));
  same : l.vars ≡ l.initial.vars;
}

abbrev pub decreases-nodes : goal.decreases-nodes
decreases-nodes l = 8 * most size-Node l.nodes.now + 1

abbrev pub decreases-node : goal.decreases-node
decreases-node l = 8 * size-Node l.node.now

abbrev pub decreases-arms : goal.decreases-arms
decreases-arms l = 8 * max (most size-Arm l.arms.now) (most size-Node l.other.now) + 3

abbrev pub decreases-cases : goal.decreases-cases
decreases-cases l = 8 * max (most size-Case l.cases.now) (most size-Node l.other.now) + 3

abbrev pub decreases-arguments : goal.decreases-arguments
decreases-arguments l = 8 * most size-Argument l.arguments.now + 3

abbrev pub decreases-given : goal.decreases-given
decreases-given l = 8 * size-Argument l.argument.now + 2

abbrev pub decreases-body : goal.decreases-body
decreases-body l = 8 * size-MessageBody l.body.now + 3

abbrev pub decreases-plural_cases : goal.decreases-plural_cases
decreases-plural_cases l = 8 * max (most size-PluralCase l.cases.now) (size-MessageBody l.other.now) + 4

abbrev pub decreases-select_cases : goal.decreases-select_cases
decreases-select_cases l = 8 * max (most size-SelectCase l.cases.now) (size-MessageBody l.other.now) + 4
