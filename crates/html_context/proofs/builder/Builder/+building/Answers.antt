use Rattle.std.proofs.Common.{◌≡◌, List, [], ◌∷◌, ◌++◌, Ok, map, option_map, refl, ap, sym, subst, ◌∙◌}
use Rattle.soy_tree.specs.ViewNodes.{view_arguments, view_arms, view_body, view_cases, view_nodes, view_plural_cases}
use Rattle.soy_rules.specs.Narrowing.{narrowed}
use Rattle.soy_tree.specs.ViewExpressions.{view_expr}
use Rattle.soy_tree.specs.ViewNodes.{fallback_of, view_given, view_message, view_node, view_select_cases}
use Rattle.soy_tree.specs.declared.node.Arm as code_arm
use Rattle.soy_tree.specs.declared.node.Form.TheVariants as form
use Rattle.soy_tree.specs.declared.soy_type.Field.{Field}
use Rattle.soy_expr.specs.ViewScope.{view_vars}
use Rattle.soy_meaning.specs.Paths.Plan.{Then, arms_meet}
use Rattle.soy_meaning.specs.Paths.PlanOfNodes.{argument_frames, arm_plans, body_plan, case_plans, nodes_plan}
use Rattle.soy_meaning.specs.Paths.PlanOfNodes.{plural_plans}
use Rattle.soy_meaning.specs.Paths.PlanOfNodes.{fallback_plans, given_frame, scope_past, select_plans}
use Rattle.soy_meaning.specs.Paths.PlanOfNodes.{translation_plans}
use Rattle.soy_expr.specs.Grows.{Grows}
use Rattle.soy_expr.specs.PutBack.{put_back}
use Rattle.soy_expr.proofs.Growth.{grown_further}
use Rattle.html_context.specs.RowPlans.{plan_at}
use Rattle.html_context.specs.StandsFor.{Writes, walk_of}
use Rattle.html_context.specs.ViewBuilder.{plan_context}
use Rattle.html_context.specs.Walks.{view_site}
use Rattle.html_context.proofs.BuiltLists.{last_meets, next_argument, next_arm, next_case, next_node, next_plural}
use Rattle.html_context.proofs.BuiltLists.{next_select}
use Rattle.html_context.proofs.BuiltLists.{no_argument_left, no_arm_left, no_case_left, no_node_left, no_plural_left}
use Rattle.html_context.proofs.BuiltLists.{no_select_left}
use Rattle.html_context.proofs.BuiltNodes.{given_block, node_call, node_for, node_let_block, node_message}
use Rattle.html_context.proofs.builder.Builder.+building.Goals as goal

pub arms-loop-arm-preserved : goal.arms-loop-arm-preserved
arms-loop-arm-preserved t c = record {
  so_far =
      rw c.in_ok-push.ensures.items
      (next_arm (plan_context c.args.self.now) (view_vars c.args.vars.now) c.args.rows.now.items c.loop-arm.rows.items
      c.nodes.new.rows.items c.loop-arm.numbers.items c.in_ok-number.number c.loop-arm.arm-index
      (nodes_plan (plan_context c.args.self.now) (view_nodes c.args.other.now) (view_vars c.args.vars.now))
      c.args.arms.now c.arm-item.result (map walk_of (arm_plans (plan_context c.args.self.now) (view_arms c.args.arms.now)
      (view_vars c.args.vars.now) ++ ((nodes_plan (plan_context c.args.self.now) (view_nodes c.args.other.now)
      (view_vars c.args.vars.now)) ∷ [])))
      c.items.result.now c.narrow_variables.new.vars c.loop-arm-test.true c.arm-item.is c.items.ensures
      (c.in_ok-narrow_variables.ensures.narrowed
      ∙ ap (λ vs. narrowed (view_expr (code_arm.out-Arm c.arm-item.result).when) (view_vars vs)) c.loop-arm.invariant.same)
      c.loop-arm.invariant.so_far c.in_ok-number.ensures.writes);
  same = c.restore.ensures
      ∙ ap (put_back c.narrow_variables.new.outside.items) c.in_ok-number.ensures.kept
      ∙ c.in_ok-narrow_variables.ensures.put_back
      ∙ ap (λ o. put_back o c.loop-arm.vars) c.new-outside.ensures.items ∙ c.loop-arm.invariant.same;
}

pub arms-returns-clause-writes : goal.arms-returns-clause-writes
arms-returns-clause-writes t c =
    last_meets c.args.at (arm_plans (plan_context c.args.self.now) (view_arms c.args.arms.now)
    (view_vars c.args.vars.now) ++ ((nodes_plan (plan_context c.args.self.now) (view_nodes c.args.other.now)
    (view_vars c.args.vars.now)) ∷ [])) (nodes_plan (plan_context c.args.self.now) (view_nodes c.args.other.now)
    (view_vars c.args.vars.now)) c.args.rows.now.items c.loop-arm.rows.items c.nodes-2.new.rows.items
    c.write.new.rows.items
    c.loop-arm.numbers.items c.new.result c.in_ok-past.past c.write.result
    (no_arm_left (plan_context c.args.self.now) (view_vars c.args.vars.now) c.args.rows.now.items c.loop-arm.rows.items
    c.loop-arm.rows.items c.loop-arm.numbers.items c.in_ok-past.past c.loop-arm.arm-index
    (nodes_plan (plan_context c.args.self.now) (view_nodes c.args.other.now) (view_vars c.args.vars.now))
    c.args.arms.now (map walk_of (arm_plans (plan_context c.args.self.now) (view_arms c.args.arms.now)
    (view_vars c.args.vars.now) ++ ((nodes_plan (plan_context c.args.self.now) (view_nodes c.args.other.now)
    (view_vars c.args.vars.now)) ∷ [])))
    c.loop-arm-test.false c.loop-arm.invariant.so_far)
    (subst (λ (l : List Field). Writes (nodes_plan (plan_context c.args.self.now) (view_nodes c.args.other.now)
    (view_vars l)) c.loop-arm.rows.items c.nodes-2.new.rows.items (Ok c.in_ok-past.past)) c.loop-arm.invariant.same
    c.in_ok-past.ensures.writes)
    (c.new.ensures ∙ c.in_ok-push-2.ensures.items) c.write.ensures.rows c.write.ensures.number

pub cases-loop-case-preserved : goal.cases-loop-case-preserved
cases-loop-case-preserved t c = record {
  so_far =
      rw c.in_ok-push.ensures.items
      (next_case (plan_context c.args.self.now) (view_vars c.args.vars.now) c.args.rows.now.items c.loop-case.rows.items
      c.nodes.new.rows.items c.loop-case.numbers.items c.in_ok-number.number c.loop-case.case-index
      (nodes_plan (plan_context c.args.self.now) (view_nodes c.args.other.now) (view_vars c.args.vars.now))
      c.args.cases.now c.case-item.result (map walk_of (case_plans (plan_context c.args.self.now)
      (view_cases c.args.cases.now) (view_vars c.args.vars.now) ++ ((nodes_plan (plan_context c.args.self.now)
      (view_nodes c.args.other.now) (view_vars c.args.vars.now)) ∷ [])))
      c.items.result.now c.loop-case.vars c.loop-case-test.true c.case-item.is c.items.ensures
      (ap view_vars c.loop-case.invariant.same)
      c.loop-case.invariant.so_far c.in_ok-number.ensures.writes);
  same = c.in_ok-number.ensures.kept ∙ c.loop-case.invariant.same;
}

pub cases-returns-clause-writes : goal.cases-returns-clause-writes
cases-returns-clause-writes t c =
    last_meets c.args.at (case_plans (plan_context c.args.self.now) (view_cases c.args.cases.now)
    (view_vars c.args.vars.now) ++ ((nodes_plan (plan_context c.args.self.now) (view_nodes c.args.other.now)
    (view_vars c.args.vars.now)) ∷ [])) (nodes_plan (plan_context c.args.self.now) (view_nodes c.args.other.now)
    (view_vars c.args.vars.now)) c.args.rows.now.items c.loop-case.rows.items c.nodes-2.new.rows.items
    c.write.new.rows.items
    c.loop-case.numbers.items c.new.result c.in_ok-past.past c.write.result
    (no_case_left (plan_context c.args.self.now) (view_vars c.args.vars.now) c.args.rows.now.items
    c.loop-case.rows.items c.loop-case.rows.items c.loop-case.numbers.items c.in_ok-past.past c.loop-case.case-index
    (nodes_plan (plan_context c.args.self.now) (view_nodes c.args.other.now) (view_vars c.args.vars.now))
    c.args.cases.now (map walk_of (case_plans (plan_context c.args.self.now) (view_cases c.args.cases.now)
    (view_vars c.args.vars.now) ++ ((nodes_plan (plan_context c.args.self.now) (view_nodes c.args.other.now)
    (view_vars c.args.vars.now)) ∷ [])))
    c.loop-case-test.false c.loop-case.invariant.so_far)
    (subst (λ (l : List Field). Writes (nodes_plan (plan_context c.args.self.now) (view_nodes c.args.other.now)
    (view_vars l)) c.loop-case.rows.items c.nodes-2.new.rows.items (Ok c.in_ok-past.past)) c.loop-case.invariant.same
    c.in_ok-past.ensures.writes)
    (c.new.ensures ∙ c.in_ok-push-2.ensures.items) c.write.ensures.rows c.write.ensures.number

pub plural_cases-loop-case-preserved : goal.plural_cases-loop-case-preserved
plural_cases-loop-case-preserved t c = record {
  so_far =
      rw c.in_ok-push.ensures.items
      (next_plural (plan_context c.args.self.now) (view_vars c.args.vars.now) c.args.rows.now.items c.loop-case.rows.items
      c.body.new.rows.items c.loop-case.numbers.items c.in_ok-number.number c.loop-case.case-index
      (view_site c.args.at) (body_plan (plan_context c.args.self.now) (view_body c.args.other.now)
      (view_vars c.args.vars.now) (view_site c.args.at)) c.args.cases.now c.case-item.result
      (map walk_of (plural_plans (plan_context c.args.self.now) (view_plural_cases c.args.cases.now)
      (view_vars c.args.vars.now) (view_site c.args.at) ++ ((body_plan (plan_context c.args.self.now)
      (view_body c.args.other.now) (view_vars c.args.vars.now) (view_site c.args.at)) ∷ [])))
      c.loop-case-test.true c.case-item.is c.loop-case.invariant.so_far
      (subst (λ (l : List Field). Writes (body_plan (plan_context c.args.self.now) (view_body c.case-item.result.body) (view_vars l)
      (view_site c.args.at)) c.loop-case.rows.items c.body.new.rows.items (Ok c.in_ok-number.number))
      c.loop-case.invariant.same c.in_ok-number.ensures.writes));
  same = c.in_ok-number.ensures.kept ∙ c.loop-case.invariant.same;
}

pub plural_cases-returns-clause-writes : goal.plural_cases-returns-clause-writes
plural_cases-returns-clause-writes t c =
    last_meets c.args.at (plural_plans (plan_context c.args.self.now) (view_plural_cases c.args.cases.now)
    (view_vars c.args.vars.now) (view_site c.args.at) ++ ((body_plan (plan_context c.args.self.now)
    (view_body c.args.other.now) (view_vars c.args.vars.now) (view_site c.args.at)) ∷ []))
    (body_plan (plan_context c.args.self.now) (view_body c.args.other.now) (view_vars c.args.vars.now)
    (view_site c.args.at)) c.args.rows.now.items c.loop-case.rows.items c.body-2.new.rows.items c.write.new.rows.items
    c.loop-case.numbers.items c.new.result c.in_ok-past.past c.write.result
    (no_plural_left (plan_context c.args.self.now) (view_vars c.args.vars.now) c.args.rows.now.items
    c.loop-case.rows.items c.loop-case.rows.items c.loop-case.numbers.items c.in_ok-past.past c.loop-case.case-index
    (view_site c.args.at) (body_plan (plan_context c.args.self.now) (view_body c.args.other.now)
    (view_vars c.args.vars.now) (view_site c.args.at)) c.args.cases.now
    (map walk_of (plural_plans (plan_context c.args.self.now) (view_plural_cases c.args.cases.now)
    (view_vars c.args.vars.now) (view_site c.args.at) ++ ((body_plan (plan_context c.args.self.now)
    (view_body c.args.other.now) (view_vars c.args.vars.now) (view_site c.args.at)) ∷ [])))
    c.loop-case-test.false c.loop-case.invariant.so_far)
    (subst (λ (l : List Field). Writes (body_plan (plan_context c.args.self.now) (view_body c.args.other.now) (view_vars l)
    (view_site c.args.at)) c.loop-case.rows.items c.body-2.new.rows.items (Ok c.in_ok-past.past))
    c.loop-case.invariant.same c.in_ok-past.ensures.writes)
    (c.new.ensures ∙ c.in_ok-push-2.ensures.items) c.write.ensures.rows c.write.ensures.number

pub select_cases-loop-case-preserved : goal.select_cases-loop-case-preserved
select_cases-loop-case-preserved t c = record {
  so_far =
      rw c.in_ok-push.ensures.items
      (next_select (plan_context c.args.self.now) (view_vars c.args.vars.now) c.args.rows.now.items c.loop-case.rows.items
      c.body.new.rows.items c.loop-case.numbers.items c.in_ok-number.number c.loop-case.case-index
      (view_site c.args.at) (body_plan (plan_context c.args.self.now) (view_body c.args.other.now)
      (view_vars c.args.vars.now) (view_site c.args.at)) c.args.cases.now c.case-item.result
      (map walk_of (select_plans (plan_context c.args.self.now) (view_select_cases c.args.cases.now)
      (view_vars c.args.vars.now) (view_site c.args.at) ++ ((body_plan (plan_context c.args.self.now)
      (view_body c.args.other.now) (view_vars c.args.vars.now) (view_site c.args.at)) ∷ [])))
      c.loop-case-test.true c.case-item.is c.loop-case.invariant.so_far
      (subst (λ (l : List Field). Writes (body_plan (plan_context c.args.self.now) (view_body c.case-item.result.body) (view_vars l)
      (view_site c.args.at)) c.loop-case.rows.items c.body.new.rows.items (Ok c.in_ok-number.number))
      c.loop-case.invariant.same c.in_ok-number.ensures.writes));
  same = c.in_ok-number.ensures.kept ∙ c.loop-case.invariant.same;
}

pub select_cases-returns-clause-writes : goal.select_cases-returns-clause-writes
select_cases-returns-clause-writes t c =
    last_meets c.args.at (select_plans (plan_context c.args.self.now) (view_select_cases c.args.cases.now)
    (view_vars c.args.vars.now) (view_site c.args.at) ++ ((body_plan (plan_context c.args.self.now)
    (view_body c.args.other.now) (view_vars c.args.vars.now) (view_site c.args.at)) ∷ []))
    (body_plan (plan_context c.args.self.now) (view_body c.args.other.now) (view_vars c.args.vars.now)
    (view_site c.args.at)) c.args.rows.now.items c.loop-case.rows.items c.body-2.new.rows.items c.write.new.rows.items
    c.loop-case.numbers.items c.new.result c.in_ok-past.past c.write.result
    (no_select_left (plan_context c.args.self.now) (view_vars c.args.vars.now) c.args.rows.now.items
    c.loop-case.rows.items c.loop-case.rows.items c.loop-case.numbers.items c.in_ok-past.past c.loop-case.case-index
    (view_site c.args.at) (body_plan (plan_context c.args.self.now) (view_body c.args.other.now)
    (view_vars c.args.vars.now) (view_site c.args.at)) c.args.cases.now
    (map walk_of (select_plans (plan_context c.args.self.now) (view_select_cases c.args.cases.now)
    (view_vars c.args.vars.now) (view_site c.args.at) ++ ((body_plan (plan_context c.args.self.now)
    (view_body c.args.other.now) (view_vars c.args.vars.now) (view_site c.args.at)) ∷ [])))
    c.loop-case-test.false c.loop-case.invariant.so_far)
    (subst (λ (l : List Field). Writes (body_plan (plan_context c.args.self.now) (view_body c.args.other.now) (view_vars l)
    (view_site c.args.at)) c.loop-case.rows.items c.body-2.new.rows.items (Ok c.in_ok-past.past))
    c.loop-case.invariant.same c.in_ok-past.ensures.writes)
    (c.new.ensures ∙ c.in_ok-push-2.ensures.items) c.write.ensures.rows c.write.ensures.number

pub arguments-loop-argument-preserved : goal.arguments-loop-argument-preserved
arguments-loop-argument-preserved t c = record {
  so_far =
      rw c.in_ok-push-2.ensures.items
      (next_argument (plan_context c.args.self.now) (view_vars c.args.vars.now) c.args.rows.now.items
      c.loop-argument.rows.items c.given.new.rows.items c.loop-argument.numbers.items c.in_ok-number.number
      c.loop-argument.argument-index
      c.args.arguments.now c.argument-item.result (Then (plan_at c.args.rows.now.items c.args.hole)
      (argument_frames (plan_context c.args.self.now) (view_arguments c.args.arguments.now) (view_vars c.args.vars.now)))
      c.loop-argument-test.true c.argument-item.is c.loop-argument.invariant.so_far
      (subst (λ (l : List Field). Writes (given_frame (plan_context c.args.self.now) (view_given c.argument-item.result.given)
      c.argument-item.result.span (view_vars l)) c.loop-argument.rows.items c.given.new.rows.items (Ok c.in_ok-number.number))
      c.loop-argument.invariant.same c.in_ok-number.ensures.writes));
  same = c.in_ok-number.ensures.kept ∙ c.loop-argument.invariant.same;
}

pub arguments-returns-clause-writes : goal.arguments-returns-clause-writes
arguments-returns-clause-writes t c =
    no_argument_left (plan_context c.args.self.now) (view_vars c.args.vars.now) c.args.rows.now.items
    c.loop-argument.rows.items c.write.new.rows.items c.loop-argument.numbers.items 0 c.loop-argument.argument-index
    c.args.arguments.now (Then (plan_at c.args.rows.now.items c.args.hole)
    (argument_frames (plan_context c.args.self.now) (view_arguments c.args.arguments.now) (view_vars c.args.vars.now)))
    c.new.result c.write.result
    c.loop-argument-test.false c.new.ensures c.loop-argument.invariant.so_far c.write.ensures.rows c.write.ensures.number

pub nodes-loop-node-preserved : goal.nodes-loop-node-preserved
nodes-loop-node-preserved t c = record {
  so_far =
      rw c.in_ok-push.ensures.items
      (next_node (plan_context c.args.self.now) (view_vars c.loop-node.vars) c.args.rows.now.items
      c.loop-node.rows.items c.node.new.rows.items c.loop-node.numbers.items c.in_ok-number.number c.loop-node.node-index
      c.args.nodes.now c.node-item.result c.loop-node.vars c.loop-node.vars (view_vars c.pass.new.vars)
      (nodes_plan (plan_context c.args.self.now) (view_nodes c.args.nodes.now) (view_vars c.args.vars.now))
      c.loop-node-test.true c.node-item.is refl refl
      (subst (λ (l : List Field). view_vars c.pass.new.vars ≡ scope_past (view_node c.node-item.result) (view_vars l))
      c.in_ok-number.ensures.kept c.in_ok-pass.ensures.scope) c.loop-node.invariant.so_far
      c.in_ok-number.ensures.writes);
  grown = grown_further c.args.vars.now c.loop-node.vars c.pass.new.vars c.loop-node.invariant.grown
      (subst (λ vs. Grows vs c.pass.new.vars) c.in_ok-number.ensures.kept c.in_ok-pass.ensures.grown);
  count = c.loop-node.invariant.count;
}

pub nodes-returns-clause-writes : goal.nodes-returns-clause-writes
nodes-returns-clause-writes t c =
    no_node_left (plan_context c.args.self.now) (view_vars c.loop-node.vars) c.args.rows.now.items
    c.loop-node.rows.items c.write.new.rows.items c.loop-node.numbers.items 0 c.loop-node.node-index
    c.args.nodes.now (nodes_plan (plan_context c.args.self.now) (view_nodes c.args.nodes.now)
    (view_vars c.args.vars.now)) c.new.result c.write.result
    c.loop-node-test.false c.new.ensures c.loop-node.invariant.so_far c.write.ensures.rows c.write.ensures.number

pub given-returns-in_ok-body-in-Block-clause-writes : goal.given-returns-in_ok-body-in-Block-clause-writes
given-returns-in_ok-body-in-Block-clause-writes t c =
    given_block (plan_context c.args.self.now) (view_vars c.args.vars.now) c.args.rows.now.items c.nodes.new.rows.items
    c.write.new.rows.items c.in_ok-body-in-Block.body c.write.result
    c.args.argument.now.given c.args.argument.now.span c.in-Block.kind c.in-Block.body c.items.result.now
    c.args.vars.now c.site-end.result
    c.in-Block.is c.site-end.ensures c.items.ensures refl
    c.in_ok-body-in-Block.ensures.writes
    c.write.ensures.rows c.write.ensures.number

pub node-returns-in_ok-body-in-For-clause-writes : goal.node-returns-in_ok-body-in-For-clause-writes
node-returns-in_ok-body-in-For-clause-writes t c =
    node_for (plan_context c.args.self.now) (view_vars c.args.vars.now) c.args.rows.now.items c.nodes.new.rows.items
    c.write.new.rows.items c.in_ok-body-in-For.body c.write.result
    c.args.node.now c.in-For.name c.in-For.index c.in-For.list c.in-For.body c.items-in-For.result.now
    c.enter_loop.new.vars c.site-at.result
    c.in-For.is c.site-at.ensures c.items-in-For.ensures
    (rw (← c.get.ensures) c.in_ok-enter_loop-in-For.ensures.scope) c.in_ok-body-in-For.ensures.writes
    c.write.ensures.rows c.write.ensures.number

pub node-returns-in_ok-body-in-LetBlock-clause-writes : goal.node-returns-in_ok-body-in-LetBlock-clause-writes
node-returns-in_ok-body-in-LetBlock-clause-writes t c =
    node_let_block (plan_context c.args.self.now) (view_vars c.args.vars.now) c.args.rows.now.items
    c.nodes-in-LetBlock.new.rows.items c.write-in-LetBlock.new.rows.items c.in_ok-body-in-LetBlock.body
    c.write-in-LetBlock.result
    c.args.node.now c.in-LetBlock.field-0 c.in-LetBlock.kind c.in-LetBlock.body c.items-in-LetBlock.result.now
    c.args.vars.now c.site-end.result
    c.in-LetBlock.is c.site-end.ensures c.items-in-LetBlock.ensures
    refl c.in_ok-body-in-LetBlock.ensures.writes
    c.write-in-LetBlock.ensures.rows c.write-in-LetBlock.ensures.number

pub node-returns-in_ok-hole-in-Call-clause-writes : goal.node-returns-in_ok-hole-in-Call-clause-writes
node-returns-in_ok-hole-in-Call-clause-writes t c =
    node_call (plan_context c.args.self.now) (view_vars c.args.vars.now) c.args.rows.now.items c.call.new.rows.items
    c.arguments.new.rows.items c.in_ok-hole-in-Call.hole c.arguments.result
    c.args.node.now c.in-Call.name c.in-Call.field-1 c.in-Call.given c.items-in-Call.result.now c.site-at.result
    c.in-Call.is c.site-at.ensures c.items-in-Call.ensures c.in_ok-hole-in-Call.ensures c.arguments.ensures.writes

pub node-returns-in_ok-source-in-Message-clause-writes : goal.node-returns-in_ok-source-in-Message-clause-writes
node-returns-in_ok-source-in-Message-clause-writes t c =
    node_message (plan_context c.args.self.now) (view_vars c.args.vars.now) c.args.rows.now.items c.body.new.rows.items
    c.translated.new.rows.items c.in_ok-source-in-Message.source c.translated.result
    c.args.node.now c.get-message.result.now c.in-Message.other c.site-at.result
    (c.in-Message.is ∙ ap (λ m. form.Message m c.in-Message.other) (sym c.get-message.ensures)) c.site-at.ensures c.in_ok-source-in-Message.ensures.writes
    (subst (λ (l : List Field). Writes (arms_meet (view_site c.site-at.result) (plan_at c.body.new.rows.items
    c.in_ok-source-in-Message.source ∷ (translation_plans (plan_context c.args.self.now)
    (view_message c.get-message.result.now) (view_vars l) (view_site c.site-at.result)
    ++ fallback_plans (plan_context c.args.self.now) (fallback_of (option_map view_message c.in-Message.other))
    (view_vars l) (view_site c.site-at.result)))) c.body.new.rows.items c.translated.new.rows.items c.translated.result)
    c.in_ok-source-in-Message.ensures.kept c.translated.ensures)
