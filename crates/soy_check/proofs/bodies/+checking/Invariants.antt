use Rattle.std.proofs.Common.{◌≡◌, [], drop, length}
use Rattle.soy_rules.specs.Bodies.{after_arguments, after_arms, after_cases, after_nodes, after_plural_cases}
use Rattle.soy_rules.specs.Bodies.{after_select_cases}
use Rattle.soy_tree.specs.ViewNodes.{view_arguments, view_arms, view_cases, view_nodes, view_plural_cases}
use Rattle.soy_tree.specs.ViewNodes.{view_select_cases}
use Rattle.soy_tree.specs.ViewTrees.{view_params}
use Rattle.soy_expr.specs.ViewScope.{view_vars}
use Rattle.soy_expr.specs.Grows.{Grows}
use Rattle.soy_check.specs.ViewAround.{view_around}
use Rattle.soy_check.proofs.bodies.+checking.Given as goal

abbrev pub invariant-check_nodes-loop-node : goal.invariant-check_nodes-loop-node
invariant-check_nodes-loop-node l =
    let around = view_around l.around in record {
      left : after_nodes around (view_nodes l.nodes) (view_vars l.initial.vars)
          ≡ after_nodes around (view_nodes (drop l.node-index l.nodes)) (view_vars l.vars);
      grown : Grows l.initial.vars l.vars;
      count : l.count ≡ length l.initial.vars;
    }

abbrev pub invariant-check_arms-loop-arm : goal.invariant-check_arms-loop-arm
invariant-check_arms-loop-arm l =
    let around = view_around l.around in record {
      left : after_arms around (view_arms l.arms) (view_vars l.initial.vars)
          ≡ after_arms around (view_arms (drop l.arm-index l.arms)) (view_vars l.initial.vars);
      same : l.vars ≡ l.initial.vars;
    }

abbrev pub invariant-check_cases-loop-case : goal.invariant-check_cases-loop-case
invariant-check_cases-loop-case l =
    let around = view_around l.around in record {
      left : after_cases around (view_cases l.cases) (view_vars l.initial.vars)
          ≡ after_cases around (view_cases (drop l.case-index l.cases)) (view_vars l.initial.vars);
      same : l.vars ≡ l.initial.vars;
    }

abbrev pub invariant-check_arguments-loop-argument : goal.invariant-check_arguments-loop-argument
invariant-check_arguments-loop-argument l =
    let around = view_around l.around in
    let params = view_params l.callee.declared.template.now.params in record {
      left : after_arguments around (view_arguments l.given) [] params (view_vars l.initial.vars)
          ≡ after_arguments around (view_arguments (drop l.argument-index l.given)) l.before params
          (view_vars l.initial.vars);
      same : l.vars ≡ l.initial.vars;
    }

abbrev pub invariant-check_plural_cases-loop-case : goal.invariant-check_plural_cases-loop-case
invariant-check_plural_cases-loop-case l =
    let around = view_around l.around in record {
      left : after_plural_cases around (view_plural_cases l.cases) (view_vars l.initial.vars)
          ≡ after_plural_cases around (view_plural_cases (drop l.case-index l.cases)) (view_vars l.initial.vars);
      same : l.vars ≡ l.initial.vars;
    }

abbrev pub invariant-check_select_cases-loop-case : goal.invariant-check_select_cases-loop-case
invariant-check_select_cases-loop-case l =
    let around = view_around l.around in record {
      left : after_select_cases around (view_select_cases l.cases) (view_vars l.initial.vars)
          ≡ after_select_cases around (view_select_cases (drop l.case-index l.cases)) (view_vars l.initial.vars);
      same : l.vars ≡ l.initial.vars;
    }
