use Rattle.std.proofs.Common.{◌∙◌, List, ap, refl}
use Rattle.soy_tree.specs.declared.node.Node as code_node
use Rattle.soy_rules.specs.declared.template.Declared.{Declared}
use Rattle.soy_tree.specs.declared.tree.Param as code_param
use Rattle.soy_rules.specs.Bodies.{Around, Checked, after_nodes}
use Rattle.soy_rules.specs.Templates.{param_scope}
use Rattle.soy_rules.specs.TypeOf.{Scope}
use Rattle.soy_tree.specs.ViewNodes.{view_nodes}
use Rattle.soy_tree.specs.ViewTrees.{view_params}
use Rattle.soy_expr.specs.ViewScope.{view_vars}
use Rattle.soy_check.specs.ViewAround.{view_all}
use Rattle.soy_check.specs.declared.template.Indexed.{Indexed}
use Rattle.soy_check.proofs.Passing.{body_finds}
use Rattle.soy_check.proofs.checker.check_body.Goals as goal

abbrev wanted : List Indexed → Declared → List code_param.Param → List code_node.Node → Scope → Checked
wanted all d params nodes scope =
    let around : Around =
    record { declared = view_all all; namespace = d.namespace.now; params = view_params params } in
    after_nodes around (view_nodes nodes) scope

pub returns : goal.returns
returns c =
    let d = c.args.one.now.declared in
    body_finds (wanted c.args.all.now d) d.template.now.params d.template.now.params c.items-body.result.now
    d.template.now.body (view_vars c.in_ok-vars.vars) c.check_nodes.result refl c.items-body.ensures
    (c.in_ok-vars.ensures ∙ ap (λ (ps : List code_param.Param). param_scope (view_params ps)) c.items-params.ensures)
    c.check_nodes.ensures.ends
