use Rattle.std.proofs.Common.{ap, ◌∙◌}
use Rattle.std.proofs.Math.Path.{fun_ext}
use Rattle.soy_tree.specs.ViewNodes.{view_message, view_nodes}
use Rattle.soy_expr.specs.ViewScope.{view_vars}
use Rattle.soy_meaning.specs.Walks.PageMachine.{page_machine}
use Rattle.soy_meaning.specs.Paths.PlanOfParts.{cut_plan}
use Rattle.soy_rules.specs.Placeholders.{placeholder_cut}
use Rattle.soy_meaning.specs.Walks.Walk.{walk}
use Rattle.msg_extract.specs.NamedNodes.{named_nodes}
use Rattle.html_context.specs.PlacedNodes.{placed_nodes}
use Rattle.html_context.specs.ViewParts.{source_uses}
use Rattle.html_context.specs.Walks.{view_site}
use Rattle.html_context.proofs.PlacedNodes.{placed_cut}
use Rattle.html_context.proofs.WrittenRows.{writes_same}
use Rattle.html_context.proofs.parts.placeholder.Goals as goal

pub returns : goal.returns
returns c =
    let source = c.args.source.now in
    let scope = view_vars source.vars.now in
    let at = view_site source.at in
    let name = c.args.name.now in
    writes_same (placed_nodes scope at (view_nodes c.nodes.result.now))
    (cut_plan scope at (placeholder_cut name (source_uses source) (source_uses source)))
    c.args.rows.now.items c.all_placed.new.rows.items c.all_placed.result c.all_placed.ensures
    (ap (λ ns. λ w. walk page_machine (placed_nodes scope at ns) w)
    (c.nodes.ensures ∙ ap (λ rows. named_nodes name rows) c.requires)
    ∙ fun_ext (λ w. placed_cut (view_message source.message.now) name scope at w))
