use Rattle.std.proofs.Common.{◌≡◌, ◌++◌, ◌∙◌, List, ap, map, sym}
use Rattle.soy_rules.specs.Bodies.{names_given}
use Rattle.soy_tree.specs.Types.{Name}
use Rattle.soy_tree.specs.ViewNodes.{view_arguments}
use Rattle.soy_tree.specs.ViewTrees.{view_params}
use Rattle.template_ir.specs.Compiles.{handed_on_names, same_handed}
use Rattle.template_ir.specs.ViewOps.{view_handed}
use Rattle.ir_build.proofs.KnownNames.{handed_none}
use Rattle.ir_build.proofs.OpLists.{append_nil}
use Rattle.ir_build.proofs.calls.add_same.Goals as goal

pub returns-else-all : goal.returns-else-all
returns-else-all c =
    let handed = map view_handed c.args.handed.now.items in
    let own = view_params c.args.own.now in
    let given = names_given (view_arguments c.args.given.now) in
    let params = view_params c.args.params.now in
    sym
    (ap (λ all. handed ++ map same_handed (handed_on_names all own given params)) c.if-all.false
    ∙ (ap (λ (names : List Name). handed ++ map same_handed names) (handed_none own given params)
    ∙ append_nil handed))
