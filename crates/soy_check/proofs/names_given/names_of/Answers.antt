use Rattle.std.proofs.Common.{◌∙◌, ◌||◌, ◌+◌, List, ap, drop, sym}
use Rattle.soy_rules.specs.Bodies.{names_given}
use Rattle.soy_base.specs.Among.{is_among}
use Rattle.soy_tree.specs.Types.{Name}
use Rattle.soy_tree.specs.ViewNodes.{view_arguments}
use Rattle.soy_check.proofs.SetsOfNames.{name_added, names_drop, none_left}
use Rattle.soy_check.proofs.names_given.names_of.Goals as goal

pub loop-argument-preserved : goal.loop-argument-preserved
loop-argument-preserved c = λ name.
    let given = c.args.given.now in
    let i = c.loop-argument.argument-index in
    let a = c.argument-item.result in
    let rest = names_given (view_arguments (drop (i + 1) given)) in
    name_added c.loop-argument.names c.insert.new.self a.name c.in_ok-insert.field-0 c.in_ok-insert.ensures rest name
    ∙ ap (λ (ns : List Name). is_among c.loop-argument.names name || is_among ns name)
    (sym (names_drop given i a c.loop-argument-test.true c.argument-item.is))
    ∙ c.loop-argument.invariant name

pub returns : goal.returns
returns c = λ name.
    none_left name c.loop-argument.names c.args.given.now c.loop-argument.argument-index c.loop-argument-test.false
    ∙ c.loop-argument.invariant name
