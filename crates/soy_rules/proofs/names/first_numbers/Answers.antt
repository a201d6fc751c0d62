use Rattle.soy_rules.proofs.Firsts.{next_first}
use Rattle.soy_tree.proofs.Drops.{drop_next}
use Rattle.soy_rules.proofs.names.first_numbers.Goals as goal

pub loop-number-preserved : goal.loop-number-preserved
loop-number-preserved c =
    next_first c.loop-number.numbers c.add_first.new.numbers c.text.result c.loop-number.number c.args.names.now
    c.index-names-number.result _
    (drop_next c.args.names.now c.loop-number.number c.index-names-number.result c.loop-number-test.true
    c.index-names-number.is)
    c.text.utf8 c.text.ensures.characters c.in_ok-add_first.ensures c.loop-number.invariant
