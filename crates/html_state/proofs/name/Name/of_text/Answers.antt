use Rattle.std.proofs.Common.{arith}
use Rattle.html_state.proofs.KeptCharacters.{one_more}
use Rattle.html_state.proofs.name.Name.of_text.Goals as goal

pub loop-c-preserved : goal.loop-c-preserved
loop-c-preserved c = one_more 17 c.loop-c.c-index c.args.text.now c.loop-c.name c.keep.new.self c.loop-c.invariant
    (omega arith) (omega arith) c.keep.ensures
