use Rattle.std.proofs.Common.{arith}
use Rattle.soy_base.proofs.Lines.{breaks_within-zero, breaks_within-more, breaks_within-≤, characters_before-zero}
use Rattle.soy_base.proofs.Lines.{characters_before-more, characters_before-≤}
use Rattle.std.proofs.lemmas.List.{length-take}
use Rattle.std.proofs.lemmas.Grind.{common_steps}
use Rattle.soy_base.proofs.position.line_of.Goals as goal

pub loop-i-init : goal.loop-i-init
loop-i-init c = record {
  line = omega (arith, breaks_within-zero c.args.text.now);
  column = omega (arith, characters_before-zero c.args.text.now);
}

pub after-position-requires-clause-line : goal.after-position-requires-clause-line
after-position-requires-clause-line c =
    omega (arith, breaks_within-≤ c.args.text.now c.loop-i.i, length-take c.index_of.result c.args.text.now)

pub after-position-requires-clause-column : goal.after-position-requires-clause-column
after-position-requires-clause-column c =
    omega (arith, characters_before-≤ c.args.text.now c.loop-i.i, length-take c.index_of.result c.args.text.now)

pub loop-i-preserved : goal.loop-i-preserved
loop-i-preserved c = record {
  line = grind (arith, common_steps, breaks_within-more c.args.text.now c.loop-i.i);
  column = grind (arith, common_steps, characters_before-more c.args.text.now c.loop-i.i);
}
