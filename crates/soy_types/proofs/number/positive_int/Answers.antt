use Rattle.soy_types.proofs.ShortInts.{short_positive}
use Rattle.soy_types.proofs.number.positive_int.Goals as goal

pub returns-in-Some : goal.returns-in-Some
returns-in-Some c = short_positive c.args.text.now c.in-Some.number c.in-Some.ensures
