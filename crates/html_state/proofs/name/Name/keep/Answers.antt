use Rattle.std.proofs.Common.{arith}
use Rattle.html_state.proofs.KeptCharacters.{kept_else, set_length, set_zeros}
use Rattle.html_state.proofs.name.Name.keep.Goals as goal

pub invariant_of-self : goal.invariant_of-self
invariant_of-self c = (
  omega arith,
  set_length c.self.inside.count c.self.inside.characters c.args.c 17 c.self.invariant.1,
  set_zeros c.self.inside.count 17 c.self.inside.characters c.args.c c.if-self-lt17.true c.self.invariant.2,
)

pub returns-else-self-lt17 : goal.returns-else-self-lt17
returns-else-self-lt17 c =
    kept_else c.self.inside.count 17 c.self.inside.characters c.args.self.now c.args.c c.self.view_is c.self.invariant.0
    c.if-self-lt17.false c.self.invariant.1
