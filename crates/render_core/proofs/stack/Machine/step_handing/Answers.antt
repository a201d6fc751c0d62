use Rattle.std.proofs.Common.{◌∙◌, ap, sym}
use Rattle.render_core.specs.Calling.{given_at}
use Rattle.render_core.proofs.stack.Machine.step_handing.Goals as goal

pub hand-requires : goal.hand-requires
hand-requires g c = record {
  top = c.requires.top;
  fits = c.requires.fits;
  given = ap (given_at c.args.handing.next) c.requires.op ∙ sym c.in-Some.ensures;
}

pub open-requires-clause-opens : goal.open-requires-clause-opens
open-requires-clause-opens g c = record {
  top = c.requires.top;
  fits = c.requires.fits;
  call = c.requires.op;
  last = sym c.in-None.ensures;
}

pub returns-in-None-clause-stepped : goal.returns-in-None-clause-stepped
returns-in-None-clause-stepped g c = c.open.ensures.stepped _
