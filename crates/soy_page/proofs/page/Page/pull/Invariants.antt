use Rattle.std.proofs.Common.{◌-◌, length}
use Rattle.soy_page.proofs.Filled.{GaveSome}
use Rattle.soy_page.proofs.page.Page.pull.Given as goal

abbrev pub invariant-loop-given : goal.invariant-loop-given
invariant-loop-given l = GaveSome l.fn.self l.self l.fn.room l.room l.given

abbrev pub decreases-loop-given : goal.decreases-loop-given
decreases-loop-given l = length l.initial.room - l.given
