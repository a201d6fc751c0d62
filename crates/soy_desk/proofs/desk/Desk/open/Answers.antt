use Rattle.std.proofs.Common.{arith, refl, ◌+◌}
use Rattle.std.proofs.lemmas.Grind.{common_steps}
use Rattle.soy_desk.specs.Ascends.{Ascends}
use Rattle.soy_desk.specs.DeskState.{first_entry}
use Rattle.soy_desk.specs.ViewSlots.{view_slots}
use Rattle.soy_desk.proofs.Slots.{opened_ascends}
use Rattle.soy_desk.proofs.desk.Desk.open.Goals as goal

pub invariant_of-self : goal.invariant_of-self
invariant_of-self c =
    let opened = c.self.inside.opened in
    let entry = first_entry opened c.self.inside.published.value c.args.input c.args.template in
    let ascend : Ascends 0 (view_slots c.begin_last.new.slots.items) (opened + 1) =
    opened_ascends c.self.inside.slots.items c.begin_last.new.slots.items opened entry c.in-Ok.ensures.entries refl
    c.self.invariant.2 in
    grind (arith, common_steps, ascend)
