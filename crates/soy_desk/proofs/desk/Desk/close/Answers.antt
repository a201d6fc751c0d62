use Rattle.std.proofs.Common.{List, Ok, arith, drop, subst, suc, sym, take}
use Rattle.std.specs.List.{All}
use Rattle.std.proofs.lemmas.Grind.{common_steps}
use Rattle.std.proofs.lemmas.List.Elements.{All-append, All-drop, All-take}
use Rattle.soy_desk.specs.Ascends.{Ascends}
use Rattle.soy_desk.specs.DeskRun.{CloseStep}
use Rattle.soy_desk.specs.DeskState.{DeskState}
use Rattle.soy_desk.specs.ViewSlots.{SlotFits, StandsAt, view_slots}
use Rattle.soy_desk.specs.declared.slot.Slot.{Slot}
use Rattle.soy_desk.proofs.Slots.{closed_ascends, closed_step, state_of}
use Rattle.soy_desk.proofs.desk.Desk.close.Goals as goal

pub invariant_of-self : goal.invariant_of-self
invariant_of-self c =
    let name = c.args.name in
    let slots = c.self.inside.slots.items in
    let opened = c.self.inside.opened in
    let at = c.in-Some.at in
    let stands = subst (λ (xs : List Slot). StandsAt xs name c.in-Some.at) c.as_slice.ensures.value
    c.in-Some.ensures in
    let ascend : Ascends 0 (view_slots c.remove.new.self.items) opened =
    rw c.remove.ensures.items
    (closed_ascends slots opened c.self.inside.published.value name c.in-Some.at stands c.self.invariant.2) in
    let fits : All SlotFits c.remove.new.self.items =
    rw c.remove.ensures.items (All-append SlotFits (take at slots) (drop (suc at) slots)
    (All-take SlotFits at slots c.self.invariant.0) (All-drop SlotFits (suc at) slots c.self.invariant.0)) in
    (fits, grind (arith, common_steps), ascend)

pub returns-in-Some : goal.returns-in-Some
returns-in-Some c =
    let name = c.args.name in
    let slots = c.self.inside.slots.items in
    let opened = c.self.inside.opened in
    let published = c.self.inside.published.value in
    let stands = subst (λ (xs : List Slot). StandsAt xs name c.in-Some.at) c.as_slice.ensures.value
    c.in-Some.ensures in
    let step = closed_step slots opened published name c.in-Some.at stands c.remove.result in
    let left = subst (λ (xs : List Slot). CloseStep (state_of slots opened published slots) name (Ok tt)
    (state_of slots opened published xs)) (sym c.remove.ensures.items) step in
    subst (λ (s : DeskState). CloseStep s name (Ok tt)
    (state_of slots opened published c.remove.new.self.items)) c.self.view_is left
