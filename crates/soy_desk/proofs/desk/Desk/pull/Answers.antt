use Rattle.std.proofs.Common.{List, arith, subst, sym}
use Rattle.std.proofs.lemmas.Grind.{common_steps}
use Rattle.soy_desk.specs.Ascends.{Ascends}
use Rattle.soy_desk.specs.DeskAnswers.{desk_answer}
use Rattle.soy_desk.specs.DeskRun.{DeskAnswer, PullCall, PullStep, PullsNamed, RenderingAnswer}
use Rattle.soy_desk.specs.DeskState.{DeskState}
use Rattle.soy_desk.specs.ViewSlots.{StandsAt, view_slots}
use Rattle.soy_desk.specs.declared.slot.Slot.{Slot}
use Rattle.soy_desk.proofs.Slots.{pull_step, pulled_ascends, pulled_named, state_of}
use Rattle.soy_desk.proofs.desk.Desk.pull.Goals as goal

pub invariant_of-self : goal.invariant_of-self
invariant_of-self g c =
    let name = c.args.name in
    let slots = c.self.inside.slots.items in
    let opened = c.self.inside.opened in
    let stands = subst (λ (xs : List Slot). StandsAt xs name c.in-Some.at) c.as_slice.ensures.value
    c.in-Some.ensures in
    let pulls = c.pull_at.ensures.pulls in
    let call : PullCall RenderingAnswer = record {
      room = c.args.room.now;
      room_after = c.pull_at.new.room;
      steps = c.args.steps.now;
      steps_after = c.pull_at.new.steps;
      answer = c.pull_at.result;
    } in
    let ascend : Ascends 0 (view_slots c.pull_at.new.slots.items) opened =
    rw pulls.3
    (pulled_ascends slots opened c.self.inside.published.value name c.in-Some.at call pulls.0 pulls.1 stands pulls.2
    pulls.4 c.self.invariant.2) in
    grind (arith, common_steps, ascend)

pub returns : goal.returns
returns g c =
    let name = c.args.name in
    let before = c.args.self.now in
    let slots = c.self.inside.slots.items in
    let opened = c.self.inside.opened in
    let published = c.self.inside.published.value in
    let after = state_of slots opened published c.pull_at.new.slots.items in
    let stands = subst (λ (xs : List Slot). StandsAt xs name c.in-Some.at) c.as_slice.ensures.value
    c.in-Some.ensures in
    let pulls = c.pull_at.ensures.pulls in
    let call : PullCall RenderingAnswer = record {
      room = c.args.room.now;
      room_after = c.pull_at.new.room;
      steps = c.args.steps.now;
      steps_after = c.pull_at.new.steps;
      answer = c.pull_at.result;
    } in
    let step = pulled_named slots opened published name c.in-Some.at call pulls.0 pulls.1 stands pulls.2 pulls.4 in
    let there = subst (λ (xs : List Slot). PullsNamed (state_of slots opened published slots) name call
    (state_of slots opened published xs)) (sym pulls.3) step in
    let named = subst (λ (s : DeskState). PullsNamed s name call after) c.self.view_is there in
    let asked : DeskAnswer → PullCall DeskAnswer = λ a. record {
      room = c.args.room.now;
      room_after = c.pull_at.new.room;
      steps = c.args.steps.now;
      steps_after = c.pull_at.new.steps;
      answer = a;
    } in
    subst (λ (a : DeskAnswer). PullStep before name (asked a) a after) (sym c.on_desk.ensures)
    (pull_step before after name (asked (desk_answer c.pull_at.result)) c.pull_at.result named)
