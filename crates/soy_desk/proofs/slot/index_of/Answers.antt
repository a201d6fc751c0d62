use Rattle.std.proofs.Common.{arith, rules}
use Rattle.std.proofs.lemmas.List.Sorted.{answers_always}
use Rattle.soy_desk.specs.declared.slot.Slot.{Slot}
use Rattle.soy_desk.proofs.Slots.{guessed, searched}
use Rattle.soy_desk.proofs.slot.index_of.Goals as goal

pub returns-then-slot-name : goal.returns-then-slot-name
returns-then-slot-name c =
    guessed c.args.slots.now c.requires.0 c.args.name c.requires.1 c.args.guess c.index-slots-guess.result
    (omega arith) c.index-slots-guess.is c.if-slot-name.true

pub returns : goal.returns
returns c =
    let facts = c.binary_search_by_key.ensures in
    let by_key = facts.position (λ (s : Slot). s.name) (answers_always _ _ _ (λ f a r g called. search rules)) in
    rw c.ok.ensures.value
    (searched c.args.slots.now c.requires.0 c.args.name c.requires.1 c.binary_search_by_key.result facts.bound by_key)
