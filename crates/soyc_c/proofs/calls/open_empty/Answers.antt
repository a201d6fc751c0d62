use Rattle.soyc_c.specs.Opening.{asked_page, open_reply}
use Rattle.soyc_c.specs.SlotCalls.{HoldsPage}
use Rattle.soyc_c.proofs.Filling.{fills}
use Rattle.soyc_c.proofs.calls.open_empty.Goals as goal

pub returns : goal.returns
returns c =
    let made = c.opened_box-made in
    let t = c.args.shared.now in
    record {
      there = c.requires.known;
      each = λ content are. fills (open_reply are.of c.args.name.now c.args.json.now) _ _ _ _ (λ b. b.value)
          (HoldsPage t (asked_page t are.of c.args.name.now c.args.json.now)) _ made.result
          (made.ensures.ok content are) (made.ensures.answers content are) c.fill_slot.ensures.ok
          c.fill_slot.ensures.err;
    }
