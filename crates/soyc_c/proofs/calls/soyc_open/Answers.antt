use Rattle.soyc_c.proofs.AskedPages.{same_markup, same_order}
use Rattle.soyc_c.proofs.calls.soyc_open.Goals as goal

pub returns-clause-same_markup : goal.returns-clause-same_markup
returns-clause-same_markup c =
    same_markup c.args.templates.now.value c.args.name.now c.args.json.now c.open_slot.ensures.known

pub returns-clause-same_visual_order : goal.returns-clause-same_visual_order
returns-clause-same_visual_order c =
    same_order c.args.templates.now.value c.args.name.now c.args.json.now c.open_slot.ensures.known
