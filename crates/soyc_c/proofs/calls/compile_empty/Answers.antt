use Rattle.soyc_c.specs.Compiling.{compile_reply}
use Rattle.soyc_c.specs.SlotCalls.{HoldsTemplates}
use Rattle.soyc_c.proofs.Filling.{fills}
use Rattle.soyc_c.proofs.calls.compile_empty.Goals as goal

pub returns : goal.returns
returns c =
    let made = c.compiled_box-made in
    fills (compile_reply c.args.bytes.now c.args.files.now c.args.bundles.now) _ _ _ _ (λ b. b.value)
    (HoldsTemplates c.args.bytes.now c.args.files.now c.args.bundles.now) _ made.result made.ensures.ok
    made.ensures.answers c.fill_slot.ensures.ok c.fill_slot.ensures.err
