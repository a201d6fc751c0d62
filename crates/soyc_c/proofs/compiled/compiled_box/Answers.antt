use Rattle.soyc_c.proofs.CompileCalls.{were-compiled}
use Rattle.soyc_c.proofs.compiled.compiled_box.Goals as goal

pub held_templates-requires : goal.held_templates-requires
held_templates-requires c =
    were-compiled c.args.bytes.now c.args.files.now c.args.bundles.now c.in-Ok.templates c.in-Ok.ensures.ok
