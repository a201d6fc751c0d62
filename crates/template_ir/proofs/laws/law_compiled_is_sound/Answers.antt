use Rattle.template_ir.proofs.SoundPrograms.{compiled_is_sound}
use Rattle.template_ir.proofs.laws.law_compiled_is_sound.Goals as goal

pub returns : goal.returns
returns c = λ trees l v p typed fits patterns walks compiles.
    compiled_is_sound trees l v p typed fits patterns walks compiles
