use Rattle.std.proofs.Common.{◌≡◌, drop}
use Rattle.std.specs.Str.{chars}
use Rattle.template_ir.specs.Run.{word_block}
use Rattle.render_core.proofs.choosing.word_block.Given as goal

abbrev pub invariant-loop-arm : goal.invariant-loop-arm
invariant-loop-arm l = word_block (chars l.word) l.arms ≡ word_block (chars l.word) (drop l.arm-index l.arms)
