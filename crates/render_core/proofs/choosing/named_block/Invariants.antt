use Rattle.std.proofs.Common.{◌≡◌, drop}
use Rattle.template_ir.specs.Run.{named_block}
use Rattle.render_core.proofs.choosing.named_block.Given as goal

abbrev pub invariant-loop-arm : goal.invariant-loop-arm
invariant-loop-arm l = named_block l.category l.arms ≡ named_block l.category (drop l.arm-index l.arms)
