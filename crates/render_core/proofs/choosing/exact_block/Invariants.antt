use Rattle.std.proofs.Common.{◌≡◌, drop}
use Rattle.template_ir.specs.Run.{exact_block}
use Rattle.render_core.proofs.choosing.exact_block.Given as goal

abbrev pub invariant-loop-arm : goal.invariant-loop-arm
invariant-loop-arm l = exact_block l.number l.arms ≡ exact_block l.number (drop l.arm-index l.arms)
