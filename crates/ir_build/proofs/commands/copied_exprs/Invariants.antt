use Rattle.std.proofs.Common.{◌≡◌, take}
use Rattle.ir_build.proofs.commands.copied_exprs.Given as goal

abbrev pub invariant-loop-expr : goal.invariant-loop-expr
invariant-loop-expr l = l.copied.items ≡ take l.expr-index l.exprs
