use Rattle.std.proofs.Common.{◌≡◌, drop}
use Rattle.expr_parser.specs.ExprReading.{reading}
use Rattle.expr_parser.proofs.parse.read_on.Given as goal

-- the rest is read as the whole is
abbrev pub invariant-loop-count : goal.invariant-loop-count
invariant-loop-count l =
    reading l.blocks l.count l.end (drop l.count l.tokens) l.state ≡ reading l.blocks 0 0 l.tokens l.initial.state
