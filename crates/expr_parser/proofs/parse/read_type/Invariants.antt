use Rattle.std.proofs.Common.{◌≡◌, drop}
use Rattle.expr_parser.specs.TypeReading.{reading_type}
use Rattle.expr_parser.specs.TypeRuns.{type_start}
use Rattle.expr_parser.proofs.parse.read_type.Given as goal

-- the rest is read as the whole is
abbrev pub invariant-loop-count : goal.invariant-loop-count
invariant-loop-count l =
    reading_type l.blocks l.count l.end (drop l.count l.tokens) l.state ≡ reading_type l.blocks 0 0 l.tokens type_start
