use Rattle.std.proofs.Common.{length}
use Rattle.std.specs.Str.{chars, IsUtf8}
use Rattle.soy_lexer.proofs.Reading.{GoesOn}
use Rattle.soy_lexer.proofs.lexer.lexed.Given as goal

abbrev pub invariant-loop-rest : goal.invariant-loop-rest
invariant-loop-rest l =
    record {
      utf8 : IsUtf8 l.rest;
      goes_on : GoesOn (chars l.text) (chars l.rest) l.mode l.lexer l.offset;
    }

abbrev pub decreases-loop-rest : goal.decreases-loop-rest
decreases-loop-rest l = length (chars l.rest)
