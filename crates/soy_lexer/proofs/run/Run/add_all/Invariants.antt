use Rattle.std.proofs.Common.{◌≡◌, ◌+◌, length}
use Rattle.std.specs.Str.{chars, IsUtf8}
use Rattle.soy_base.specs.ByteLength.{byte_len}
use Rattle.soy_lexer.proofs.PlainAdded.{AddsSoFar}
use Rattle.soy_lexer.proofs.run.Run.add_all.Given as goal

abbrev pub invariant-loop-after : goal.invariant-loop-after
invariant-loop-after l = record {
  utf8 : IsUtf8 l.rest;
  end : l.end ≡ l.offset + byte_len (chars l.text);
  so_far : AddsSoFar l.initial.self l.self l.offset l.initial.white (chars l.text) (chars l.rest) l.white;
}

abbrev pub decreases-loop-after : goal.decreases-loop-after
decreases-loop-after l = length (chars l.rest)
