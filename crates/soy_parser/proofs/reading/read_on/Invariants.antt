use Rattle.std.proofs.Common.{◌≡◌, drop}
use Rattle.soy_parser.specs.FileReading.{reading_file}
use Rattle.soy_parser.proofs.reading.read_on.Given as goal

-- the rest is read as the whole is
abbrev pub invariant-loop-token : goal.invariant-loop-token
invariant-loop-token l =
    reading_file l.file l.end (drop l.token-index l.tokens) l.state ≡ reading_file l.file 0 l.tokens l.initial.state
