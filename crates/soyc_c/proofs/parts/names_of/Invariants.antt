-- The names so far, and then those of the rest, are all names.
use Rattle.std.proofs.Common.{◌≡◌}
use Rattle.soy_top.specs.Words.{command_words}
use Rattle.soyc_c.specs.Call.{text_at}
use Rattle.soyc_c.specs.CompileCall.{names_at}
use Rattle.soyc_c.proofs.Listed.{after, rest_of}
use Rattle.soyc_c.proofs.parts.names_of.Given as goal

abbrev pub invariant-loop-file : goal.invariant-loop-file
invariant-loop-file l =
    after (command_words l.names.items) (rest_of (λ file. text_at l.bytes file.name) l.files l.file-index)
    ≡ names_at l.bytes l.files
