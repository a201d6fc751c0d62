-- The files so far, and then those of the rest, are all files.
use Rattle.std.proofs.Common.{◌≡◌}
use Rattle.soyc_c.specs.Call.{file_at, files_at}
use Rattle.soyc_c.proofs.Listed.{after, rest_of}
use Rattle.soyc_c.proofs.parts.files_of.Given as goal

abbrev pub invariant-loop-file : goal.invariant-loop-file
invariant-loop-file l =
    after l.files.items (rest_of (file_at l.bytes) l.parts l.file-index) ≡ files_at l.bytes l.parts
