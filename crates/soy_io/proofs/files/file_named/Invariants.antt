-- No file that was passed has the name: what is left finds what all files find.
use Rattle.std.proofs.Common.{◌≡◌, drop}
use Rattle.soy_io.specs.FileOf.{file_of}
use Rattle.soy_io.proofs.files.file_named.Given as goal

abbrev pub invariant-loop-file : goal.invariant-loop-file
invariant-loop-file l = file_of (drop l.file-index l.files) l.name ≡ file_of l.files l.name
