use Rattle.std.proofs.Common.{◌≡◌, ◌++◌, map, drop}
use Rattle.soy_top.specs.FilesWanted.{source_file}
use Rattle.soy_top.specs.View.{view_files}
use Rattle.soy_top.specs.Words.{command_words}
use Rattle.soy_top.proofs.wanted.push_files.Given as goal

abbrev pub invariant-loop-file : goal.invariant-loop-file
invariant-loop-file l =
    view_files l.wanted.items ++ map source_file (command_words (drop l.file-index l.files))
    ≡ view_files l.initial.wanted.items ++ map source_file (command_words l.files)
