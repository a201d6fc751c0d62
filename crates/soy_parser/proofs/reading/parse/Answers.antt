use Rattle.std.proofs.Common.{sym, ◌∙◌}
use Rattle.soy_parser.proofs.OfFiles.FileReads.{read-ParsesFile, refused-ParsesFile}
use Rattle.soy_parser.proofs.reading.parse.Goals as goal

pub returns-in-Ok : goal.returns-in-Ok
returns-in-Ok c = read-ParsesFile _ _ _ (sym c.in_ok-tree.ensures ∙ c.in-Ok.is)

pub returns-in-Err : goal.returns-in-Err
returns-in-Err c = refused-ParsesFile _ _ _ (sym c.in_ok-tree.ensures ∙ c.in-Err.is)
