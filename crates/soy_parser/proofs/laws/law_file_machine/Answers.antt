use Rattle.soy_parser.proofs.OfFiles.FileMachine.{BeginsFile-run, run-BeginsFile, whole-spelled}
use Rattle.soy_parser.proofs.OfFiles.FilesComplete.{file_leads}
use Rattle.soy_parser.proofs.laws.law_file_machine.Goals as goal

pub returns-clause-runs : goal.returns-clause-runs
returns-clause-runs c = λ ts ds ws b.
    let i = BeginsFile-run ts ds ws b in (i.state, i.is, i.depths_are, i.words_are)

pub returns-clause-begins : goal.returns-clause-begins
returns-clause-begins c = run-BeginsFile

pub returns-clause-whole : goal.returns-clause-whole
returns-clause-whole c = whole-spelled

pub returns-clause-spelled : goal.returns-clause-spelled
returns-clause-spelled c = λ ts ds ws x s. let i = file_leads ts ds ws x s in (i.state, i.runs, i.finishes)
