use Rattle.expr_parser.proofs.TypeExact.{SpellsType-whole_type}
use Rattle.expr_parser.proofs.TypeMachine.{BeginsType-run, run-BeginsType, whole-spelled}
use Rattle.expr_parser.proofs.laws.law_type_machine.Goals as goal

pub returns-clause-runs : goal.returns-clause-runs
returns-clause-runs c = λ ts ds ws b.
    let i = BeginsType-run ts ds ws b in (i.state, i.is, i.depths_are, i.words_are)

pub returns-clause-begins : goal.returns-clause-begins
returns-clause-begins c = run-BeginsType

pub returns-clause-whole : goal.returns-clause-whole
returns-clause-whole c = whole-spelled

pub returns-clause-spelled : goal.returns-clause-spelled
returns-clause-spelled c = λ ts ds ws x s.
    let i = SpellsType-whole_type ts ds ws x s in (i.state, i.goes.runs, i.finishes)
