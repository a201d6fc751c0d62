use Rattle.alike_files.proofs.AlikeMeanings.{data_alike, meanings_alike, runs_alike}
use Rattle.alike_files.proofs.laws.law_alike_meaning.Goals as goal

pub returns-clause-meaning : goal.returns-clause-meaning
returns-clause-meaning c = meanings_alike

pub returns-clause-runs : goal.returns-clause-runs
returns-clause-runs c = runs_alike

pub returns-clause-data_fit : goal.returns-clause-data_fit
returns-clause-data_fit c = data_alike
