use Rattle.soy_meaning.proofs.Runs.ReadRuns.{runs_are_read, runs_fill_holes}
use Rattle.soy_meaning.proofs.laws.law_runs_are_read.Goals as goal

pub returns-clause-holes : goal.returns-clause-holes
returns-clause-holes c = λ context whole q f accepted runs fits. runs_fill_holes context whole accepted f q runs fits

pub returns-clause-read : goal.returns-clause-read
returns-clause-read c = λ context whole q accepted within r fits. runs_are_read context whole accepted q within r fits
