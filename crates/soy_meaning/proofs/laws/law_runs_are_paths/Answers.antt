use Rattle.std.proofs.Common.{refl}
use Rattle.soy_meaning.proofs.Runs.RunPaths.{entry_stops, frame_stands, runs_are_paths}
use Rattle.soy_meaning.proofs.laws.law_runs_are_paths.Goals as goal

pub returns-clause-runs : goal.returns-clause-runs
returns-clause-runs c = λ context trees d env are member fits env_runs. runs_are_paths context fits trees d env are
    member env_runs

pub returns-clause-entry : goal.returns-clause-entry
returns-clause-entry c = λ context d env. refl

pub returns-clause-stops : goal.returns-clause-stops
returns-clause-stops c = λ context d env call member fits values ends. entry_stops context fits d env member values
    call ends

pub returns-clause-frames : goal.returns-clause-frames
returns-clause-frames c = λ context trees d env are member. frame_stands context trees d env are member
