use Rattle.soy_meaning.proofs.Paths.BlockFrames.{nodes_frames}
use Rattle.soy_meaning.proofs.Paths.WayPlans.{nodes_ways}
use Rattle.soy_meaning.proofs.laws.law_plan_is_of_tree.Goals as goal

pub returns-clause-paths : goal.returns-clause-paths
returns-clause-paths c = λ context ns scope l path. (nodes_ways context ns scope).to l path

pub returns-clause-ways : goal.returns-clause-ways
returns-clause-ways c = λ context ns scope l way. (nodes_ways context ns scope).from l way

pub returns-clause-frames : goal.returns-clause-frames
returns-clause-frames c = nodes_frames
