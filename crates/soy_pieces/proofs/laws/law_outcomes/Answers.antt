use Rattle.soy_pieces.proofs.Outcomes.{first_none, followed_joined, followed_nothing, gathered_followed}
use Rattle.soy_pieces.proofs.laws.law_outcomes.Goals as goal

pub returns-clause-joined : goal.returns-clause-joined
returns-clause-joined c = followed_joined

pub returns-clause-nothing_first : goal.returns-clause-nothing_first
returns-clause-nothing_first c = first_none

pub returns-clause-nothing_last : goal.returns-clause-nothing_last
returns-clause-nothing_last c = followed_nothing

pub returns-clause-gathered : goal.returns-clause-gathered
returns-clause-gathered c = gathered_followed
