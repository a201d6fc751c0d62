use Rattle.soy_meaning.proofs.Pairs.AlikeRuns.{runs_alike, templates_alike}
use Rattle.soy_meaning.proofs.laws.law_equal_choices.Goals as goal

pub returns-clause-alike : goal.returns-clause-alike
returns-clause-alike c = λ context d env other member fits picks alike same.
    runs_alike context fits picks d env other member alike same

pub returns-clause-no_beginning : goal.returns-clause-no_beginning
returns-clause-no_beginning c = λ context d env other member fits picks alike.
    templates_alike context fits picks d env other member alike
