use Rattle.soy_meaning.proofs.Typing.TypedPicks.{typed_templates_pick}
use Rattle.soy_meaning.proofs.Typing.TypedRuns.{typed_runs_alike, typed_templates_alike}
use Rattle.soy_meaning.proofs.laws.law_typed_choices.Goals as goal

pub returns-clause-picks : goal.returns-clause-picks
returns-clause-picks c = λ context trees are typed. typed_templates_pick context trees are typed

pub returns-clause-alike : goal.returns-clause-alike
returns-clause-alike c = λ context trees d env other are member typed fits one two same.
    typed_runs_alike context trees are typed fits d env other member one two same

pub returns-clause-no_beginning : goal.returns-clause-no_beginning
returns-clause-no_beginning c = λ context trees d env other are member typed fits one two.
    typed_templates_alike context trees are typed fits d env other member one two
