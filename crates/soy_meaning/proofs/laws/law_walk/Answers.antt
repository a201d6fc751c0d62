use Rattle.std.specs.Prelude.{[]}
use Rattle.soy_meaning.specs.Walks.PageMachine.{page_machine}
use Rattle.soy_meaning.specs.Paths.PlanOfNodes.{trees_plan}
use Rattle.soy_meaning.specs.Walks.Walk.{walked}
use Rattle.soy_meaning.proofs.Walks.PageStates.{page_compares}
use Rattle.soy_meaning.proofs.Walks.Exact.{accepted_when_walked, trees_walked, walked_places}
use Rattle.soy_meaning.proofs.laws.law_walk.Goals as goal

pub returns-clause-accepted : goal.returns-clause-accepted
returns-clause-accepted c = λ translation trees v is. accepted_when_walked page_machine page_compares
    (trees_plan translation trees) (walked [] []) v is

pub returns-clause-walked : goal.returns-clause-walked
returns-clause-walked c = trees_walked

pub returns-clause-places : goal.returns-clause-places
returns-clause-places c = walked_places page_machine page_compares
