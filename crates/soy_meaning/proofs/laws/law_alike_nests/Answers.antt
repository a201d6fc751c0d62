use Rattle.soy_meaning.proofs.Pairs.NestRuns.{runs_nest, same_parts, typed_runs_nest}
use Rattle.soy_meaning.proofs.Typing.TypedRuns.{templates_placed}
use Rattle.soy_meaning.proofs.laws.law_alike_nests.Goals as goal

pub returns-clause-alike : goal.returns-clause-alike
returns-clause-alike c = λ context trees d env other are member fits picks alike values also same.
    (runs_nest context fits picks ⊥ (λ k. absurd k) trees d env other are member alike values also (λ k. absurd k)
    (λ k. absurd k) same).0

pub returns-clause-classes : goal.returns-clause-classes
returns-clause-classes c = λ context trees d env other are member typed fits one two same.
    typed_runs_nest context trees are typed fits d env other member one two same

pub returns-clause-path : goal.returns-clause-path
returns-clause-path c = λ f g alike. same_parts f g alike

pub returns-clause-places : goal.returns-clause-places
returns-clause-places c = λ context trees d env other are member v walks n one two.
    templates_placed context trees d are member v walks env other n one two
