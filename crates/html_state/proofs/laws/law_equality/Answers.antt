use Rattle.std.proofs.Common.{subst}
use Rattle.html_state.specs.IsSame.{IsSame}
use Rattle.html_state.specs.contracts.row.StateEq.TheImpl.Laws.{laws-law}
use Rattle.html_state.proofs.SameStates.{same_state}
use Rattle.html_state.proofs.laws.law_equality.Goals as goal

pub returns : goal.returns
returns c = λ one other. (same_state one other, λ same. subst (λ state. IsSame one state) same (laws-law.refl one))
