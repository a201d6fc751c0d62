-- Lists of states that the test of lists calls equal.
use Rattle.std.proofs.Common.{◌≡◌, List, true, subst}
use Rattle.std.specs.Cmp.Lexicographic.{pointwise, pointwise_decides}
use Rattle.html_state.specs.declared.row.State.{State}
use Rattle.soy_meaning.specs.Walks.PageMachine.{page_machine}
use Rattle.soy_meaning.proofs.Walks.PageStates.{page_compares}

pub same_lists : (xs ys : List State) → pointwise page_machine.same xs ys ≡ true → xs ≡ ys
same_lists xs ys h =
    (pointwise_decides (λ x y. (
      page_compares.equal x y,
      λ e. subst (λ (z : State). page_machine.same x z ≡ true) e
          (page_compares.itself x),
    )) xs ys).0 h
