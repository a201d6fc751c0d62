-- The test of a page's states is equality.
use Rattle.html_state.specs.contracts.row.StateEq.TheImpl.Laws.{laws-law}
use Rattle.html_state.proofs.SameStates.{same_state}
use Rattle.soy_meaning.specs.Walks.Machine.{ComparesEqual}
use Rattle.soy_meaning.specs.Walks.PageMachine.{page_machine}

pub page_compares : ComparesEqual page_machine
page_compares = record {
  equal = same_state;
  itself = λ s. laws-law.refl s;
}
