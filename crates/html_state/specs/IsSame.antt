-- Whether two states are the same, as `==` of the code answers.
--
-- It compares rows and what they keep, and references that aren't decided.
-- Example: the states after `<p class="a">` and after `<i>` are the same, and those after `<b` and after `<i` aren't.
use Rattle.std.specs.Prelude.{Bool, IsTrue}
use Rattle.html_state.specs.declared.row.State.{State}
use Rattle.html_state.specs.contracts.row.StatePartialEq.TheImpl as state_eq

abbrev pub IsSame : State → State → Type 0
IsSame one other = IsTrue ((state_eq.ghosts).eq one other)
