use Rattle.value_cursor.proofs.Givings.{given_count, given_first, given_rest}
use Rattle.value_cursor.proofs.cursor.Cursor.fill.Goals as goal

pub returns-clause-count : goal.returns-clause-count
returns-clause-count c = given_count c.advance-filled.ensures.gives c.advance-filled.ensures.all

pub returns-clause-given : goal.returns-clause-given
returns-clause-given c = given_first c.advance-filled.ensures.gives

pub returns-clause-rest : goal.returns-clause-rest
returns-clause-rest c = given_rest c.advance-filled.ensures.gives
