use Rattle.value_cursor.proofs.Rooms.{joined_prefix, joined_whole}
use Rattle.value_cursor.proofs.laws.law_rooms_joined.Goals as goal

pub returns-clause-prefix : goal.returns-clause-prefix
returns-clause-prefix c = joined_prefix

pub returns-clause-whole : goal.returns-clause-whole
returns-clause-whole c = joined_whole
