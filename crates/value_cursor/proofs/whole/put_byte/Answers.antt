use Rattle.value_cursor.proofs.Wholes.{byte_given}
use Rattle.value_cursor.proofs.whole.put_byte.Goals as goal

pub returns-clause-gives : goal.returns-clause-gives
returns-clause-gives c after = byte_given c.args.byte after c.args.room.now c.requires.room
