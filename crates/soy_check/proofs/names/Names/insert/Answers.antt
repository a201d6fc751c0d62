use Rattle.soy_check.proofs.Keys.{are_texts-insert, seen-insert}
use Rattle.soy_check.proofs.names.Names.insert.Goals as goal

pub returns : goal.returns
returns c =
    rw (← c.self.view_is, ← c.text.ensures.characters)
    (seen-insert c.self.inside.names.keys c.insert.new.self.keys c.text.result c.in_ok-insert.field-0 c.text.utf8
    c.self.invariant c.in_ok-insert.ensures.added c.in_ok-insert.ensures.keys)

pub invariant_of-self-2 : goal.invariant_of-self-2
invariant_of-self-2 c =
    are_texts-insert c.self.inside.names.keys c.insert.new.self.keys c.text.result c.text.utf8 c.self.invariant
    c.in_ok-insert.ensures.keys
