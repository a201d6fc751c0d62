use Rattle.work_gen.proofs.Encoded.{appends_bytes}
use Rattle.work_gen.proofs.Items.{drawn_bytes}
use Rattle.work_gen.proofs.data.push_item.Goals as goal

pub returns-clause-ok : goal.returns-clause-ok
returns-clause-ok c =
    appends_bytes c.args.out.now c.write.new.self
    (drawn_bytes c.args.draws.now.state c.pick.new.self.state c.pick-2.new.self.state c.pick-3.new.self.state
    c.pick-4.new.self.state c.pick.ensures.state c.pick-2.ensures.state c.pick-3.ensures.state c.pick-4.ensures.state
    c.pick.result c.pick-2.result c.pick-3.result c.pick-4.result c.pick-n.result
    c.pick.ensures.value c.pick-2.ensures.value c.pick-3.ensures.value c.pick-4.ensures.value c.pick-n.ensures.value
    c.word-who.ensures c.word-first.ensures c.word-second.ensures c.link-link.ensures)
    c.in_ok-write.ensures.bytes
