use Rattle.soyc_c.proofs.opened.opened_named.Goals as goal

pub returns-in-Ok : goal.returns-in-Ok
returns-in-Ok c =
    c.answered.ensures c.args.shared.now c.args.json.now (rw c.in-Ok.ensures at c.open.ensures)
