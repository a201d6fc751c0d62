use Rattle.soyc_c.proofs.said.no_entry.Goals as goal

pub returns : goal.returns
returns c = c.fault_elsewhere.ensures c.args.name.now c.entry_line.ensures
