use Rattle.soy_top.proofs.seen.gather.Given as goal

abbrev pub ghosts-gather_pulls : goal.ghosts-gather_pulls
ghosts-gather_pulls a = record { name = a.blank.name; parts = a.blank.parts }
