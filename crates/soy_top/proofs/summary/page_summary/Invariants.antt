use Rattle.soy_top.proofs.summary.page_summary.Given as goal

abbrev pub ghosts-sum_pulls : goal.ghosts-sum_pulls
ghosts-sum_pulls a = record { name = a.blank.name; parts = a.blank.parts }
