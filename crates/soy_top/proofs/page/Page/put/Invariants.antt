use Rattle.soy_top.proofs.page.Page.put.Given as goal

abbrev pub ghosts-put_pulls : goal.ghosts-put_pulls
ghosts-put_pulls g a = record { name = a.blank.name; parts = a.blank.parts }
