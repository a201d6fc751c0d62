use Rattle.soy_page.proofs.page.Page.pull_piece.Given as goal

abbrev pub ghosts-pull_counted : goal.ghosts-pull_counted
ghosts-pull_counted a = record { name = a.blank.name; parts = a.blank.parts }
