use Rattle.render_tests.proofs.loops.first_letters.Given as goal

abbrev pub ghosts-letters : goal.ghosts-letters
ghosts-letters a = record { name = a.blank.name; parts = a.blank.parts }
