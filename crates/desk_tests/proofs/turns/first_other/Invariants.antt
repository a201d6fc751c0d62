use Rattle.desk_tests.proofs.turns.first_other.Given as goal

abbrev pub ghosts-answered : goal.ghosts-answered
ghosts-answered a = record { name = a.blank.name; parts = a.blank.parts }
