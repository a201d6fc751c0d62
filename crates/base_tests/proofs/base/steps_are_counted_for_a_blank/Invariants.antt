use Rattle.base_tests.proofs.base.steps_are_counted_for_a_blank.Given as goal

abbrev pub ghosts-counted : goal.ghosts-counted
ghosts-counted g a = record { name = a.blank.name; parts = a.blank.parts }
