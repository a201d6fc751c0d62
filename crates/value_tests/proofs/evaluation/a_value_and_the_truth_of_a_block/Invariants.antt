use Rattle.value_tests.proofs.evaluation.a_value_and_the_truth_of_a_block.Given as goal

abbrev pub ghosts-calls : goal.ghosts-calls
ghosts-calls g a = record { name = a.blank.name; parts = a.blank.parts }
