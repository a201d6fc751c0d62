use Rattle.value_tests.proofs.evaluation.operator_text.Given as goal

abbrev pub ghosts-value_text : goal.ghosts-value_text
ghosts-value_text a = record { name = a.blank.name; parts = a.blank.parts }
