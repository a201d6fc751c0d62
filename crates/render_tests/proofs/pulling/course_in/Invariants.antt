use Rattle.render_tests.proofs.pulling.course_in.Given as goal

abbrev pub ghosts-course_from : goal.ghosts-course_from
ghosts-course_from a = record { name = a.blank.name; parts = a.blank.parts }
