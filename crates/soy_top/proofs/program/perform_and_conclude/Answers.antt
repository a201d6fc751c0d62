use Rattle.soy_top.proofs.Courses.{course-ending}
use Rattle.soy_top.proofs.program.perform_and_conclude.Goals as goal

pub returns-in-Err-clause-course : goal.returns-in-Err-clause-course
returns-in-Err-clause-course g c =
    let concluded = rw c.in-Err.ensures.same_err at c.conclude.ensures.concluded in
    course-ending _ _ _ c.in-Err.ending c.in-Err.ensures.may_end concluded c.in-Err.ensures.same_out
