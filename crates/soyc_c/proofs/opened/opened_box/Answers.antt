use Rattle.soyc_c.proofs.opened.opened_box.Goals as goal

pub returns-in-Ok-held_page-clause-ok : goal.returns-in-Ok-held_page-clause-ok
returns-in-Ok-held_page-clause-ok c = λ content are.
    rw c.in-Ok-held_page.ensures (c.in-Ok.ensures content are).1

pub returns-in-Ok-held_page-clause-answers : goal.returns-in-Ok-held_page-clause-answers
returns-in-Ok-held_page-clause-answers c = λ content are. (c.in-Ok.ensures content are).0
