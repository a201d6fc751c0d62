use Rattle.value_cursor.proofs.AsciiForms.{begins_with, first_form}
use Rattle.value_cursor.proofs.plan.Plan.ascii_form.Goals as goal

pub returns-in-Some : goal.returns-in-Some
returns-in-Some c =
    first_form c.args.self.now c.args.text.now c.in-Some.byte.now c.ascii_form.result c.in-Nothing.is c.utf8.text
    (begins_with c.args.text.now c.in-Some.byte.now (rw c.as_bytes.ensures.value at c.in-Some.ensures.value))
    c.if-byte-lt128.true c.ascii_form.ensures
