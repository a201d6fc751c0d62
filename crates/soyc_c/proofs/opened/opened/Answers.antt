use Rattle.soyc_c.proofs.OpeningLimits.{opens_no_text, opens_text}
use Rattle.soyc_c.proofs.opened.opened.Goals as goal

pub returns-in-Ok : goal.returns-in-Ok
returns-in-Ok c = λ content are.
    let read = c.in-Ok.ensures.cases in
    opens_text c.args.shared.now are.of c.args.name.now c.args.json.now c.opened_text.result
    read.1 (rw read.0 at c.opened_text.ensures content are)

pub returns-in-Err : goal.returns-in-Err
returns-in-Err c = λ content are.
    opens_no_text c.args.shared.now are.of c.args.name.now c.args.json.now
    c.in-Err.ensures.cases.0
