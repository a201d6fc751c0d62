use Rattle.soyc_c.specs.TemplateFiles.{file_contents}
use Rattle.soyc_c.proofs.OpeningLimits.{replies_same}
use Rattle.soyc_c.proofs.Openings.{opens_data, opens_entry, opens_ok}
use Rattle.soyc_c.proofs.opened.answered.Goals as goal

pub returns-in-Ok : goal.returns-in-Ok
returns-in-Ok c = λ t json opens content are.
    opens_ok t (file_contents t) content are c.args.name.now json c.in-Ok.page (rw c.in-Ok.is at opens)

pub returns-in-Err-Because-Data : goal.returns-in-Err-Because-Data
returns-in-Err-Because-Data c = λ t json opens content are.
    let it = c.in-Err-Because-Data in
    replies_same _ _ c.data_fault.result
    (opens_data t (file_contents t) content are c.args.name.now json it.fault
    (rw (it.is, it.field-0-is, it.field-0-0-is) at opens)) c.data_fault.ensures

pub returns-in-Err-Because-Entry : goal.returns-in-Err-Because-Entry
returns-in-Err-Because-Entry c = λ t json opens content are.
    let it = c.in-Err-Because-Entry in
    replies_same _ _ c.no_entry.result
    (opens_entry t (file_contents t) content are c.args.name.now json
    (rw (it.is, it.field-0-is, it.field-0-0-is) at opens)) c.no_entry.ensures
