use Rattle.std.proofs.Common.{Some, sym, ap, ◌∙◌}
use Rattle.soyc_c.proofs.PartBytes.{text-utf8, text-not_utf8}
use Rattle.soyc_c.proofs.parts.text_of.Goals as goal

pub returns-in-Ok : goal.returns-in-Ok
returns-in-Ok c =
    let read = c.in-Ok.ensures.cases in ap Some read.0 ∙ sym (text-utf8 _ _ (sym c.in-Some.ensures) read.1)

pub returns-in-Err : goal.returns-in-Err
returns-in-Err c = sym (text-not_utf8 _ _ (sym c.in-Some.ensures) c.in-Err.ensures.cases.0)
