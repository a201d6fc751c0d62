use Rattle.escapers.proofs.ShortForms.{found_len}
use Rattle.escapers.proofs.characters.row_len.Goals as goal

pub returns-in-Some : goal.returns-in-Some
returns-in-Some g c =
    found_len c.args.table.now c.args.c c.in-Some.row.now c.in-Some.ensures.row c.in-Some.ensures.utf8
