use Rattle.std.proofs.Common.{◌∙◌}
use Rattle.escapers.proofs.ShortForms.{found_bytes, found_short}
use Rattle.escapers.proofs.characters.put_row.Goals as goal

pub put-requires-clause-size : goal.put-requires-clause-size
put-requires-clause-size g c =
    found_short c.args.table.now c.args.c c.find.result c.requires.short c.find.ensures.row c.find.ensures.utf8

pub returns : goal.returns
returns g c =
    c.put.ensures ∙ found_bytes c.args.table.now c.args.c c.find.result c.find.ensures.row c.find.ensures.utf8
