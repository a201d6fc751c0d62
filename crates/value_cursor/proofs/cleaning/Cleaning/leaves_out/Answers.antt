use Rattle.std.proofs.Common.{◌∙◌, ap, subst, sym}
use Rattle.value_cursor.specs.Cleaned.{MarksAscend, is_left_out}
use Rattle.value_cursor.proofs.Marked.{found_among}
use Rattle.value_cursor.proofs.cleaning.Cleaning.leaves_out.Goals as goal

pub returns-in-Marked : goal.returns-in-Marked
returns-in-Marked c =
    c.is_ok.ensures.value
    ∙ found_among c.in-Marked.marks.places c.args.offset c.binary_search.result
    (subst MarksAscend c.in-Marked.is c.requires)
    (rw c.items.ensures at c.binary_search.ensures.position)
    ∙ sym (ap (λ what. is_left_out what c.args.offset) c.in-Marked.is)
