use Rattle.std.proofs.Common.{◌++◌, ap, codes, sym}
use Rattle.value_cursor.proofs.Enclosed.{opening_bytes}
use Rattle.value_cursor.proofs.Givings.{gives_same}
use Rattle.value_cursor.proofs.whole.put_plain.Goals as goal

pub returns : goal.returns
returns c =
    let text = c.args.text.now in
    gives_same ((opening_bytes c.args.direction ++ text) ++ codes "</span>") c.put_between.ensures
    (ap (λ l. (l ++ text) ++ codes "</span>") (sym c.span_begin.ensures.tag))
