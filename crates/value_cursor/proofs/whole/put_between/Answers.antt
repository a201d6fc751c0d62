use Rattle.std.proofs.Common.{[], ◌++◌, ◌-◌, append-nil, drop, length, refl, sym, take}
use Rattle.value_cursor.proofs.Givings.{gives_same}
use Rattle.value_cursor.proofs.Wholes.{enclosed_given}
use Rattle.value_cursor.proofs.whole.put_between.Goals as goal

pub returns : goal.returns
returns c =
    let text = c.args.text.now in
    let closing = c.args.closing.now in
    let first = c.put_text-opened.new.room in
    let n = c.put_text-opened.result in
    enclosed_given c.args.opening.now closing
    (take n first ++ (c.put_text.new.room ++ drop (length first - n) (drop n first)))
    (c.put_text-opened.ensures.gives (text ++ closing))
    (gives_same text (c.put_text.ensures.gives []) (sym (append-nil text))) refl (c.put_text-2.ensures.gives [])
