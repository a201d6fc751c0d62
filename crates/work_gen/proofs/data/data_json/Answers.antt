use Rattle.std.proofs.Common.{ℕ, ◌++◌, codes, refl}
use Rattle.work_gen.specs.Data.{items_from, items_json}
use Rattle.work_gen.proofs.Encoded.{appends_bytes, appends_first, appends_twice, literal}
use Rattle.work_gen.proofs.data.data_json.Goals as goal

pub returns : goal.returns
returns c =
    let empty = c.new-json.result in
    let opened = c.push_text.new.out in
    let filled = c.push_items.new.out in
    let whole = c.push_text-2.new.out in
    let open_text = codes "{\"items\":[" in
    let items = λ (state : ℕ). items_json 0 (items_from c.args.count state) in
    let end = codes "]}" in
    appends_first empty whole (open_text ++ (items c.args.number ++ end)) c.new-json.ensures.bytes
    (appends_twice empty opened whole open_text (items c.args.number ++ end)
    (appends_bytes empty opened (literal open_text refl) c.in_ok-push_text.ensures.bytes)
    (appends_twice opened filled whole (items c.args.number) end
    (rw (← c.new-draws.ensures) c.in_ok-push_items.ensures)
    (appends_bytes filled whole (literal end refl) c.in_ok-push_text-2.ensures.bytes)))
