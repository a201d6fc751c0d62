use Rattle.std.proofs.Common.{◌≡◌, ◌-◌, ◌+◌, [], ◌++◌, sym, ap, ◌∙◌, append-nil, arith}
use Rattle.std.specs.Str.{chars}
use Rattle.std.specs.String.{string_bytes}
use Rattle.work_gen.specs.Data.{comma_after, item_from, item_json, items_from, items_json}
use Rattle.work_gen.specs.Draws.{state_after}
use Rattle.work_gen.proofs.Items.{items_done, items_step, one_more}
use Rattle.work_gen.proofs.data.push_items.Goals as goal

pub loop-before-preserved : goal.loop-before-preserved
loop-before-preserved c =
    let l = c.loop-before in
    let before = chars (string_bytes l.out) in
    let left = items_from (c.args.count - (l.before + 1)) (state_after 5 l.draws.state) in
    rw c.in_ok-push_item.ensures.state (one_more before (chars (string_bytes c.push_comma.new.out))
    (chars (string_bytes c.push_item.new.out)) (comma_after l.before) (item_json (item_from l.draws.state))
    (items_json (l.before + 1) left)
    (chars (string_bytes c.args.out.now) ++ items_json 0 (items_from c.args.count c.args.draws.now.state))
    c.in_ok-push_comma.ensures c.in_ok-push_item.ensures.ok
    (ap (λ rest. before ++ rest) (sym (items_step l.before c.args.count l.draws.state c.loop-before-test.true))
    ∙ l.invariant))

pub returns : goal.returns
returns c =
    let l = c.loop-before in
    let done : l.before ≡ c.args.count = omega arith in
    sym (append-nil (chars (string_bytes l.out)))
    ∙ ap (λ rest. chars (string_bytes l.out) ++ rest) (sym (items_done l.before c.args.count l.draws.state done))
    ∙ l.invariant
