use Rattle.std.proofs.Common.{◌≡◌, ◌+◌, true, false, map, ap, sym, ◌∙◌, arith}
use Rattle.std.proofs.lemmas.List.{drop_all}
use Rattle.soy_rules.specs.Placeholders.{is_same_message_item}
use Rattle.msg_extract.specs.Views.ViewKeys.{view_key_item}
use Rattle.msg_extract.proofs.ItemLists.{both_ended, left_ended, right_ended, same_off, same_on}
use Rattle.msg_extract.proofs.same.are_same_items.Goals as goal

pub returns-in_default : goal.returns-in_default
returns-in_default c =
    sym (right_ended c.args.left.now (map view_key_item c.args.right.now) c.loop-item.item-index c.loop-item.number
    c.item-item.result c.loop-item-test.true c.item-item.is (sym c.in_default.ensures)) ∙ c.loop-item.invariant.same

pub returns-then-not-is_same_item : goal.returns-then-not-is_same_item
returns-then-not-is_same_item c =
    let differ : is_same_message_item (view_key_item c.item-item.result) (view_key_item c.in-Some.other.now) ≡ false =
    grind (arith, c.is_same_item.ensures, c.if-not-is_same_item.true) in
    sym (same_off c.args.left.now (map view_key_item c.args.right.now) c.loop-item.item-index c.loop-item.number
    c.item-item.result (view_key_item c.in-Some.other.now) c.loop-item-test.true c.item-item.is
    (sym c.in-Some.ensures) differ)
    ∙ c.loop-item.invariant.same

pub loop-item-preserved : goal.loop-item-preserved
loop-item-preserved c =
    let agree : is_same_message_item (view_key_item c.item-item.result) (view_key_item c.in-Some.other.now) ≡ true =
    grind (arith, c.is_same_item.ensures, c.if-not-is_same_item.false) in
    record {
      number = ap (λ n. n + 1) c.loop-item.invariant.number;
      same =
          sym (same_on c.args.left.now (map view_key_item c.args.right.now) c.loop-item.item-index c.loop-item.number
          c.item-item.result (view_key_item c.in-Some.other.now) c.loop-item-test.true c.item-item.is
          (sym c.in-Some.ensures) agree) ∙ c.loop-item.invariant.same;
    }

pub returns-in-Some-item_at : goal.returns-in-Some-item_at
returns-in-Some-item_at c =
    sym (left_ended c.args.left.now (map view_key_item c.args.right.now) c.loop-item.item-index c.loop-item.number
    (view_key_item c.in-Some-item_at.field-0.now)
    (drop_all c.loop-item.item-index c.args.left.now c.loop-item-test.false)
    (sym c.in-Some-item_at.ensures)) ∙ c.loop-item.invariant.same

pub returns-in-None : goal.returns-in-None
returns-in-None c =
    sym (both_ended c.args.left.now (map view_key_item c.args.right.now) c.loop-item.item-index c.loop-item.number
    (drop_all c.loop-item.item-index c.args.left.now c.loop-item-test.false) (sym c.in-None.ensures))
    ∙ c.loop-item.invariant.same
