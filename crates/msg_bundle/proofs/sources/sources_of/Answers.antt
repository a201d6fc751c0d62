use Rattle.std.proofs.Common.{◌≡◌, ◌∷◌, ◌+◌, ◌-◌, ◌<◌, ◌≤◌, length, drop, sym, ap, ◌∙◌, subst, arith}
use Rattle.msg_bundle.specs.Sources.{FindsRows}
use Rattle.msg_bundle.proofs.SourceSteps.{row_added, row_drop}
use Rattle.msg_bundle.proofs.sources.sources_of.Goals as goal

pub loop-left-preserved : goal.loop-left-preserved
loop-left-preserved c =
    let rows = c.args.rows.now in
    let left = c.loop-left.left in
    let within : left ≤ length rows = c.loop-left.invariant.within in
    let some : 0 < left = c.loop-left-test.true in
    let below : left - 1 < length rows = omega (arith, within, some) in
    let next : (left - 1) + 1 ≡ left = omega (arith, some) in
    let row = c.index-rows-left.result in
    let dropped : drop (left - 1) rows ≡ row ∷ drop left rows =
    row_drop rows (left - 1) row below c.index-rows-left.is ∙ ap (λ i. row ∷ drop i rows) next in
    record {
      within = omega (arith, within, some);
      finds =
          subst (FindsRows c.insert.new.self) (sym dropped)
          (row_added c.loop-left.sources c.insert.new.self c.text.result _ (drop left rows) c.text.utf8
          c.text.ensures.characters c.in_ok-insert.ensures.updates c.loop-left.invariant.finds);
    }
