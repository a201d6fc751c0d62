use Rattle.std.proofs.Common.{◌≡◌, ◌∷◌, ◌+◌, ◌-◌, ◌<◌, ◌≤◌, length, drop, sym, ap, ◌∙◌, subst, arith}
use Rattle.soy_check.specs.Named.{FindsParams}
use Rattle.soy_tree.proofs.Drops.{drop_next}
use Rattle.soy_check.proofs.FirstOfNames.{param_added}
use Rattle.soy_check.proofs.template.first_of_names.Goals as goal

pub loop-left-preserved : goal.loop-left-preserved
loop-left-preserved c =
    let params = c.args.params.now in
    let left = c.loop-left.left in
    let within : left ≤ length params = c.loop-left.invariant.within in
    let some : 0 < left = c.loop-left-test.true in
    let below : left - 1 < length params = omega (arith, within, some) in
    let next : (left - 1) + 1 ≡ left = omega (arith, some) in
    let param = c.index-params-left.result in
    let dropped : drop (left - 1) params ≡ param ∷ drop left params =
    drop_next params (left - 1) param below c.index-params-left.is ∙ ap (λ i. param ∷ drop i params) next in
    record {
      within = omega (arith, within, some);
      found =
          subst (FindsParams c.insert.new.self.entries) (sym dropped)
          (param_added c.loop-left.first c.insert.new.self c.text.result _ (drop left params) c.text.utf8
          c.text.ensures.characters c.in_ok-insert.ensures.updates c.loop-left.invariant.found);
    }
