use Rattle.std.proofs.Common.{◌≡◌, refl, ap, ◌∙◌, arith}
use Rattle.render_core.specs.Rest.{rest_bytes}
use Rattle.soy_top.specs.Runs.ViewOutput.{page_run}
use Rattle.soy_top.proofs.Pulling.{done_whole, pulled_none, pulled_stop, text_solid}
use Rattle.soy_top.proofs.Sums.{summed_more, summed_none, summed_whole}
use Rattle.soy_top.proofs.summary.sum_pulls.Goals as goal

pub loop-sum-init : goal.loop-sum-init
loop-sum-init g c =
    let o = page_run c.args.page.now in record {
      fits = c.in-Ok.ensures.fits;
      so_far = summed_none _ _ _ (ap rest_bytes c.in-Ok.ensures.rest ∙ text_solid o) c.new-sum.ensures;
      has_room = c.requires.room;
    }

pub returns-in-Ok-eq0 : goal.returns-in-Ok-eq0
returns-in-Ok-eq0 g c =
    let inv = c.loop-sum.invariant in
    let zero_given : c.in-Ok-eq0.field-0 ≡ 0 = omega (arith, c.in-Ok-eq0.field-0-test) in
    let none = pulled_none _ _ _ _ _ _ _ _ _ c.in-Ok-eq0.field-0 refl c.in-Ok-eq0.ensures.pulls zero_given
    inv.has_room (done_whole _ _ _ inv.fits.done) in
    summed_whole _ _ _ inv.so_far none.0

pub loop-sum-preserved : goal.loop-sum-preserved
loop-sum-preserved g c =
    let inv = c.loop-sum.invariant in record {
      fits = c.in-Ok-pull.ensures.fits;
      so_far = summed_more _ _ _ _ _ _ inv.so_far c.in-Ok-pull.ensures.bytes c.add.ensures;
      has_room = omega (arith, inv.has_room, c.pull.auto.room);
    }

pub returns-in-Err-Because : goal.returns-in-Err-Because
returns-in-Err-Because g c =
    summed_whole _ _ _ c.loop-sum.invariant.so_far (pulled_stop _ _ _ _ _ _ _ _ _ c.in-Err-Because.field-0-0
    c.in-Err-Because.field-0 c.in-Err-Because.field-0-is refl c.in-Err-Because.ensures.pulls).0
