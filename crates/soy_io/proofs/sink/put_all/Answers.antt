use Rattle.std.proofs.Common.{◌≤◌, ◌+◌, ◌-◌, length, drop, arith, length-take, length-drop}
use Rattle.soy_io.proofs.AddedParts.{put_next}
use Rattle.soy_io.proofs.sink.put_all.Goals as goal

pub loop-taken-preserved : goal.loop-taken-preserved
loop-taken-preserved g c =
    let done = c.loop-taken.taken in
    let bytes = c.args.bytes.now in
    let held = c.loop-taken.invariant in
    let took = c.in-Ok.ensures.taken in
    let within : done + c.in-Ok.count ≤ length bytes =
    omega (
      arith,
      took.1,
      length-take (length bytes - done) (drop done bytes),
      length-drop done bytes,
      held.within,
      c.loop-taken-test.true,
    ) in
    record {
      within = within;
      prefix = put_next _ _ _ done c.in-Ok.count bytes held.prefix took.0 within;
      later = omega (arith, held.later, c.put.ensures.later);
    }
