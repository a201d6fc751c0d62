use Rattle.std.proofs.Common.{◌≡◌, arith}
use Rattle.soy_base.specs.Appends.{Appends}
use Rattle.work_gen.specs.Source.{call_line, each_below}
use Rattle.work_gen.proofs.Lines.{begins_each, more_of_each}
use Rattle.work_gen.proofs.source.push_calls.Goals as goal

pub loop-k-init : goal.loop-k-init
loop-k-init c = begins_each c.args.out.now call_line

pub loop-k-preserved : goal.loop-k-preserved
loop-k-preserved c =
    more_of_each c.args.out.now c.loop-k.out c.push_call.new.out c.loop-k.k call_line c.loop-k.invariant
    c.in_ok-push_call.ensures

pub returns : goal.returns
returns c =
    let done : c.loop-k.k ≡ c.args.count = omega arith in
    rw (done) at c.loop-k.invariant
