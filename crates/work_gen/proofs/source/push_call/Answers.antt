use Rattle.std.proofs.Common.{arith}
use Rattle.work_gen.proofs.Encoded.{appends_bytes}
use Rattle.work_gen.proofs.Lines.{call_bytes}
use Rattle.work_gen.proofs.source.push_call.Goals as goal

pub returns : goal.returns
returns c = appends_bytes c.args.out.now c.writeln.new.self (call_bytes c.args.k (omega (arith, c.ranges.k)))
    c.in_ok-writeln.ensures.bytes
