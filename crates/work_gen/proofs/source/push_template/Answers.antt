use Rattle.std.proofs.Common.{◌<◌, ◌^◌, ◌++◌, codes, refl, arith}
use Rattle.std.specs.Fmt.{decimal}
use Rattle.work_gen.specs.Source.{line}
use Rattle.work_gen.proofs.Encoded.{appends_bytes, appends_twice, literal}
use Rattle.work_gen.proofs.Lines.{message_bytes, template_bytes}
use Rattle.work_gen.proofs.source.push_template.Goals as goal

pub returns : goal.returns
returns c =
    let old = c.args.out.now in
    let first = c.writeln.new.self in
    let second = c.writeln-2.new.self in
    let third = c.writeln-3.new.self in
    let new = c.writeln-4.new.self in
    let k = c.args.k in
    let small : k < 2 ^ 64 = omega (arith, c.ranges.k) in
    let head = line (codes "{template t" ++ (decimal k ++ codes "}")) in
    let param = codes "{@param n: int}\n" in
    let message = line (codes "<p>{msg desc=\"" ++ (decimal k ++ (codes "\"}{plural $n}{case 1}one of " ++ (decimal k
    ++ (codes "{default}{$n} of " ++ (decimal k ++ codes "{/plural}{/msg}</p>")))))) in
    let end = codes "{/template}\n" in
    appends_twice old first new head (param ++ (message ++ end))
    (appends_bytes old first (template_bytes k small) c.in_ok-writeln.ensures.bytes)
    (appends_twice first second new param (message ++ end)
    (appends_bytes first second (literal param refl) c.in_ok-writeln-2.ensures.bytes)
    (appends_twice second third new message end
    (appends_bytes second third (message_bytes k small) c.in_ok-writeln-3.ensures.bytes)
    (appends_bytes third new (literal end refl) c.in_ok-writeln-4.ensures.bytes)))
