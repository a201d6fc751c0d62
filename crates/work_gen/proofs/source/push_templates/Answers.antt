use Rattle.std.proofs.Common.{◌≡◌, arith}
use Rattle.soy_base.specs.Appends.{Appends}
use Rattle.work_gen.specs.Source.{template_lines, each_below}
use Rattle.work_gen.proofs.Lines.{begins_each, more_of_each}
use Rattle.work_gen.proofs.source.push_templates.Goals as goal

pub loop-k-init : goal.loop-k-init
loop-k-init c = begins_each c.args.out.now template_lines

pub loop-k-preserved : goal.loop-k-preserved
loop-k-preserved c =
    more_of_each c.args.out.now c.loop-k.out c.push_template.new.out c.loop-k.k template_lines c.loop-k.invariant
    c.in_ok-push_template.ensures

pub returns : goal.returns
returns c =
    let done : c.loop-k.k ≡ c.args.count = omega arith in
    rw (done) at c.loop-k.invariant
