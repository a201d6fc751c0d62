use Rattle.soy_base.specs.Appends.{Appends}
use Rattle.work_gen.specs.Source.{template_lines, each_below}
use Rattle.work_gen.proofs.source.push_templates.Given as goal

abbrev pub invariant-loop-k : goal.invariant-loop-k
invariant-loop-k l = Appends l.initial.out l.out (each_below l.k template_lines)
