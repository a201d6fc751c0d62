use Rattle.std.proofs.Common.{Ok, Some, refl, subst, sym}
use Rattle.soy_top.specs.Scripts.Played.{Closes, Publishes, Pulls}
use Rattle.soy_top.specs.Scripts.ViewPlay.{ChecksLine}
use Rattle.soy_top.specs.Scripts.ViewScript.{view_line}
use Rattle.soy_top.specs.declared.script.ScriptLine as code_line
use Rattle.soy_top.proofs.play.Play.check_step.Goals as goal

pub returns-in-Pull : goal.returns-in-Pull
returns-in-Pull c =
    subst (λ (l : code_line.ScriptLine). ChecksLine c.args.self.now (Some (view_line l)) (Ok tt)) (sym c.in-Pull.is)
    (Pulls _ _, refl, tt)

pub returns-in-Close : goal.returns-in-Close
returns-in-Close c =
    subst (λ (l : code_line.ScriptLine). ChecksLine c.args.self.now (Some (view_line l)) (Ok tt)) (sym c.in-Close.is)
    (Closes _, refl, tt)

pub returns-in-Publish : goal.returns-in-Publish
returns-in-Publish c =
    subst (λ (l : code_line.ScriptLine). ChecksLine c.args.self.now (Some (view_line l)) (Ok tt)) (sym c.in-Publish.is)
    (Publishes _, refl, tt)
