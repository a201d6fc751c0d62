use Rattle.std.proofs.Common.{Some, subst, sym}
use Rattle.std.proofs.lemmas.Result.{IfOk-weaker}
use Rattle.std.specs.String.{string_bytes}
use Rattle.soy_top.specs.Scripts.ViewPlay.{PlaysLine}
use Rattle.soy_top.specs.Scripts.ViewScript.{view_line}
use Rattle.soy_top.specs.declared.script.ScriptLine as code_line
use Rattle.soy_top.proofs.play.Play.play_step.Goals as goal

pub returns-in-Pull : goal.returns-in-Pull
returns-in-Pull g c =
    IfOk-weaker c.pull.result _ _ (λ text shows. subst (λ (l : code_line.ScriptLine). PlaysLine c.args.self.now
    (Some (view_line l)) c.args.desk.now c.pull.new.desk (string_bytes text)) (sym c.in-Pull.is)
    (shows c.args.self.now.first.value c.args.self.now.second.value)) c.pull.ensures

pub returns-in-Close : goal.returns-in-Close
returns-in-Close g c =
    IfOk-weaker c.close.result _ _ (λ text shows. subst (λ (l : code_line.ScriptLine). PlaysLine c.args.self.now
    (Some (view_line l)) c.args.desk.now c.close.new.desk (string_bytes text)) (sym c.in-Close.is)
    (shows c.args.self.now.first.value c.args.self.now.second.value)) c.close.ensures
