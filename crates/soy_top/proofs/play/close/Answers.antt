use Rattle.std.proofs.Common.{refl, codes}
use Rattle.std.proofs.lemmas.Result.{IfOk-weaker}
use Rattle.soy_top.specs.Scripts.Played.{named_line}
use Rattle.soy_top.proofs.CheckedLines.{close_shows}
use Rattle.soy_top.proofs.play.close.Goals as goal

pub returns-in-Ok : goal.returns-in-Ok
returns-in-Ok c =
    IfOk-weaker c.named_line.result _ _ (λ text is first second.
    close_shows first second c.args.name c.close.result _ (named_line (codes "closed") c.args.name) _ _ _ c.in-Ok.is
    c.close.ensures refl is) c.named_line.ensures

pub returns-in-Err : goal.returns-in-Err
returns-in-Err c =
    IfOk-weaker c.named_line-in-Err.result _ _ (λ text is first second.
    close_shows first second c.args.name c.close.result _ (named_line (codes "unknown") c.args.name) _ _ _ c.in-Err.is
    c.close.ensures refl is) c.named_line-in-Err.ensures
