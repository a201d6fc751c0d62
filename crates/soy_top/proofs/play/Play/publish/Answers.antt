use Rattle.std.proofs.lemmas.Result.{IfOk-weaker}
use Rattle.std.proofs.Common.{ap, codes, ◌∙◌}
use Rattle.soy_top.specs.Line.{ended}
use Rattle.soy_top.specs.Scripts.Played.{named_line}
use Rattle.soy_top.specs.Scripts.ViewScript.{view_bundle}
use Rattle.soy_top.proofs.CheckedLines.{publish_shows}
use Rattle.soy_top.proofs.play.Play.publish.Goals as goal

pub returns : goal.returns
returns c =
    IfOk-weaker c.named_line.result _ _ (λ text is. publish_shows c.args.self.now (view_bundle c.args.bundle)
    c.in_ok-program.program.value _ _ _ c.in_ok-program.ensures c.publish.ensures
    (is ∙ ap (λ n. ended (named_line (codes "published") n)) c.bundle_number.ensures)) c.named_line.ensures
