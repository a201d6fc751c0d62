use Rattle.std.proofs.Common.{◌∷◌, ◌++◌, [], None, ap, ◌∙◌}
use Rattle.bidi_preview.proofs.UnknownLists.{absent_more}
use Rattle.bidi_preview.proofs.absent.unknown.Goals as goal

pub loop-index-preserved : goal.loop-index-preserved
loop-index-preserved g c = c.in_ok-push.ensures.items ∙ ap (λ l. l ++ None ∷ []) c.loop-index.invariant
    ∙ absent_more c.loop-index.index
