use Rattle.soy_page.proofs.Filled.{gave_more}
use Rattle.soy_page.proofs.page.Page.pull.Goals as goal

pub loop-given-preserved : goal.loop-given-preserved
loop-given-preserved c =
    let given = c.in-Ok.ensures in
    gave_more _ _ _ _ _ _ _ _ c.loop-given.invariant given.keeps given.gives c.pull_piece-in-loop-given.auto.room
