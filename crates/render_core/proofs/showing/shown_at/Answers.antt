use Rattle.std.proofs.Common.{length, subst, sym}
use Rattle.render_core.specs.Finds.{binding_at}
use Rattle.render_core.specs.Seen.{cells_seen, input_seen, program_seen}
use Rattle.render_core.specs.Shows.{Shows}
use Rattle.render_core.specs.declared.held.Kept.{Kept}
use Rattle.render_core.specs.declared.showing.Shown.TheVariants as shown
use Rattle.render_core.proofs.Shows.{shows_block}
use Rattle.render_core.proofs.showing.shown_at.Goals as goal

pub returns-in-Block-clause-shows : goal.returns-in-Block-clause-shows
returns-in-Block-clause-shows c =
    let at = c.args.point in
    let p = program_seen at in
    let input = input_seen at in
    let bound = at.bound.now in
    subst (λ (k : Kept). Shows p (cells_seen at) (length bound) (binding_at p input bound c.args.at) (shown.Block k))
    (sym c.lowered.ensures)
    (shows_block p c.args.at c.in-Block.kept input bound c.in-Some.variable.now c.in-Some.ensures c.in-Block.is)
