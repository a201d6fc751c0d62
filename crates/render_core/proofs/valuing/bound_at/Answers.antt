use Rattle.render_core.specs.Seen.{input_seen, program_seen}
use Rattle.render_core.proofs.Finds.{found_path}
use Rattle.render_core.proofs.valuing.bound_at.Goals as goal

pub returns-else-root_of-at-clause-means : goal.returns-else-root_of-at-clause-means
returns-else-root_of-at-clause-means c =
    let at = c.args.point in
    found_path (program_seen at) (input_seen at) at.bound.now c.args.at c.in-Some.variable.now
    c.whole-else-root_of-at.result c.in-Part.path c.in-Some.ensures c.whole-else-root_of-at.ensures.of
    c.whole-else-root_of-at.ensures.steps c.in-Part.is
