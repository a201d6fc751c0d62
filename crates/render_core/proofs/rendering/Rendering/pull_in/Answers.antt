use Rattle.render_core.proofs.rendering.Rendering.pull_in.Goals as goal

pub give-requires : goal.give-requires
give-requires g c = c.requires.piece
