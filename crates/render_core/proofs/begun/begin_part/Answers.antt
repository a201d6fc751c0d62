use Rattle.render_core.specs.Rest.{string_text}
use Rattle.render_core.specs.Seen.{cells_seen, input_seen, program_seen}
use Rattle.render_core.specs.Variables.{path_value}
use Rattle.render_core.proofs.Givens.{form_whole}
use Rattle.render_core.proofs.begun.begin_part.Goals as goal

pub returns-else-left-gt0-clause-given : goal.returns-else-left-gt0-clause-given
returns-else-left-gt0-clause-given c =
    let at = c.args.point in
    let fill = c.fill-n.ensures in
    form_whole (program_seen at) (input_seen at) at.bound.now c.args._place c.args.class c.args.how c.args.dir
    (string_text (path_value (cells_seen at) c.args.path)) c.args.text.now c.in-Ok.cursor c.fill-n.new.self
    c.args.room.now c.fill-n.new.room c.fill-n.result c.left.result c.args.piece.now c.requires.escapes
    c.requires.characters c.requires.none c.in-Ok.ensures.whole fill.count fill.given fill.rest
    (c.left.ensures c.args.text.now fill.fits) c.if-left-gt0.false
