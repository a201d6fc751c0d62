use Rattle.bidi_preview.proofs.BracketsSet.{inside_as, inside_is}
use Rattle.bidi_preview.proofs.brackets.direction_of.Goals as goal

pub returns : goal.returns
returns c = cc (
  c.pair_direction.ensures,
  inside_is c.args.own c.args.sos c.args.classes.now c.args.first c.args.last c.min-start.result c.min-end.result
      c.requires c.min-end.ensures c.min-start.ensures,
  inside_as c.args.own c.args.sos c.args.classes.now c.args.first c.args.last c.min-start.result c.min-end.result
      c.requires c.min-end.ensures c.min-start.ensures,
)
