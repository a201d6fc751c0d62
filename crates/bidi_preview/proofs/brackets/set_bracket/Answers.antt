use Rattle.std.proofs.Common.{sym, map, ◌∙◌, arith}
use Rattle.std.proofs.lemmas.List.{length-set}
use Rattle.bidi_order.specs.Resolve.{is_nonspacing}
use Rattle.bidi_preview.proofs.BracketsSet.{nonspacing_set, set_bracket_at}
use Rattle.bidi_preview.proofs.brackets.set_bracket.Goals as goal

pub loop-next-init : goal.loop-next-init
loop-next-init c = record {
  long = length-set c.args.classes.now c.args.index c.args.class ∙ sym c.requires;
  within = omega (arith, length-set c.args.classes.now c.args.index c.args.class);
  list = set_bracket_at c.args.index c.args.class (map is_nonspacing c.args.given.now) c.args.classes.now (omega arith);
}

pub loop-next-preserved : goal.loop-next-preserved
loop-next-preserved c = record {
  long = length-set c.loop-next.classes c.loop-next.next c.args.class ∙ c.loop-next.invariant.long;
  within = omega (arith, length-set c.loop-next.classes c.loop-next.next c.args.class);
  list = nonspacing_set c.loop-next.next c.args.class c.args.given.now c.loop-next.classes _ (omega arith)
      (sym c.loop-next.invariant.long) (sym c.is_nonspacing.ensures ∙ c.if-is_nonspacing.true)
      ∙ c.loop-next.invariant.list;
}
