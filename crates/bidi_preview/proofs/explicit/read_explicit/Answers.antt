use Rattle.std.proofs.Common.{◌≡◌, ◌+◌, ◌++◌, drop, sym, subst, ◌∙◌, arith}
use Rattle.bidi_order.specs.Explicit.{explicit_characters, explicit_from}
use Rattle.bidi_preview.specs.ExplicitSteps.{view_status}
use Rattle.bidi_preview.proofs.Tops.{explicit_more}
use Rattle.bidi_preview.proofs.explicit.read_explicit.Goals as goal

pub loop-index-preserved : goal.loop-index-preserved
loop-index-preserved c = record {
  base = c.in_ok-k.ensures.base ∙ c.loop-index.invariant.base;
  isolates = omega (arith, c.in_ok-k.ensures.isolates, c.loop-index.invariant.isolates);
  embeddings = omega (arith, c.in_ok-k.ensures.embeddings, c.loop-index.invariant.embeddings);
  valid = omega (arith, c.in_ok-k.ensures.valid, c.loop-index.invariant.valid);
  list = subst (λ l. l ++ explicit_from (view_status c.read.new.self) (drop (c.loop-index.index + 1) c.args.line.now)
      ≡ explicit_characters c.args.base c.args.line.now) (sym c.in_ok-push.ensures.items)
      (explicit_more (view_status c.loop-index.status) (view_status c.read.new.self) c.args.line.now
      c.args.classes.now c.loop-index.index _ c.index-line-index.result _ c.in_ok-k.k c.loop-index.kept.items _
      (omega arith) c.index-line-index.is c.requires.classes c.in_ok-k.ensures.kept c.in_ok-k.ensures.status
      c.loop-index.invariant.list);
}
