use Rattle.std.proofs.Common.{[], length, reverse, ap, sym, subst, ◌∙◌, arith, None}
use Rattle.std.proofs.lemmas.List.{length-replicate}
use Rattle.bidi_preview.specs.NeutralSteps.{PairsSoFar, counting_brackets}
use Rattle.bidi_preview.proofs.PairsFound.{found_start, read_end}
use Rattle.bidi_preview.proofs.brackets.find_pairs.Goals as goal

pub loop-index-init : goal.loop-index-init
loop-index-init c = record {
  long = ap length c.in_ok-partners.ensures ∙ length-replicate (length c.args.classes.now) None;
  pairs = subst (λ o. PairsSoFar (counting_brackets c.args.classes.now c.args.brackets.now) 0 (reverse o)
      c.in_ok-partners.partners.items) (sym c.new-opened.ensures.items)
      (subst (PairsSoFar (counting_brackets c.args.classes.now c.args.brackets.now) 0 [])
      (sym c.in_ok-partners.ensures)
      (found_start (counting_brackets c.args.classes.now c.args.brackets.now) (length c.args.classes.now)));
}

pub returns-clause-pairs : goal.returns-clause-pairs
returns-clause-pairs c = read_end c.args.classes.now c.args.brackets.now c.loop-index.index
    (reverse c.loop-index.opened.items) c.loop-index.partners.items c.requires (omega arith)
    c.loop-index.invariant.pairs
