use Rattle.std.proofs.Common.{◌≡◌, length, reverse}
use Rattle.bidi_preview.specs.NeutralSteps.{PairsSoFar, counting_brackets}
use Rattle.bidi_preview.proofs.brackets.find_pairs.Given as goal

abbrev pub invariant-loop-index : goal.invariant-loop-index
invariant-loop-index l = record {
  long : length l.partners.items ≡ length l.classes;
  pairs : PairsSoFar (counting_brackets l.classes l.brackets) l.index (reverse l.opened.items) l.partners.items;
}
