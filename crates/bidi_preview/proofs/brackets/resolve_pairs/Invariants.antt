use Rattle.std.proofs.Common.{◌≡◌, drop, length, map}
use Rattle.bidi_order.specs.Resolve.{is_nonspacing, n0}
use Rattle.bidi_preview.specs.NeutralSteps.{listed_pairs}
use Rattle.bidi_preview.proofs.brackets.resolve_pairs.Given as goal

abbrev pub invariant-loop-first : goal.invariant-loop-first
invariant-loop-first l = record {
  long : length l.classes ≡ length l.given;
  list : n0 l.own l.sos (map is_nonspacing l.given) (listed_pairs l.first (drop l.first l.partners)) l.classes
      ≡ n0 l.own l.sos (map is_nonspacing l.given) (listed_pairs 0 l.partners) l.initial.classes;
}
