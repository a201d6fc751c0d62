use Rattle.std.proofs.Common.{◌≡◌, ◌≤◌, length}
use Rattle.bidi_order.specs.Resolve.{n1}
use Rattle.bidi_preview.specs.NeutralSteps.{neutrals_so_far}
use Rattle.bidi_preview.proofs.neutral.resolve_neutrals.Given as goal

abbrev pub invariant-loop-index : goal.invariant-loop-index
invariant-loop-index l = record {
  long : length l.classes ≡ l.index-end;
  order : l.start ≤ l.index;
  list : neutrals_so_far l.own l.eos l.before l.start l.index l.classes ≡ n1 l.own l.fn.sos l.eos l.initial.classes;
}
