use Rattle.std.proofs.Common.{◌≡◌, ◌≤◌, ◌++◌, drop}
use Rattle.bidi_order.specs.Explicit.{explicit_characters, explicit_from}
use Rattle.bidi_preview.specs.ExplicitSteps.{view_status}
use Rattle.bidi_preview.proofs.explicit.read_explicit.Given as goal

abbrev pub invariant-loop-index : goal.invariant-loop-index
invariant-loop-index l = record {
  base : l.status.base ≡ l.base;
  isolates : l.status.overflow_isolates ≤ l.index;
  embeddings : l.status.overflow_embeddings ≤ l.index;
  valid : l.status.valid_isolates ≤ l.index;
  list : l.kept.items ++ explicit_from (view_status l.status) (drop l.index l.line) ≡ explicit_characters l.base l.line;
}
