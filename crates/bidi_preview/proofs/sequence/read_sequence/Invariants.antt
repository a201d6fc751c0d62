use Rattle.std.proofs.Common.{◌≡◌, ◌≤◌, map}
use Rattle.bidi_preview.specs.SequenceSteps.{ReadSoFar, bracket_at, class_at}
use Rattle.bidi_preview.proofs.ReadSequences.{IsHere, left_over}
use Rattle.bidi_preview.proofs.sequence.read_sequence.Given as goal

abbrev pub invariant-loop-next : goal.invariant-loop-next
invariant-loop-next l = record {
  here : IsHere l.line l.next;
  chain : ReadSoFar l.base l.line l.first l.next l.sequence.indexes.items l.sequence.beside;
  classes : l.sequence.classes.items ≡ map (class_at l.base l.line) l.sequence.indexes.items;
  brackets : l.sequence.brackets.items ≡ map (bracket_at l.base l.line) l.sequence.indexes.items;
  beside : l.sequence.beside ≤ 125;
}

abbrev pub decreases-loop-next : goal.decreases-loop-next
decreases-loop-next l = left_over l.line l.next
