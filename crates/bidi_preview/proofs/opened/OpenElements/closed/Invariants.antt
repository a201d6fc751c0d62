use Rattle.std.proofs.Common.{◌≡◌, ◌++◌, length}
use Rattle.bidi_order.specs.Elements.{elements_left}
use Rattle.bidi_preview.specs.OpenedSteps.{StandsAround}
use Rattle.bidi_preview.proofs.OpenedElements.{ends_of}
use Rattle.bidi_preview.proofs.opened.OpenElements.closed.Given as goal

abbrev pub invariant-loop-element : goal.invariant-loop-element
invariant-loop-element l = record {
  around : StandsAround l.elements l.around;
  left : elements_left l.name.items l.elements ≡ elements_left l.name.items l.fn.self;
  line : l.line.items ++ ends_of l.name.items l.elements ≡ l.initial.line.items ++ ends_of l.name.items l.fn.self;
}

abbrev pub decreases-loop-element : goal.decreases-loop-element
decreases-loop-element l = length l.elements
