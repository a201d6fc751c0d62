use Rattle.std.proofs.Common.{◌≡◌, length}
use Rattle.bidi_order.specs.Elements.{left_open}
use Rattle.bidi_preview.specs.AutoDirections.{OpenName}
use Rattle.bidi_preview.specs.SearchedNames.{AreCounted}
use Rattle.bidi_preview.proofs.direction.Directions.read_end.Given as goal

abbrev pub invariant-loop-element : goal.invariant-loop-element
invariant-loop-element l = record {
  names : AreCounted l.self;
  left : left_open (λ (w : OpenName). w.name) l.name.items l.self.opened
      ≡ left_open (λ (w : OpenName). w.name) l.name.items l.initial.self.opened;
  answers : l.self.answers.items ≡ l.initial.self.answers.items;
}

abbrev pub decreases-loop-element : goal.decreases-loop-element
decreases-loop-element l = length l.self.opened
