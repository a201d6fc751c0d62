use Rattle.std.proofs.Common.{◌≡◌, ◌++◌, drop, map}
use Rattle.bidi_preview.specs.AutoDirections.{or_left}
use Rattle.bidi_preview.proofs.direction.Directions.done.Given as goal

abbrev pub invariant-loop-answer : goal.invariant-loop-answer
invariant-loop-answer l = l.found.items ++ map or_left (drop l.answer-index l.fn.self.answers.items)
    ≡ map or_left l.fn.self.answers.items
