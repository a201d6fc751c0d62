use Rattle.std.proofs.Common.{◌≡◌, ◌++◌, take, drop}
use Rattle.bidi_preview.specs.WeakSteps.{letters_resolved}
use Rattle.bidi_preview.proofs.weak.resolve_letters.Given as goal

abbrev pub invariant-loop-class : goal.invariant-loop-class
invariant-loop-class l =
    take l.class-index l.classes ++ letters_resolved l.before l.strong (drop l.class-index l.classes)
    ≡ letters_resolved l.fn.sos l.fn.sos l.initial.classes
