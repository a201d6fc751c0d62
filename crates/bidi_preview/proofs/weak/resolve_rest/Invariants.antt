use Rattle.std.proofs.Common.{◌≡◌, ◌++◌, take, drop}
use Rattle.bidi_class.specs.declared.class.Class.TheVariants.{ON}
use Rattle.bidi_preview.specs.WeakSteps.{rest_resolved}
use Rattle.bidi_preview.proofs.weak.resolve_rest.Given as goal

abbrev pub invariant-loop-class : goal.invariant-loop-class
invariant-loop-class l =
    take l.class-index l.classes ++ rest_resolved l.before l.strong (drop l.class-index l.classes)
    ≡ rest_resolved ON l.fn.sos l.initial.classes
