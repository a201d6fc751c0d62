use Rattle.std.proofs.Common.{◌≡◌, ◌++◌, drop, map}
use Rattle.bidi_class.specs.Class.{bidi_class}
use Rattle.bidi_preview.proofs.explicit.read_classes.Given as goal

abbrev pub invariant-loop-c : goal.invariant-loop-c
invariant-loop-c l = l.classes.items ++ map bidi_class (drop l.c-index l.line) ≡ map bidi_class l.line
