use Rattle.std.proofs.Common.{◌≡◌, ◌++◌, drop, map}
use Rattle.bidi_preview.specs.PlainSteps.{plain_level}
use Rattle.bidi_preview.proofs.plain.plain_levels.Given as goal

abbrev pub invariant-loop-class : goal.invariant-loop-class
invariant-loop-class l = l.levels.items ++ map (plain_level l.base) (drop l.class-index l.classes)
    ≡ map (plain_level l.base) l.classes
