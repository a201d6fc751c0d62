use Rattle.std.proofs.Common.{◌≡◌, ◌++◌, Some, drop, map}
use Rattle.bidi_order.specs.Resolve.{implicit}
use Rattle.bidi_preview.proofs.flat.implicit_levels.Given as goal

abbrev pub invariant-loop-class : goal.invariant-loop-class
invariant-loop-class l =
    l.levels.items ++ map Some (map (implicit l.level) (drop l.class-index l.classes))
    ≡ map Some (map (implicit l.level) l.classes)
