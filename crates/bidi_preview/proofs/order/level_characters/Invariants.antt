use Rattle.std.proofs.Common.{◌≡◌, ◌++◌, drop}
use Rattle.bidi_preview.specs.OrderSteps.{leveled_from}
use Rattle.bidi_preview.proofs.order.level_characters.Given as goal

abbrev pub invariant-loop-index : goal.invariant-loop-index
invariant-loop-index l = l.characters.items ++ leveled_from (drop l.index l.line) (drop l.index l.levels)
    ≡ leveled_from l.line l.levels
