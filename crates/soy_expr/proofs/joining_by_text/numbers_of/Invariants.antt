use Rattle.std.proofs.Common.{map, take}
use Rattle.soy_tree.specs.ViewTypes.{view_type}
use Rattle.soy_expr.specs.TypeNumbers.{HasTexts}
use Rattle.soy_expr.proofs.joining_by_text.numbers_of.Given as goal

abbrev pub invariant-loop-number : goal.invariant-loop-number
invariant-loop-number l = HasTexts l.numbers (map view_type (take l.number l.types))
