use Rattle.std.proofs.Common.{◌≡◌, ◌++◌, drop}
use Rattle.soy_parser.specs.Nodes.{plural_cases}
use Rattle.soy_parser.proofs.messages.with_plural_copies.Given as goal

-- the cases so far, with those that are left, are all
abbrev pub invariant-loop-value : goal.invariant-loop-value
invariant-loop-value l =
    l.cases ++ plural_cases (drop l.value-index l.values) l.body ≡ l.initial.cases ++ plural_cases l.values l.body
