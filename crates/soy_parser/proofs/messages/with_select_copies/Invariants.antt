use Rattle.std.proofs.Common.{◌≡◌, ◌++◌, drop}
use Rattle.soy_parser.specs.Nodes.{select_cases}
use Rattle.soy_parser.proofs.messages.with_select_copies.Given as goal

-- the cases so far, with those that are left, are all
abbrev pub invariant-loop-word : goal.invariant-loop-word
invariant-loop-word l =
    l.cases ++ select_cases (drop l.word-index l.words) l.body ≡ l.initial.cases ++ select_cases l.words l.body
