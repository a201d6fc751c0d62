-- What is kept of the bodies of loops: each entry says what the walk of a body's plan gives.
--
-- Example: of a body that is a text `b` there may be kept that data leads to data, with no place.
use Rattle.std.specs.Prelude.{◌≡◌, List, [], Ok}
use Rattle.std.specs.List.{All}
use Rattle.soy_meaning.specs.Walks.PageMachine.{page_machine}
use Rattle.soy_meaning.specs.Walks.Walk.{walk, walked}
use Rattle.html_context.specs.RowPlans.{plan_at}
use Rattle.html_context.specs.declared.memo.Kept.{Kept}
use Rattle.html_context.specs.declared.memo.Memo.{Memo}
use Rattle.html_context.specs.declared.table.Row.{Row}

abbrev pub IsKept : List Row → Kept → Type 0
IsKept rows k =
    walk page_machine (plan_at rows k.body) (walked k.before.items []) ≡ Ok (walked k.after.items k.places.items)

abbrev pub AllKept : List Row → Memo → Type 0
AllKept rows memo = All (λ k. IsKept rows k) memo.kept.items
