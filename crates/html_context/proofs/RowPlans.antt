-- The plan of a number as a row means it.
use Rattle.std.proofs.Common.{◌≡◌, ℕ, ◌<◌, ◌≤◌, List, Some, get_or, length, take, sym, ap, ◌∙◌}
use Rattle.std.proofs.Common.{arith}
use Rattle.std.specs.List.{slice_get}
use Rattle.std.proofs.lemmas.List.{get_or-take, get_or_past, length-take}
use Rattle.std.proofs.lemmas.Option.{get_or_from_slice_get, slice_get-get_or}
use Rattle.soy_meaning.specs.Paths.Plan.{Nothing}
use Rattle.soy_base.proofs.Tables.{get_table, length_table}
use Rattle.html_context.specs.RowPlans.{plan_at, plan_below, plans_before, row_plan, row_plans}
use Rattle.html_context.specs.declared.table.Row.{Row}

-- a number that isn't smaller
pub below_none : (rows : List Row) (limit n : ℕ) → limit ≤ n → plan_below rows limit n ≡ Nothing
below_none rows limit n h =
    get_or_past (take limit (row_plans rows)) n Nothing (omega (arith, length-take limit (row_plans rows)))

-- a number that is
pub below_at : (rows : List Row) (limit n : ℕ) → n < limit → plan_below rows limit n ≡ plan_at rows n
below_at rows limit n h = get_or-take limit (row_plans rows) n Nothing h

-- that of no row
pub below_past : (rows : List Row) (limit n : ℕ) → length rows ≤ n → plan_below rows limit n ≡ Nothing
below_past rows limit n h =
    get_or_past (take limit (row_plans rows)) n Nothing
    (omega (arith, length-take limit (row_plans rows), length_table row_plan rows))

-- that of a row
pub at_row : (rows : List Row) (n : ℕ) (r : Row) → slice_get rows n ≡ Some r
    → plan_at rows n ≡ row_plan (plans_before rows n) r
at_row rows n r h =
    get_or_from_slice_get (row_plans rows) n (row_plan (take n (row_plans rows)) r) Nothing
    (get_table row_plan rows n r h)

pub below_row : (rows : List Row) (limit n : ℕ) (r : Row) → n < limit → n < length rows → r ≡ get_or rows n r
    → plan_below rows limit n ≡ row_plan (plans_before rows n) r
below_row rows limit n r small within is =
    below_at rows limit n small
    ∙ at_row rows n r (slice_get-get_or rows n r within ∙ ap Some (sym is))

-- the same of a number in a table
pub at_get : (rows : List Row) (n : ℕ) (r : Row) → n < length rows → r ≡ get_or rows n r
    → plan_at rows n ≡ row_plan (plans_before rows n) r
at_get rows n r within is = at_row rows n r (slice_get-get_or rows n r within ∙ ap Some (sym is))

pub at_past : (rows : List Row) (n : ℕ) → length rows ≤ n → plan_at rows n ≡ Nothing
at_past rows n h = get_or_past (row_plans rows) n Nothing (omega (arith, length_table row_plan rows))
