-- The plan that a row of a table stands for.
--
-- A row names rows by their numbers; where a number is smaller than its own it means that row's plan, and else nothing.
-- So each row's plan is made from those of the rows before it.
-- Example: of the rows `Text "a"`, `Hole` and `InTurn [0, 1]` the last has the plan of the text and then the hole.
use Rattle.std.specs.Prelude.{ℕ, List, get_or, map, take}
use Rattle.soy_meaning.specs.Paths.Plan.{Plan, Nothing, Hole, Loop, Frame, in_turn, arms_meet}
use Rattle.soy_meaning.specs.Paths.PlanOfParts.{text_plan}
use Rattle.soy_base.specs.Table.{table}
use Rattle.html_context.specs.Walks.{view_site}
use Rattle.html_context.specs.declared.table.Row.{Row}
use Rattle.html_context.specs.declared.table.Row.TheVariants as row

-- the plan of a number among these, which are those of the rows before
abbrev pub plan_among : List Plan → ℕ → Plan
plan_among before n = get_or before n Nothing

abbrev pub row_plan : List Plan → Row → Plan
row_plan before (row.Text at text) = text_plan (view_site at) text
row_plan before (row.Hole at classes) = Hole (view_site at) classes
row_plan before (row.InTurn numbers) = in_turn (map (plan_among before) numbers)
row_plan before (row.Meet at numbers) = arms_meet (view_site at) (map (plan_among before) numbers)
row_plan before (row.Loop at body) = Loop (view_site at) (plan_among before body)
row_plan before (row.Frame kind at body) = Frame kind (view_site at) (plan_among before body)

-- the plans of all rows
abbrev pub row_plans : List Row → List Plan
row_plans rows = table row_plan rows

-- the plan of a number; nothing where there is no such row
abbrev pub plan_at : List Row → ℕ → Plan
plan_at rows n = plan_among (row_plans rows) n

-- the plans of the rows before a number, as a row of it means them
abbrev pub plans_before : List Row → ℕ → List Plan
plans_before rows limit = take limit (row_plans rows)

abbrev pub plan_below : List Row → ℕ → ℕ → Plan
plan_below rows limit n = plan_among (plans_before rows limit) n
