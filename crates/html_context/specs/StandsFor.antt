-- When a table stands for a plan: the walk of its root's plan is that of the plan, from each list of states and places.
--
-- Example: `{if $a}x{/if}` is a text, what is in an arm, the way past it, and the row at which both meet.
use Rattle.std.specs.Prelude.{◌≡◌, ℕ, ◌<◌, List, ◌++◌, Result, Ok, Err, length, map, take}
use Rattle.std.specs.declared.alloc.Global.{Global}
use Rattle.std.specs.declared.vec.Vec.{Vec}
use Rattle.std.specs.List.{All}
use Rattle.soy_base.specs.declared.memory.OutOfMemory.{OutOfMemory}
use Rattle.html_state.specs.declared.row.State.{State}
use Rattle.soy_meaning.specs.Walks.PageMachine.{page_machine}
use Rattle.soy_meaning.specs.Paths.Plan.{Plan}
use Rattle.soy_meaning.specs.Walks.Walk.{WalkFault, Walked, walk}
use Rattle.html_context.specs.RowPlans.{plan_at}
use Rattle.html_context.specs.declared.table.Row.{Row}
use Rattle.html_context.specs.declared.table.Table.{Table}

-- what the walk of a plan does, as a function
abbrev pub walk_of : Plan → Walked State → Result (Walked State) WalkFault
walk_of p = λ w. walk page_machine p w

abbrev pub StandsFor : Table → Plan → Type 0
StandsFor table p = walk_of (plan_at table.rows.items table.root) ≡ walk_of p

-- ---- rows that are written behind those that are there

abbrev pub walks_of : List Row → List ℕ → List (Walked State → Result (Walked State) WalkFault)
walks_of rows numbers = map (λ n. walk_of (plan_at rows n)) numbers

-- those that were there stay
abbrev pub Keeps : List Row → List Row → Type 0
Keeps old new = take (length old) new ≡ old

-- the number of a row that is walked as a plan
abbrev pub Writes : Plan → List Row → List Row → Result ℕ OutOfMemory → Type 0
Writes p old new (Ok n) = Keeps old new × (n < length new) × (walk_of (plan_at new n) ≡ walk_of p)
Writes p old new (Err e) = Unit {0}

-- the numbers of rows that are walked as plans, in their order
abbrev pub WritesEach : List Plan → List Row → List Row → Result (Vec ℕ Global) OutOfMemory → Type 0
WritesEach ps old new (Ok numbers) =
    Keeps old new × All (λ n. n < length new) numbers.items × (walks_of new numbers.items ≡ map walk_of ps)
WritesEach ps old new (Err e) = Unit {0}

-- the same behind numbers that are there
abbrev pub WritesMore : List ℕ → List Plan → List Row → List Row → Result (Vec ℕ Global) OutOfMemory → Type 0
WritesMore before ps old new (Ok numbers) =
    Keeps old new × All (λ n. n < length new) numbers.items
    × (walks_of new numbers.items ≡ walks_of old before ++ map walk_of ps)
WritesMore before ps old new (Err e) = Unit {0}
