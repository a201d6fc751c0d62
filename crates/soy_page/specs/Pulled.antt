-- A pull of a page, which keeps its templates, its data and its end.
--
-- It gives the next bytes, at least one where a byte is left and the room isn't empty; or the page ends at a call that
-- nests too deep; or memory ran out, and nothing is lost.
-- Example: of a page `ab` a pull into a room of one byte gives `a`, and leaves `b`.
use Rattle.std.specs.Prelude.{◌≡◌, ℕ, ◌≤◌, ◌<◌, [], ◌++◌, List, Result, Ok, Err, length, take}
use Rattle.soy_base.specs.declared.fault.TooDeep.{TooDeep}
use Rattle.soy_base.specs.declared.memory.Refusal.{Refusal}
use Rattle.soy_base.specs.declared.memory.Refusal.TheVariants.{Because, OutOfMemory}
use Rattle.soy_pieces.specs.Outcome.{WholeRun}
use Rattle.render_core.specs.Pulls.{stops_at}
use Rattle.soy_page.specs.PageRest.{bytes_left, end_left}
use Rattle.soy_page.specs.PageState.{PageState}

-- the next bytes, at the beginning of the room
pub record GaveBytes (old new : PageState) (room room_after : List ℕ) (n : ℕ) : Type 0 where
  pub bytes : bytes_left old ≡ take n room_after ++ bytes_left new
  pub within : n ≤ length room
  -- none into a room that isn't empty: the page has ended, and is whole
  pub ended : n ≡ 0 → 0 < length room → (bytes_left old ≡ []) × (end_left old ≡ WholeRun)

-- no bytes
pub record GaveNone (old new : PageState) (room room_after : List ℕ) : Type 0 where
  pub bytes : bytes_left new ≡ bytes_left old
  pub unchanged : room_after ≡ room

-- the page ends at this call
abbrev pub StopsHere : PageState → TooDeep → Type 0
StopsHere page call = (bytes_left page ≡ []) × (end_left page ≡ stops_at call)

abbrev pub Gives : PageState → List ℕ → List ℕ → Result ℕ (Refusal TooDeep) → PageState → Type 0
Gives old room room_after (Ok n) new = GaveBytes old new room room_after n
Gives old room room_after (Err (Because call)) new = GaveNone old new room room_after × StopsHere old call
Gives old room room_after (Err OutOfMemory) new = GaveNone old new room room_after

-- what no pull changes
pub record KeepsPage (old new : PageState) : Type 0 where
  pub templates : new.templates ≡ old.templates
  pub input : new.input ≡ old.input
  pub end : end_left new ≡ end_left old

pub record PullsPage (old : PageState) (room room_after : List ℕ) (answer : Result ℕ (Refusal TooDeep))
    (new : PageState) : Type 0 where
  pub keeps : KeepsPage old new
  pub gives : Gives old room room_after answer new
