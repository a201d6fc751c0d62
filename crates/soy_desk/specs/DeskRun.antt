-- The plain machine of a desk: what each call does to it, by the call's answer.
--
-- A call is one of `publish`, `open`, `pull` and `close`. What is published is the program of later openings; those
-- that are open keep theirs. An opening has the number of openings before it as its name; it is refused as full where
-- 64 are open. A pull of a name is a pull of its rendering (render_core, Pulls). What is closed makes room for another.
-- A name that isn't open is unknown, and then nothing changes.
-- Example: two openings are named 0 and 1; after the close of 0 a pull of 0 is answered by Unknown, and the next
-- opening is named 2.
use Rattle.std.specs.Prelude.{◌≡◌, ℕ, ◌+◌, ◌<◌, Bool, List, [], ◌∷◌, ◌++◌, Some, None, Result, Ok, Err, length}
use Rattle.soy_base.specs.declared.fault.TooDeep.{TooDeep}
use Rattle.soy_base.specs.declared.memory.Refusal.{Refusal}
use Rattle.soy_base.specs.declared.memory.Refusal.TheVariants.{Because, OutOfMemory}
use Rattle.soy_tree.specs.declared.value.Value.{Value}
use Rattle.template_ir.specs.declared.program.ProgramParts.{ProgramParts}
use Rattle.render_core.specs.Pulls.{Pulls}
use Rattle.render_core.specs.Rest.{Rest}
use Rattle.soy_desk.specs.DeskState.{DeskState, Entry, entry_named, first_entry, pulled_entry, with_entry, without}
use Rattle.soy_desk.specs.declared.fault.DeskFault.{DeskFault}
use Rattle.soy_desk.specs.declared.fault.DeskFault.TheVariants as fault
use Rattle.soy_desk.specs.declared.fault.Full.{Full}
use Rattle.soy_desk.specs.declared.fault.Unknown.{Unknown}

-- a pull into a room: the room and the counter before and after, and the answer, which is a rendering's or a desk's
pub record PullCall (Answer : Type 0) : Type 0 where
  pub room : List ℕ
  pub room_after : List ℕ
  pub steps : ℕ
  pub steps_after : ℕ
  pub answer : Answer

abbrev pub DeskAnswer : Type 0
DeskAnswer = Result ℕ (Refusal DeskFault)

abbrev pub RenderingAnswer : Type 0
RenderingAnswer = Result ℕ (Refusal TooDeep)

pub data Step : Type 0 where
  Publish : ProgramParts → Step
  -- the input, the template and the answer
  Open : Value → ℕ → Result ℕ (Refusal Full) → Step
  Pull : (name : ℕ) → PullCall DeskAnswer → Step
  Close : (name : ℕ) → Result (Unit {0}) Unknown → Step

-- the pull of a rendering with another answer
abbrev pub answered : {A B : Type 0} → PullCall A → B → PullCall B
answered c answer = record {
  room = c.room;
  room_after = c.room_after;
  steps = c.steps;
  steps_after = c.steps_after;
  answer = answer;
}

-- a rendering's pull, from what it has to give and whether it is done
abbrev pub PullsRest : Rest → Bool → PullCall RenderingAnswer → Rest → Bool → Type 0
PullsRest old done c new done_after =
    Pulls old.begun old new done done_after c.room c.room_after c.steps c.steps_after c.answer

-- the pull of the open rendering of a name
pub record PullsNamed (before : DeskState) (name : ℕ) (c : PullCall RenderingAnswer) (after : DeskState) : Type 0 where
  pub entry : Entry
  pub rest : Rest
  pub done : Bool
  pub is_open : entry_named name before.entries ≡ Some entry
  pub pulls : PullsRest entry.rest entry.done c rest done
  pub after_is : after ≡ record before { entries = with_entry (pulled_entry entry rest done) before.entries }

-- no rendering of the name is open, and nothing changes
pub record PullsNone (before : DeskState) (name : ℕ) (c : PullCall DeskAnswer) (after : DeskState) : Type 0 where
  pub isnt_open : entry_named name before.entries ≡ None
  pub room : c.room_after ≡ c.room
  pub steps : c.steps_after ≡ c.steps
  pub unchanged : after ≡ before

abbrev pub PullStep : DeskState → ℕ → PullCall DeskAnswer → DeskAnswer → DeskState → Type 0
PullStep before name c (Ok n) after = PullsNamed before name (answered c (Ok n)) after
PullStep before name c (Err (Because (fault.TooDeep call))) after =
    PullsNamed before name (answered c (Err (Because call))) after
PullStep before name c (Err (Because fault.Unknown)) after = PullsNone before name c after
PullStep before name c (Err OutOfMemory) after = PullsNamed before name (answered c (Err OutOfMemory)) after

abbrev pub OpenStep : DeskState → Value → ℕ → Result ℕ (Refusal Full) → DeskState → Type 0
OpenStep before input template (Ok name) after =
    (length before.entries < 64) × (name ≡ before.opened)
    × (after ≡ record before {
      entries = before.entries ++ first_entry before.opened before.published input template ∷ [];
      opened = before.opened + 1;
    })
OpenStep before input template (Err (Because full)) after = (length before.entries ≡ 64) × (after ≡ before)
OpenStep before input template (Err OutOfMemory) after = (length before.entries < 64) × (after ≡ before)

abbrev pub CloseStep : DeskState → ℕ → Result (Unit {0}) Unknown → DeskState → Type 0
CloseStep before name (Ok done) after =
    (entry : Entry) × (entry_named name before.entries ≡ Some entry)
    × (after ≡ record before { entries = without name before.entries })
CloseStep before name (Err unknown) after = (entry_named name before.entries ≡ None) × (after ≡ before)

-- **one step**
abbrev pub StepsTo : DeskState → Step → DeskState → Type 0
StepsTo before (Publish program) after = after ≡ record before { published = program }
StepsTo before (Open input template answer) after = OpenStep before input template answer after
StepsTo before (Pull name c) after = PullStep before name c c.answer after
StepsTo before (Close name answer) after = CloseStep before name answer after

-- **steps, one after the other**
abbrev pub DeskRun : DeskState → List Step → DeskState → Type 0
DeskRun before [] after = after ≡ before
DeskRun before (step ∷ steps) after =
    (middle : DeskState) × StepsTo before step middle × DeskRun middle steps after
