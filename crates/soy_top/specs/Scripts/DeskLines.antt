-- The lines that a desk shows: what is written for a step of its machine, by the call and its answer.
--
-- Of the steps of a script each stands for one step of the desk: an opening for `open` of a template with data that
-- give at first what the opening says, under the program of the first bundle and under that of the second; a pull for
-- `pull` into a room of as many bytes; and so on. A step that memory refused shows no line.
-- Example: `pull` of 0 into a room of 3 bytes that is answered by 2, and leaves `ab` in them, shows `0 6162`.
use Rattle.std.specs.Prelude.{◌≡◌, ℕ, List, [], ◌∷◌, ◌++◌, Result, Ok, Err, length, take, codes}
use Rattle.soy_base.specs.declared.code.Code.{Code}
use Rattle.soy_base.specs.declared.memory.Refusal.{Refusal}
use Rattle.soy_base.specs.declared.memory.Refusal.TheVariants.{Because, OutOfMemory}
use Rattle.soy_desk.specs.Alone.{Left, left_of}
use Rattle.soy_desk.specs.DeskRun as desk_run
use Rattle.soy_desk.specs.DeskRun.{DeskAnswer, PullCall, Step, StepsTo}
use Rattle.soy_desk.specs.DeskState.{DeskState, first_rest}
use Rattle.soy_desk.specs.declared.fault.DeskFault.TheVariants as fault
use Rattle.soy_desk.specs.declared.fault.Full.{Full}
use Rattle.soy_desk.specs.declared.fault.Unknown.{Unknown}
use Rattle.soy_top.specs.Line.{ended}
use Rattle.soy_top.specs.Scripts.Played.{PlayStep, Opens, Pulls, Closes, Publishes, bundle_number, full_line}
use Rattle.soy_top.specs.Scripts.Played.{given_line}
use Rattle.soy_top.specs.Scripts.Played.{named_line}
use Rattle.soy_top.specs.Scripts.Script.{ScriptBundle, FirstBundle, SecondBundle}
use Rattle.soy_tree.specs.declared.value.Value.{Value}
use Rattle.template_ir.specs.declared.program.ProgramParts.{ProgramParts}

abbrev pub OpenShows : Result ℕ (Refusal Full) → List ℕ → Type 0
OpenShows (Ok name) line = line ≡ named_line (codes "opened") name
OpenShows (Err (Because full)) line = line ≡ full_line
OpenShows (Err OutOfMemory) line = ⊥

abbrev pub PullShows : ℕ → List ℕ → DeskAnswer → List ℕ → Type 0
PullShows name room (Ok n) line = line ≡ given_line name (take n room)
PullShows name room (Err (Because (fault.TooDeep call))) line = line ≡ named_line (codes "toodeep") name
PullShows name room (Err (Because fault.Unknown)) line = line ≡ named_line (codes "unknown") name
PullShows name room (Err OutOfMemory) line = ⊥

abbrev pub CloseShows : ℕ → Result (Unit {0}) Unknown → List ℕ → Type 0
CloseShows name (Ok done) line = line ≡ named_line (codes "closed") name
CloseShows name (Err unknown) line = line ≡ named_line (codes "unknown") name

-- under the programs of the first bundle and of the second
module _ (first second : ProgramParts) where
  abbrev pub program_of : ScriptBundle → ProgramParts
  program_of FirstBundle = first
  program_of SecondBundle = second

  abbrev pub OpensAs : Left → Left → Value → ℕ → Type 0
  OpensAs one other input template =
      (one ≡ left_of (first_rest first input template)) × (other ≡ left_of (first_rest second input template))

  -- **the step of a script stands for this step of a desk, which shows this line**
  abbrev pub Shows : PlayStep → Step → List ℕ → Type 0
  Shows (Opens one other) (desk_run.Open input template answer) line =
      OpensAs one other input template × OpenShows answer line
  Shows (Pulls name count) (desk_run.Pull other c) line =
      (other ≡ name) × (length c.room ≡ count) × PullShows name c.room_after c.answer line
  Shows (Closes name) (desk_run.Close other answer) line = (other ≡ name) × CloseShows name answer line
  Shows (Publishes bundle) (desk_run.Publish program) line =
      (program ≡ program_of bundle) × (line ≡ named_line (codes "published") (bundle_number bundle))
  Shows _ _ line = ⊥

  -- the same of all steps, with all lines, each with its line feed
  abbrev pub ShowsAll : List PlayStep → List Step → List ℕ → Type 0
  ShowsAll [] [] text = text ≡ []
  ShowsAll (p ∷ ps) (s ∷ ss) text =
      (line : List ℕ) × (others : List ℕ) × Shows p s line × ShowsAll ps ss others × (text ≡ ended line ++ others)
  ShowsAll _ _ text = ⊥

  -- from one state to another a desk takes a step, which shows this text for that of a line of a script; a line that
  -- is none shows nothing
  abbrev pub LineShows : Result PlayStep Code → DeskState → DeskState → List ℕ → Type 0
  LineShows (Ok p) before after text =
      (s : Step) × (line : List ℕ) × StepsTo before s after × Shows p s line × (text ≡ ended line)
  LineShows (Err fault) before after text = (after ≡ before) × (text ≡ [])
