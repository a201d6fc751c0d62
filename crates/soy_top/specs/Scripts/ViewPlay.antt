-- What the code has of a `play`, as the definitions see it: the templates are those of the trees, by their numbers, and
-- what an opening gives at first is what the two programs give.
--
-- A line that is no step gives nothing; there is none in a script that was checked.
-- Example: of a script `close 0`, LF, the steps are the one close.
use Rattle.std.specs.Prelude.{◌≡◌, ℕ, ◌+◌, List, [], ◌∷◌, Option, None, Some, Result, Ok, Err}
use Rattle.std.specs.List.{position}
use Rattle.std.specs.Str.{chars}
use Rattle.soy_base.specs.declared.code.Code.{Code}
use Rattle.soy_base.specs.declared.memory.Refusal.{Refusal}
use Rattle.soy_base.specs.declared.memory.Refusal.TheVariants.{Because, OutOfMemory}
use Rattle.soy_desk.specs.Alone.{Left}
use Rattle.soy_desk.specs.DeskState.{DeskState}
use Rattle.soy_front.specs.Entries.{is_entry_routine}
use Rattle.soy_top.specs.declared.play.Play.{Play}
use Rattle.soy_top.specs.declared.play.StepFault.{StepFault}
use Rattle.soy_top.specs.Scripts.DeskLines.{LineShows}
use Rattle.soy_top.specs.Runs.Output as output
use Rattle.soy_top.specs.Scripts.Played.{PlayStep, Opens, first_left, played_text}
use Rattle.soy_top.specs.Scripts.Script.{ScriptLine, Open, script_line, script_lines}
use Rattle.soy_top.specs.Scripts.ScriptSteps.{line_step, opening}
use Rattle.soy_rules.specs.ShortLists.{HasShortLists}
use Rattle.soy_tree.specs.Trees.{Param}
use Rattle.soy_rules.specs.Typed.{params_at, templates_of}
use Rattle.soy_tree.specs.Types.{Name}
use Rattle.soy_tree.specs.Values.{Value}
use Rattle.soy_tree.specs.ViewTrees.{view_params}
use Rattle.soy_tree.specs.ViewValues.{view_value}
use Rattle.soy_tree.specs.declared.value.Value as code_value
use Rattle.template_ir.specs.Run.{run}
use Rattle.template_ir.specs.ViewOps.{view_program}
use Rattle.template_ir.specs.declared.program.ProgramParts.{ProgramParts}

abbrev pub play_entry : Play → Name → Option ℕ
play_entry play name = position (is_entry_routine name) play.first.value.templates

abbrev pub play_params : Play → ℕ → List Param
play_params play number = view_params (params_at number (templates_of play.typed))

abbrev pub program_left : ProgramParts → ℕ → Value → Left
program_left program number v = first_left (run (view_program program) number v)

abbrev pub play_opens : Play → ℕ → Value → PlayStep
play_opens play number v = Opens (program_left play.first.value number v) (program_left play.second.value number v)

abbrev pub play_opening : Play → Name → List ℕ → Result (ℕ × Value) Code
play_opening play = opening (play_entry play) (play_params play)

abbrev pub read_step : Play → Option ScriptLine → Result PlayStep Code
read_step play = line_step (play_entry play) (play_params play) (play_opens play)

-- the steps of those lines that are some
abbrev pub known_step : Result PlayStep Code → List PlayStep → List PlayStep
known_step (Ok step) steps = step ∷ steps
known_step (Err fault) steps = steps

abbrev pub play_steps : Play → List (List ℕ) → List PlayStep
play_steps play [] = []
play_steps play (line ∷ lines) = known_step (read_step play (script_line line)) (play_steps play lines)

-- **what is written for a script**
abbrev pub view_play : Play → output.Output
view_play play = record {
  text = played_text (play_steps play (script_lines (chars play.script.now)));
  end = output.Whole;
}

-- ---- what is said of it

abbrev pub ReadsOpen : Result (ℕ × Value) Code → Result (ℕ × code_value.Value) (Refusal Code) → Type 0
ReadsOpen is (Ok o) = is ≡ Ok (o.0, view_value o.1)
ReadsOpen is (Err (Because fault)) = is ≡ Err fault
ReadsOpen is (Err OutOfMemory) = Unit {0}

-- the lists in the data that a line opens with are short
abbrev pub IsShort : Result (ℕ × Value) Code → Type 0
IsShort (Ok o) = HasShortLists o.1
IsShort (Err fault) = Unit {0}

abbrev pub IsShortLine : Play → Option ScriptLine → Type 0
IsShortLine play (Some (Open template json)) = IsShort (play_opening play template json)
IsShortLine play _ = Unit {0}

-- a line is a step, or refused
abbrev pub ChecksLine : Play → Option ScriptLine → Result (Unit {0}) (Refusal Code) → Type 0
ChecksLine play line (Ok done) = (p : PlayStep) × (read_step play line ≡ Ok p) × IsShortLine play line
ChecksLine play line (Err (Because fault)) = read_step play line ≡ Err fault
ChecksLine play line (Err OutOfMemory) = Unit {0}

-- a refusal of a line, which is that of a number
abbrev pub AtLine : ℕ → Refusal Code → Refusal StepFault → Type 0
AtLine number (Because fault) refusal = refusal ≡ Because (record { line = number; code = fault })
AtLine number OutOfMemory refusal = refusal ≡ OutOfMemory

-- lines from this number on are steps, or the first that isn't is refused
pub data Checks (play : Play) : ℕ → List (List ℕ) → Option StepFault → Type 0 where
  Ended : {number : ℕ} → Checks play number [] None
  Passes : {number : ℕ} {line : List ℕ} {lines : List (List ℕ)} {fault : Option StepFault} (p : PlayStep)
      → read_step play (script_line line) ≡ Ok p → IsShortLine play (script_line line)
      → Checks play (number + 1) lines fault → Checks play number (line ∷ lines) fault
  Stops : {number : ℕ} {line : List ℕ} {lines : List (List ℕ)} (fault : Code)
      → read_step play (script_line line) ≡ Err fault
      → Checks play number (line ∷ lines) (Some (record { line = number; code = fault }))

abbrev pub ChecksScript : Play → Result (Unit {0}) (Refusal StepFault) → Type 0
ChecksScript play (Ok done) = Checks play 1 (script_lines (chars play.script.now)) None
ChecksScript play (Err (Because fault)) = Checks play 1 (script_lines (chars play.script.now)) (Some fault)
ChecksScript play (Err OutOfMemory) = Unit {0}

-- a desk shows this text for a line
abbrev pub PlaysLine : Play → Option ScriptLine → DeskState → DeskState → List ℕ → Type 0
PlaysLine play line before after text =
    LineShows play.first.value play.second.value (read_step play line) before after text
