-- The steps of a script, or its first refusal.
--
-- For each line in turn it is asked whether it is one of a script (32); and where it opens a rendering, whether there
-- is a template that may be rendered under the name (29), and whether the data have values for the parameters of that
-- (27, 28). Lines are counted from 1.
-- Example: of `open t.m {}`, LF, `pull 0`, where `t.m` has no parameters, it is the 32 of the line 2.
use Rattle.std.specs.Prelude.{ℕ, ◌+◌, List, [], ◌∷◌, ◌++◌, Option, None, Some, Result, Ok, Err, codes, encode_utf8_all}
use Rattle.std.specs.Fmt.{decimal}
use Rattle.soy_base.specs.declared.code.Code.{Code}
use Rattle.soy_base.specs.declared.code.Code.TheVariants as code
use Rattle.soy_base.specs.declared.path.PathStep.{PathStep}
use Rattle.soy_tree.specs.Trees.{Param}
use Rattle.soy_tree.specs.Types.{Name}
use Rattle.soy_tree.specs.Values.{Value}
use Rattle.soy_types.specs.ReadData.{data_at}
use Rattle.soy_top.specs.declared.play.StepFault.{StepFault}
use Rattle.soy_top.specs.Line.{refusal_line}
use Rattle.soy_top.specs.Scripts.Played.{PlayStep, Pulls, Closes, Publishes}
use Rattle.soy_top.specs.Scripts.Script.{ScriptLine, Open, Pull, Close, Publish, script_line, script_lines}
use Rattle.soy_top.specs.Words.{Word}

-- the template that may be rendered under a name, and its parameters
module _ {E : Type 0} (entry : Name → Option E) (params : E → List Param) where
  abbrev pub read_values : E → Result Value (Code × List PathStep) → Result (E × Value) Code
  read_values template (Ok v) = Ok (template, v)
  read_values template (Err fault) = Err fault.0

  abbrev pub open_entry : List ℕ → Option E → Result (E × Value) Code
  open_entry json None = Err code.Entry
  open_entry json (Some template) = read_values template (data_at (params template) (encode_utf8_all json))

  -- what an `open` opens: the template and its data
  abbrev pub opening : Name → List ℕ → Result (E × Value) Code
  opening template json = open_entry json (entry template)

-- a step and those behind it, or the refusal of its line
abbrev pub and_steps : ℕ → Result PlayStep Code → Result (List PlayStep) StepFault → Result (List PlayStep) StepFault
and_steps number (Ok step) (Ok steps) = Ok (step ∷ steps)
and_steps number (Ok step) (Err fault) = Err fault
and_steps number (Err fault) steps = Err (record { line = number; code = fault })

-- and the step that opens it with these data
module _ {E : Type 0} (entry : Name → Option E) (params : E → List Param) (opens : E → Value → PlayStep) where
  abbrev pub open_step : Result (E × Value) Code → Result PlayStep Code
  open_step (Ok o) = Ok (opens o.0 o.1)
  open_step (Err fault) = Err fault

  abbrev pub line_step : Option ScriptLine → Result PlayStep Code
  line_step None = Err code.Step
  line_step (Some (Open template json)) = open_step (opening entry params template json)
  line_step (Some (Pull name count)) = Ok (Pulls name count)
  line_step (Some (Close name)) = Ok (Closes name)
  line_step (Some (Publish bundle)) = Ok (Publishes bundle)

  abbrev pub steps_from : ℕ → List (List ℕ) → Result (List PlayStep) StepFault
  steps_from number [] = Ok []
  steps_from number (line ∷ lines) =
      and_steps number (line_step (script_line line)) (steps_from (number + 1) lines)

  -- **the steps of a script**, which is seen as characters, or its first refusal
  abbrev pub script_steps : List ℕ → Result (List PlayStep) StepFault
  script_steps script = steps_from 1 (script_lines script)

-- the line of the refusal of a line of a script
abbrev pub step_line : Word → StepFault → List ℕ
step_line script fault =
    refusal_line (script ++ (codes ":" ++ (decimal fault.line ++ codes ":1"))) fault.code
