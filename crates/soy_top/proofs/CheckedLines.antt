-- Lines of a script, as they are checked and as they are played.
use Rattle.std.proofs.Common.{◌≡◌, ◌≤◌, ◌<◌, ◌+◌, ℕ, List, [], ◌∷◌, Option, None, Some, Ok, Err, length, refl, sym}
use Rattle.std.proofs.Common.{ap, ◌∙◌, subst, arith, codes}
use Rattle.std.specs.Prelude.{IfSome, Result, encode_utf8_all}
use Rattle.std.specs.Option.{option_map_or}
use Rattle.std.specs.Str.{chars, IsUtf8}
use Rattle.std.proofs.lemmas.Str.{encodes-chars, length-le-encodes}
use denote.Ref.{Bor}
use Rattle.soy_base.specs.declared.code.Code.{Code}
use Rattle.soy_base.specs.declared.code.Code.TheVariants as code
use Rattle.soy_base.specs.declared.memory.Refusal.{Refusal}
use Rattle.soy_base.specs.declared.memory.Refusal.TheVariants.{Because, OutOfMemory}
use Rattle.soy_base.specs.declared.path.PathStep.{PathStep}
use Rattle.soy_desk.specs.DeskRun as desk_run
use Rattle.soy_desk.specs.DeskRun.{DeskAnswer, PullCall, StepsTo}
use Rattle.soy_desk.specs.DeskState.{DeskState}
use Rattle.soy_desk.specs.declared.fault.Full.{Full}
use Rattle.soy_desk.specs.declared.fault.Unknown.{Unknown}
use Rattle.soy_top.specs.declared.play.Play.{Play}
use Rattle.soy_top.specs.declared.play.StepFault.{StepFault}
use Rattle.soy_top.specs.Scripts.DeskLines.{CloseShows, LineShows, OpenShows, PullShows, program_of}
use Rattle.soy_top.specs.Line.{ended}
use Rattle.soy_top.specs.Scripts.Played.{Closes, Pulls, bundle_number, named_line}
use Rattle.soy_top.specs.Scripts.Script.{ScriptBundle, Open, Publish, script_line, script_lines}
use Rattle.soy_top.specs.Scripts.ScriptSteps.{open_entry, open_step, read_values}
use Rattle.soy_top.specs.Scripts.ViewPlay.{AtLine, Checks, ChecksLine, ChecksScript, IsShort, PlaysLine, ReadsOpen}
use Rattle.soy_top.specs.Scripts.ViewPlay.{play_entry}
use Rattle.soy_top.specs.Scripts.ViewPlay.{play_opening, play_opens, play_params}
use Rattle.soy_top.specs.Scripts.ViewPlay.Checks.{Passes, Stops}
use Rattle.soy_rules.specs.ShortLists.{HasShortLists}
use Rattle.soy_tree.specs.Values.{Value}
use Rattle.soy_tree.specs.ViewValues.{view_value}
use Rattle.soy_tree.specs.declared.value.Value as code_value
use Rattle.soy_types.specs.ReadData.{data_at}
use Rattle.template_ir.specs.declared.program.ProgramParts.{ProgramParts}

-- ---- lines that are left

abbrev pub left_count : Option (Bor (List ℕ)) → ℕ
left_count rest = option_map_or (λ r. length (chars r.now) + 1) rest 0

fewer_by : (more : Option (Bor (List ℕ))) (number n limit : ℕ) → number + (n + 1) ≤ limit
    → IfSome more (λ r. length (chars r.now) < n) → (number + 1) + left_count more ≤ limit
fewer_by None number n limit few shorter = omega (arith, few)
fewer_by (Some r) number n limit few shorter = omega (arith, few, shorter)

-- behind a line fewer are left
pub fewer_left : (rest more : Option (Bor (List ℕ))) (text : Bor (List ℕ)) (number limit : ℕ) → rest ≡ Some text
    → number + left_count rest ≤ limit → IfSome more (λ r. length (chars r.now) < length (chars text.now))
    → (number + 1) + left_count more ≤ limit
fewer_left rest more text number limit is few shorter =
    fewer_by more number (length (chars text.now)) limit
    (subst (λ (o : Option (Bor (List ℕ))). number + left_count o ≤ limit) is few) shorter

-- and at a line the number is not past the limit
pub some_left : (rest : Option (Bor (List ℕ))) (text : Bor (List ℕ)) (number n : ℕ) → rest ≡ Some text
    → number + left_count rest ≤ n + 1 → number ≤ n
some_left rest text number n is few =
    let h : number + left_count (Some text) ≤ n + 1 =
    subst (λ (o : Option (Bor (List ℕ))). number + left_count o ≤ n + 1) is few in
    omega (arith, h)

-- a text has no more characters than bytes
pub characters_within : (text : List ℕ) → IsUtf8 text → length (chars text) ≤ length text
characters_within text utf8 =
    subst (λ (bs : List ℕ). length (chars text) ≤ length bs) (encodes-chars text utf8) (length-le-encodes (chars text))

-- ---- a check of lines

module _ (play : Play) (all : List (List ℕ)) where
  -- what lines are found to be, all are
  abbrev pub Ends : ℕ → List (List ℕ) → Type 0
  Ends number lines = (fault : Option StepFault) → Checks play number lines fault → Checks play 1 all fault

  pub line_passed : (number : ℕ) (line : List ℕ) (lines : List (List ℕ))
      → ChecksLine play (script_line line) (Ok tt) → Ends number (line ∷ lines) → Ends (number + 1) lines
  line_passed number line lines (p, is, short) ends fault rest = ends fault (Passes p is short rest)

pub line_stopped : (play : Play) (number : ℕ) (line : List ℕ) (lines : List (List ℕ)) (refusal : Refusal Code)
    (result : Refusal StepFault) → ChecksLine play (script_line line) (Err refusal) → AtLine number refusal result
    → Ends play (script_lines (chars play.script.now)) number (line ∷ lines) → ChecksScript play (Err result)
line_stopped play number line lines (Because fault) result is at ends =
    subst (λ (r : Refusal StepFault). ChecksScript play (Err r)) (sym at)
    (ends (Some (record { line = number; code = fault })) (Stops fault is))
line_stopped play number line lines OutOfMemory result is at ends =
    subst (λ (r : Refusal StepFault). ChecksScript play (Err r)) (sym at) tt

-- ---- what an `open` opens

module _ (play : Play) (name json : List ℕ) where
  pub opens_none : play_entry play name ≡ None → play_opening play name json ≡ Err code.Entry
  opens_none none = ap (open_entry (play_entry play) (play_params play) json) none

  pub opens_read : (number : ℕ) (bytes : List ℕ) (r : Result Value (Code × List PathStep))
      → play_entry play name ≡ Some number → encode_utf8_all json ≡ bytes
      → data_at (play_params play number) bytes ≡ r
      → play_opening play name json ≡ read_values (play_entry play) (play_params play) number r
  opens_read number bytes r some same read =
      ap (open_entry (play_entry play) (play_params play) json) some
      ∙ ap (read_values (play_entry play) (play_params play) number)
      (ap (data_at (play_params play number)) same ∙ read)

  pub open_passes : (o : ℕ × code_value.Value) → play_opening play name json ≡ Ok (o.0, view_value o.1)
      → HasShortLists (view_value o.1) → ChecksLine play (Some (Open name json)) (Ok tt)
  open_passes o is short = (
    play_opens play o.0 (view_value o.1),
    ap (open_step (play_entry play) (play_params play) (play_opens play)) is,
    subst IsShort (sym is) short,
  )

  pub open_stops : (refusal : Refusal Code) → ReadsOpen (play_opening play name json) (Err refusal)
      → ChecksLine play (Some (Open name json)) (Err refusal)
  open_stops (Because fault) is = ap (open_step (play_entry play) (play_params play) (play_opens play)) is
  open_stops OutOfMemory is = tt

  -- the line of an opening
  pub open_shows : (number : ℕ) (input : code_value.Value) (answer : Result ℕ (Refusal Full)) (line text : List ℕ)
      (before after : DeskState) → play_opening play name json ≡ Ok (number, view_value input)
      → StepsTo before (desk_run.Open input number answer) after → OpenShows answer line → text ≡ ended line
      → PlaysLine play (Some (Open name json)) before after text
  open_shows number input answer line text before after is step shows text_is =
      subst (λ (r : Result (ℕ × Value) Code). LineShows play.first.value play.second.value
      (open_step (play_entry play) (play_params play) (play_opens play) r) before after text) (sym is)
      (desk_run.Open input number answer, line, step, ((refl, refl), shows), text_is)

  -- and of one that is refused
  pub open_hides : (fault : Code) (before after : DeskState) (text : List ℕ)
      → play_opening play name json ≡ Err fault → after ≡ before → text ≡ []
      → PlaysLine play (Some (Open name json)) before after text
  open_hides fault before after text is same none =
      subst (λ (r : Result (ℕ × Value) Code). LineShows play.first.value play.second.value
      (open_step (play_entry play) (play_params play) (play_opens play) r) before after text) (sym is) (same, none)

-- ---- other lines

pub publish_shows : (play : Play) (bundle : ScriptBundle) (program : ProgramParts) (text : List ℕ)
    (before after : DeskState) → program ≡ program_of play.first.value play.second.value bundle
    → StepsTo before (desk_run.Publish program) after
    → text ≡ ended (named_line (codes "published") (bundle_number bundle))
    → PlaysLine play (Some (Publish bundle)) before after text
publish_shows play bundle program text before after is step text_is = (
  desk_run.Publish program,
  named_line (codes "published") (bundle_number bundle),
  step,
  (is, refl),
  text_is,
)

module _ (first second : ProgramParts) where
  pub pull_shows : (name count : ℕ) (c : PullCall DeskAnswer) (answer : DeskAnswer) (line text : List ℕ)
      (before after : DeskState) → c.answer ≡ answer → length c.room ≡ count
      → StepsTo before (desk_run.Pull name c) after → PullShows name c.room_after answer line → text ≡ ended line
      → LineShows first second (Ok (Pulls name count)) before after text
  pull_shows name count c answer line text before after is room step shows text_is = (
    desk_run.Pull name c,
    line,
    step,
    (refl, room, subst (λ (a : DeskAnswer). PullShows name c.room_after a line) (sym is) shows),
    text_is,
  )

  pub close_shows : (name : ℕ) (result answer : Result (Unit {0}) Unknown) (line text : List ℕ)
      (before after : DeskState) → result ≡ answer → StepsTo before (desk_run.Close name result) after
      → CloseShows name answer line → text ≡ ended line
      → LineShows first second (Ok (Closes name)) before after text
  close_shows name result answer line text before after is step shows text_is = (
    desk_run.Close name result,
    line,
    step,
    (refl, subst (λ (a : Result (Unit {0}) Unknown). CloseShows name a line) (sym is) shows),
    text_is,
  )
