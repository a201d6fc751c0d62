-- What is answered to a `play` by a script that was checked.
use Rattle.std.proofs.Common.{◌≡◌, ℕ, ◌+◌, Bool, true, false, cond, List, [], ◌∷◌, Option, None, Some, Ok, Err}
use Rattle.std.proofs.Common.{refl, ap, sym, ◌∙◌, subst, inl, inr}
use Rattle.std.specs.Prelude.{Result, encode_utf8_all, option_and_then, slice_get}
use Rattle.std.specs.List.{position}
use Rattle.std.specs.Str.{chars, is_utf8, IsUtf8}
use Rattle.std.specs.Str.Lossy.{utf8_valid_len}
use Rattle.std.proofs.lemmas.Str.{IsUtf8-from_is_utf8, is_utf8-from_IsUtf8}
use Rattle.soy_base.specs.Piece.{Piece}
use Rattle.html_state.specs.declared.row.State.{State}
use Rattle.msg_extract.specs.LanguageOf.{language_of}
use Rattle.render_core.specs.Rest.{piece_text, solid, solid_piece}
use Rattle.soy_base.specs.declared.code.Code.{Code}
use Rattle.soy_base.specs.declared.code.Code.TheVariants as code
use Rattle.soy_base.specs.declared.fault.Fault.{Fault}
use Rattle.soy_base.specs.declared.path.PathStep.{PathStep}
use Rattle.soy_desk.proofs.Lefts.{pieces_spent}
use Rattle.soy_front.specs.Accepted.{AreFiles}
use Rattle.soy_front.specs.Compiled.{AreCompiled}
use Rattle.soy_front.specs.Entries.{entry_number, is_entry_routine}
use Rattle.soy_front.specs.FilesAnswer.{ReadFiles, files_answer}
use Rattle.soy_front.specs.FrontAnswer.{Front, LanguageOrFault, answer_by_files, front_answer, language_answer}
use Rattle.soy_front.specs.FrontAnswer.{language_or_fault, walk_answer}
use Rattle.soy_front.specs.declared.compiling.Compiled.{Compiled}
use Rattle.soy_front.proofs.DataFits.{having_fit, params_are, read_have}
use Rattle.soy_front.proofs.EntryNumbers.{entry_declared}
use Rattle.soy_front.proofs.FilesLaws.{read_as}
use Rattle.soy_pieces.specs.Outcome.{GivesPiece, Outcome, RunEnds, Spent, end_of_outcome, pieces_of_outcome}
use Rattle.soy_pieces.specs.Pieces.{template_run}
use Rattle.soy_meaning.specs.Runs.TypedData.{FitsData}
use Rattle.soy_meaning.specs.Walks.Walk.{WalkFault, Walked}
use Rattle.soy_top.specs.declared.play.Play.{Play}
use Rattle.soy_top.specs.declared.play.StepFault.{StepFault}
use Rattle.soy_top.specs.Answer.{Done, Refused, open_of, opens_of, params_of, play_answer, steps_answer, steps_of}
use Rattle.soy_top.specs.Answer.{template_outcome, utf8_fault}
use Rattle.soy_top.specs.Line.{fault_line}
use Rattle.soy_top.specs.Scripts.Played.{PlayStep, Opens, first_left, played_text}
use Rattle.soy_top.specs.Scripts.Script.{ScriptLine, Open, script_line, script_lines}
use Rattle.soy_top.specs.Scripts.ScriptSteps.{and_steps, line_step, open_entry, open_step, opening, read_values}
use Rattle.soy_top.specs.Scripts.ScriptSteps.{step_line}
use Rattle.soy_top.specs.Scripts.ScriptSteps.{steps_from}
use Rattle.soy_top.specs.Scripts.ViewPlay.{Checks, IsShort, IsShortLine, known_step, play_entry, play_opening}
use Rattle.soy_top.specs.Scripts.ViewPlay.{play_opens}
use Rattle.soy_top.specs.Scripts.ViewPlay.{play_params, play_steps, program_left, read_step}
use Rattle.soy_top.specs.Scripts.ViewPlay.Checks.{Ended, Passes, Stops}
use Rattle.soy_top.specs.Words.{Word}
use Rattle.soy_top.proofs.Pulling.{end_solid}
use Rattle.soy_top.proofs.Plays.StepsAlike.{line_same}
use Rattle.soy_rules.specs.ShortLists.{HasShortLists}
use Rattle.soy_rules.specs.Templates.{Declared, declared}
use Rattle.soy_tree.specs.Trees.{Param}
use Rattle.soy_rules.specs.Typed.{params_at, templates_of}
use Rattle.soy_tree.specs.Types.{Name}
use Rattle.soy_tree.specs.Values.{Value}
use Rattle.soy_tree.specs.ViewTrees.{view_params, view_trees}
use Rattle.soy_tree.specs.declared.bundle.Bundle.{Bundle}
use Rattle.soy_tree.specs.declared.tree.Tree as code_tree
use Rattle.soy_types.specs.ReadData.{data_at}
use Rattle.soy_pieces.specs.LanguageContext.{language_context}
use Rattle.soy_pieces.specs.Outcome.{pieces_end_costs}
use Rattle.template_ir.specs.Run.{run}
use Rattle.soy_pieces.specs.InputEnv.{input_env, names_of}
use Rattle.template_ir.specs.ViewOps.{view_program}
use Rattle.template_ir.specs.declared.program.ProgramParts.{ProgramParts}

-- ---- what a rendering has to give at first

abbrev kept_piece : Piece → List ℕ → List Piece → List Piece
kept_piece piece [] pieces = pieces
kept_piece piece (c ∷ text) pieces = piece ∷ pieces

-- without the empty pieces
abbrev kept_pieces : List Piece → List Piece
kept_pieces [] = []
kept_pieces (piece ∷ pieces) = kept_piece piece (piece_text piece) (kept_pieces pieces)

solid_by : (s : Spent) (piece : Piece) (text : List ℕ) (o : Outcome)
    → pieces_of_outcome (solid_piece s piece text o) ≡ kept_piece piece text (pieces_of_outcome o)
solid_by s piece [] o = pieces_spent s o
solid_by s piece (c ∷ text) o = refl

pieces_solid : (o : Outcome) → pieces_of_outcome (solid o) ≡ kept_pieces (pieces_of_outcome o)
pieces_solid (RunEnds s end) = refl
pieces_solid (GivesPiece s piece o) =
    solid_by s piece (piece_text piece) (solid o) ∙ ap (kept_piece piece (piece_text piece)) (pieces_solid o)

-- outcomes of the same pieces and the same end
pub same_left : (o p : Outcome) → pieces_end_costs o ≡ pieces_end_costs p → first_left o ≡ first_left p
same_left o p same =
    let pieces : pieces_of_outcome (solid o) ≡ pieces_of_outcome (solid p) =
    pieces_solid o ∙ (ap (λ t. kept_pieces t.0) same ∙ sym (pieces_solid p)) in
    let end : end_of_outcome (solid o) ≡ end_of_outcome (solid p) =
    end_solid o ∙ (ap (λ t. t.1) same ∙ sym (end_solid p)) in
    λ i. record { begun = []; pieces = pieces i; end = end i }

-- **a program that files are compiled to gives at first what the template gives**
pub compiled_left : (contents : List (List ℕ)) (bundle : Option (List ℕ)) (c : Compiled)
    (are : AreCompiled contents bundle c) (number : ℕ) (d : Declared)
    → slice_get (declared (view_trees c.typed)) number ≡ Some d → (v : Value)
    → FitsData d (input_env (names_of d.template.params) v)
    → program_left c.program number v ≡ first_left (template_outcome are.of d v)
compiled_left contents bundle c are number d found v fits =
    same_left (run (view_program c.program) number v) (template_outcome are.of d v)
    (are.gives number d found v fits
    ∙ ap (λ (xs : List Declared). pieces_end_costs (template_run (language_context (language_of are.of.language) xs) d
    (input_env (names_of d.template.params) v)))
    (sym (ap (λ (f : ReadFiles). declared (view_trees f.trees)) are.files)))

-- ---- files that are accepted are read

by_walk : (files : ReadFiles) (language : Bundle) (r : Result (Walked State) WalkFault) (of : Front)
    → walk_answer files language r ≡ Ok of → files ≡ of.files
by_walk files language (Ok walk) of is = cc
by_walk files language (Err fault) of is = cc

by_language : (bundle : Option (List ℕ)) (files : ReadFiles) (either : LanguageOrFault bundle files.rows) (of : Front)
    → language_answer bundle files either ≡ Ok of → files ≡ of.files
by_language bundle files (inl brought) of is =
    by_walk files brought.0 _ of is
by_language bundle files (inr refused) of is = cc

by_files : (bundle : Option (List ℕ)) (r : Result ReadFiles Fault) (of : Front) → answer_by_files bundle r ≡ Ok of
    → r ≡ Ok of.files
by_files bundle (Ok files) of is =
    ap Ok (by_language bundle files (language_or_fault bundle files.rows) of is)
by_files bundle (Err fault) of is = cc

pub front_files : (contents : List (List ℕ)) (bundle : Option (List ℕ)) (of : Front)
    → front_answer contents bundle ≡ Ok of → files_answer contents ≡ Ok of.files
front_files contents bundle of is = by_files bundle (files_answer contents) of is

-- files that are compiled are read as their trees and their catalogue
pub compiled_files : (contents : List (List ℕ)) (bundle : Option (List ℕ)) (c : Compiled)
    → (are : AreCompiled contents bundle c)
    → files_answer contents ≡ Ok (record { trees = c.typed; rows = c.catalogue.messages })
compiled_files contents bundle c are = front_files contents bundle are.of are.answered ∙ ap Ok are.files

files_same : (a b : ReadFiles) → ◌≡◌ {A = Result ReadFiles Fault} (Ok a) (Ok b) → a ≡ b
files_same a b is = cc

-- ---- the script

module _ (contents : List (List ℕ)) (bundle other_bundle : Option (List ℕ)) (one other : Compiled)
    (are : AreCompiled contents bundle one) (are_other : AreCompiled contents other_bundle other) (play : Play)
    (typed_is : play.typed ≡ other.typed) (first_is : play.first.value ≡ one.program)
    (second_is : play.second.value ≡ other.program) where
  abbrev ds : List Declared
  ds = declared (view_trees other.typed)

  same_typed : one.typed ≡ other.typed
  same_typed =
      ap (λ (f : ReadFiles). f.trees) (files_same (record { trees = one.typed; rows = one.catalogue.messages })
      (record { trees = other.typed; rows = other.catalogue.messages })
      (sym (compiled_files contents bundle one are) ∙ compiled_files contents other_bundle other are_other))

  templates_one : declared (view_trees are.of.files.trees) ≡ ds
  templates_one =
      ap (λ (f : ReadFiles). declared (view_trees f.trees)) are.files
      ∙ ap (λ (ts : List code_tree.Tree). declared (view_trees ts)) same_typed

  entry_is : (name : Name) → play_entry play name ≡ entry_number name ds
  entry_is name =
      ap (λ (p : ProgramParts). position (is_entry_routine name) p.templates) first_is
      ∙ (are.entries name ∙ ap (λ (ts : List code_tree.Tree). entry_number name (declared (view_trees ts))) same_typed)

  open_is : (name : Name) → open_of are.of name ≡ option_and_then (slice_get ds) (entry_number name ds)
  open_is name = ap (λ (xs : List Declared). option_and_then (slice_get xs) (entry_number name xs)) templates_one

  params_is : (number : ℕ) (d : Declared) → slice_get ds number ≡ Some d → play_params play number ≡ d.template.params
  params_is number d found =
      ap (λ (ts : List code_tree.Tree). view_params (params_at number (templates_of ts))) typed_is
      ∙ params_are other.typed number d found

  are_files : AreFiles contents other.typed other.catalogue.messages
  are_files =
      read_as contents (record { trees = other.typed; rows = other.catalogue.messages })
      (compiled_files contents other_bundle other are_other)

  module _ (number : ℕ) (d : Declared) (found : slice_get ds number ≡ Some d) (json : List ℕ) (v : Value)
      (read : data_at d.template.params json ≡ Ok v) (short : HasShortLists v) where
    fits : FitsData d (input_env (names_of d.template.params) v)
    fits = having_fit d v (read_have (view_trees other.typed) number d json v are_files.demands found read) short

    first_gives : program_left play.first.value number v ≡ first_left (template_outcome are.of d v)
    first_gives =
        ap (λ (p : ProgramParts). program_left p number v) first_is
        ∙ compiled_left contents bundle one are number d
        (subst (λ (ts : List code_tree.Tree). slice_get (declared (view_trees ts)) number ≡ Some d) (sym same_typed)
        found) v fits

    second_gives : program_left play.second.value number v ≡ first_left (template_outcome are_other.of d v)
    second_gives =
        ap (λ (p : ProgramParts). program_left p number v) second_is
        ∙ compiled_left contents other_bundle other are_other number d found v fits

    opens_is : play_opens play number v ≡ opens_of are.of are_other.of d v
    opens_is = λ i. Opens (first_gives i) (second_gives i)

  -- the step of an opening
  abbrev of_play : Result (ℕ × Value) Code → Result PlayStep Code
  of_play = open_step (play_entry play) (play_params play) (play_opens play)

  abbrev of_answer : Result (Declared × Value) Code → Result PlayStep Code
  of_answer = open_step (open_of are.of) params_of (opens_of are.of are_other.of)

  abbrev play_values : ℕ → Result Value (Code × List PathStep) → Result (ℕ × Value) Code
  play_values = read_values (play_entry play) (play_params play)

  abbrev answer_values : Declared → Result Value (Code × List PathStep) → Result (Declared × Value) Code
  answer_values = read_values (open_of are.of) params_of

  values_same : (number : ℕ) (d : Declared) → slice_get ds number ≡ Some d → (json : List ℕ)
      → (r : Result Value (Code × List PathStep)) → data_at d.template.params json ≡ r
      → IsShort (play_values number r) → of_play (play_values number r) ≡ of_answer (answer_values d r)
  values_same number d found json (Ok v) read short = ap Ok (opens_is number d found json v read short)
  values_same number d found json (Err fault) read short = refl

  module _ (json : List ℕ) where
    abbrev bytes : List ℕ
    bytes = encode_utf8_all json

    abbrev play_open : Option ℕ → Result (ℕ × Value) Code
    play_open = open_entry (play_entry play) (play_params play) json

    abbrev answer_open : Option Declared → Result (Declared × Value) Code
    answer_open = open_entry (open_of are.of) params_of json

    found_same : (number : ℕ) (d : Declared) → slice_get ds number ≡ Some d → IsShort (play_open (Some number))
        → of_play (play_open (Some number)) ≡ of_answer (answer_open (slice_get ds number))
    found_same number d found short =
        let params = params_is number d found in
        ap (λ (ps : List Param). of_play (play_values number (data_at ps bytes))) params
        ∙ (values_same number d found bytes (data_at d.template.params bytes) refl
        (subst (λ (ps : List Param). IsShort (play_values number (data_at ps bytes))) params short)
        ∙ sym (ap (λ (o : Option Declared). of_answer (answer_open o)) found))

    number_same : (name : Name) (o : Option ℕ) → entry_number name ds ≡ o → IsShort (play_open o)
        → of_play (play_open o) ≡ of_answer (answer_open (option_and_then (slice_get ds) o))
    number_same name None is short = refl
    number_same name (Some number) is short =
        let there = entry_declared name ds number is in found_same number there.0 there.1 short

    -- an `open` opens the same
    open_same : (name : Name) → IsShort (play_opening play name json)
        → of_answer (opening (open_of are.of) params_of name json) ≡ of_play (play_opening play name json)
    open_same name short =
        ap (λ (o : Option Declared). of_answer (answer_open o)) (open_is name)
        ∙ sym (ap (λ (o : Option ℕ). of_play (play_open o)) (entry_is name)
        ∙ number_same name (entry_number name ds) refl
        (subst (λ (o : Option ℕ). IsShort (play_open o)) (entry_is name) short))

  -- the steps of the answer
  abbrev answer_step : Option ScriptLine → Result PlayStep Code
  answer_step = line_step (open_of are.of) params_of (opens_of are.of are_other.of)

  abbrev answer_steps : ℕ → List (List ℕ) → Result (List PlayStep) StepFault
  answer_steps = steps_from (open_of are.of) params_of (opens_of are.of are_other.of)

  short_at : (line : Option ScriptLine) (name : Name) (json : List ℕ) → line ≡ Some (Open name json)
      → IsShortLine play line → IsShort (play_opening play name json)
  short_at line name json is short = subst (IsShortLine play) is short

  step_same : (line : Option ScriptLine) → IsShortLine play line → answer_step line ≡ read_step play line
  step_same line short =
      line_same (open_of are.of) params_of (opens_of are.of are_other.of) (play_entry play) (play_params play)
      (play_opens play) line (λ name json is. open_same json name (short_at line name json is short))

  -- a line that isn't one to open is short
  refused_by : (line : Option ScriptLine) (fault : Code) → read_step play line ≡ Err fault → IsShortLine play line
  refused_by None fault is = tt
  refused_by (Some (Open name json)) fault is = refused_opening (play_opening play name json) is where
    refused_opening : (r : Result (ℕ × Value) Code) → of_play r ≡ Err fault → IsShort r
    refused_opening (Ok o) h = cc
    refused_opening (Err f) h = tt
  refused_by (Some line) fault is = tt

  abbrev Answered : ℕ → List (List ℕ) → Option StepFault → Type 0
  Answered number lines None = answer_steps number lines ≡ Ok (play_steps play lines)
  Answered number lines (Some fault) = answer_steps number lines ≡ Err fault

  passed_step : (number : ℕ) (line : List ℕ) (lines : List (List ℕ)) (fault : Option StepFault) (p : PlayStep)
      → read_step play (script_line line) ≡ Ok p → IsShortLine play (script_line line)
      → Answered (number + 1) lines fault → Answered number (line ∷ lines) fault
  passed_step number line lines None p is short rest =
      ap (λ (r : Result PlayStep Code). and_steps number r (answer_steps (number + 1) lines))
      (step_same (script_line line) short ∙ is)
      ∙ (ap (and_steps number (Ok p)) rest
      ∙ ap Ok (sym (ap (λ (r : Result PlayStep Code). known_step r (play_steps play lines)) is)))
  passed_step number line lines (Some fault) p is short rest =
      ap (λ (r : Result PlayStep Code). and_steps number r (answer_steps (number + 1) lines))
      (step_same (script_line line) short ∙ is)
      ∙ ap (and_steps number (Ok p)) rest

  pub checks_answered : (number : ℕ) (lines : List (List ℕ)) (fault : Option StepFault)
      → Checks play number lines fault → Answered number lines fault
  checks_answered _ _ _ Ended = refl
  checks_answered _ _ _ (Passes {number} {line} {lines} {fault} p is short rest) =
      passed_step number line lines fault p is short (checks_answered (number + 1) lines fault rest)
  checks_answered _ _ _ (Stops {number} {line} {lines} fault is) =
      ap (λ (r : Result PlayStep Code). and_steps number r (answer_steps (number + 1) lines))
      (step_same (script_line line) (refused_by (script_line line) fault is) ∙ is)

  -- ---- the answer

  text_answer : (script : Word) (bytes : List ℕ) → IsUtf8 bytes
      → play_answer script bytes are.of are_other.of ≡ steps_answer script (steps_of are.of are_other.of bytes)
  text_answer script bytes utf8 =
      ap (λ b. cond b (steps_answer script (steps_of are.of are_other.of bytes))
      (Refused (fault_line script bytes (utf8_fault bytes)))) (is_utf8-from_IsUtf8 bytes utf8)

  -- **of a script whose lines are all steps the answer is what is written for them**
  pub script_played : (script : Word) (bytes : List ℕ) → IsUtf8 bytes
      → Checks play 1 (script_lines (chars bytes)) None
      → play_answer script bytes are.of are_other.of ≡ Done (played_text (play_steps play (script_lines (chars bytes))))
  script_played script bytes utf8 checks =
      text_answer script bytes utf8
      ∙ ap (steps_answer script) (checks_answered 1 (script_lines (chars bytes)) None checks)

  -- **and it is refused by the first that is none**
  pub script_refused : (script : Word) (bytes : List ℕ) (fault : StepFault) → IsUtf8 bytes
      → Checks play 1 (script_lines (chars bytes)) (Some fault)
      → play_answer script bytes are.of are_other.of ≡ Refused (step_line script fault)
  script_refused script bytes fault utf8 checks =
      text_answer script bytes utf8
      ∙ ap (steps_answer script) (checks_answered 1 (script_lines (chars bytes)) (Some fault) checks)

-- a script that isn't UTF-8 is refused by that
not_text : (bytes : List ℕ) (b : Bool) → is_utf8 bytes ≡ b → (IsUtf8 bytes → ⊥) → is_utf8 bytes ≡ false
not_text bytes true e never = absurd (never (IsUtf8-from_is_utf8 bytes e))
not_text bytes false e never = e

pub bytes_refused : (script : Word) (bytes : List ℕ) (valid : ℕ) (of other : Front) → (IsUtf8 bytes → ⊥)
    → valid ≡ utf8_valid_len bytes
    → play_answer script bytes of other
    ≡ Refused (fault_line script bytes (record { code = code.NotUtf8; file = 0; at = valid }))
bytes_refused script bytes valid of other never same =
    ap (λ b. cond b (steps_answer script (steps_of of other bytes)) (Refused (fault_line script bytes
    (utf8_fault bytes)))) (not_text bytes (is_utf8 bytes) refl never)
    ∙ ap (λ n. Refused (fault_line script bytes (record { code = code.NotUtf8; file = 0; at = n }))) (sym same)
