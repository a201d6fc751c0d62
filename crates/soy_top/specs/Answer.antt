-- What the program answers to its words, where a library holds these files.
--
-- The cases are tried in this order. Words that are no command get the usage text. The first file that the words want
-- and that isn't held can't be read. The first file over its limit is refused, in the order of the words. The rest is
-- answered by the contents: template files and a bundle are refused by their first fault, if they have one; an
-- `extract` asks for the faults of its files alone, and a `format` for those that its file has by itself. Where there
-- is none, the answer of a `check` is `ok` and a line feed, and that of an `extract` the catalogue and a line feed. A
-- `render` asks then for its template, which is a public one of kind html or text (29), and for the values of its
-- parameters (27, 28); the answer is the bytes of the pieces that the template gives under them. Where these stop at a
-- call that nests too deep, it is those up to the call, with the call's line. A `gen` asks for the faults of the source
-- that it makes, and then, under the bundle that it makes of its catalogue, for all that a `render` asks for; the
-- answer is the summary of the page. A `preview` asks for all that a `render` asks for, but that its template is of
-- kind html, and then for a page that isn't too long (33); the answer is the lines of the page as they are seen in a
-- context of the bundle's direction, and where the page stops at a call, nothing, with the call's line. A `play` asks
-- for the faults of its files under the first bundle and then under the second, and then for those of its script; the
-- answer is the lines of the steps of the script. The answer of a `format` is the canonical source of the tree that its
-- file has.
-- Example: the words `render t.zz d.json - t.soy` with a file of t.m are refused by `t.zz: 29 Entry`.
use Rattle.std.specs.Prelude.{ℕ, List, [], length, Option, None, Some, option_map, option_and_then, slice_get}
use Rattle.std.specs.Prelude.{codes, String, Result, Ok, Err, encode_utf8_all, if◌then◌else◌}
use Rattle.std.specs.Option.{option_map_or}
use Rattle.std.specs.Str.{chars, is_utf8}
use Rattle.std.specs.Str.Lossy.{utf8_valid_len}
use Rattle.serde_json.specs.Written.{compact_text}
use Rattle.msg_extract.specs.LanguageOf.{language_of}
use Rattle.msg_extract.specs.CatalogueText.{catalogue_data}
use Rattle.msg_extract.specs.declared.catalogue.Listed.{Listed}
use Rattle.soy_base.specs.declared.code.Code.{Code}
use Rattle.soy_base.specs.declared.code.Code.TheVariants as code
use Rattle.soy_base.specs.declared.direction.Dir.{Dir}
use Rattle.soy_base.specs.declared.fault.Fault.{Fault}
use Rattle.soy_base.specs.declared.path.PathStep.{PathStep}
use Rattle.soy_format.specs.Formatted.{formatted_tree}
use Rattle.soy_front.specs.Entries.{entry_number}
use Rattle.soy_front.specs.FilesAnswer as read
use Rattle.soy_front.specs.FilesAnswer.{ReadFiles}
use Rattle.soy_front.specs.FrontAnswer.{Front, front_answer}
use Rattle.soy_front.specs.Sources.{source_answer}
use Rattle.soy_front.specs.declared.fault.FrontFault.{FrontFault}
use Rattle.soy_front.specs.declared.fault.FrontFault.TheVariants as front
use Rattle.soy_io.specs.FileOf.{Files}
use Rattle.soy_pieces.specs.Meaning.{joined_pieces}
use Rattle.soy_pieces.specs.Outcome.{Outcome, RunEnd, StopsAt, WholeRun, end_of_outcome, pieces_of_outcome}
use Rattle.soy_pieces.specs.Pieces.{template_run}
use Rattle.soy_pieces.specs.Site.{Site}
use Rattle.soy_top.specs.Asked.{Asked, Render, Check, Extract, Gen, Play, Preview, Format, asked_by_words}
use Rattle.soy_top.specs.Asked.{source_files}
use Rattle.soy_top.specs.FilesWanted.{FileWanted, asked_files, wanted_files, known_files, first_not_held}
use Rattle.soy_top.specs.FilesWanted.{first_over_limit, contents}
use Rattle.soy_top.specs.Generated.{workload_entry, workload_files, workload_json, workload_names}
use Rattle.soy_top.specs.Inputs.{bundle_content, but_last, last, second_number}
use Rattle.soy_top.specs.Line.{too_large_line, entry_line, fault_line, read_line, usage_text, ended}
use Rattle.soy_top.specs.Line.{too_long_line}
use Rattle.soy_top.specs.MadeBundle.{bundle_text}
use Rattle.soy_top.specs.Numbered.{numbered, numbered_line}
use Rattle.soy_top.specs.Scripts.Played.{PlayStep, Opens, first_left, played_text}
use Rattle.soy_top.specs.Pointer.{pointer_line}
use Rattle.soy_top.specs.Scripts.ScriptSteps.{script_steps, step_line}
use Rattle.soy_top.specs.SeenText.{is_too_long, seen_text}
use Rattle.soy_top.specs.Shown.{shown_number}
use Rattle.soy_top.specs.Summary.{summary}
use Rattle.soy_top.specs.declared.play.StepFault.{StepFault}
use Rattle.soy_top.specs.Words.{Word, command_words}
use Rattle.soy_rules.specs.Templates.{Declared, declared}
use Rattle.soy_tree.specs.Trees.{Param}
use Rattle.soy_tree.specs.Types.{Name}
use Rattle.soy_tree.specs.Values.{Value}
use Rattle.soy_tree.specs.ViewTrees.{view_tree, view_trees}
use Rattle.soy_tree.specs.declared.tree.Tree.{Tree}
use Rattle.soy_types.specs.ReadData.{data_at}
use Rattle.soy_pieces.specs.LanguageContext.{language_context}
use Rattle.soy_pieces.specs.InputEnv.{input_env, names_of}
use Rattle.work_gen.specs.Workload.{workload}
use Rattle.work_gen.specs.declared.workload.Workload.{Workload}

pub data Answer : Type 0 where
  -- the usage text
  Usage : Answer
  -- this file of the words can't be read
  Read : Word → Answer
  -- the first fault, with its line
  Refused : List ℕ → Answer
  -- the whole text for the output, as UTF-8 bytes
  Done : List ℕ → Answer
  -- the text for the output up to a call that nests too deep, and the line of that call for standard error
  TooDeep : List ℕ → List ℕ → Answer

-- ---- pages

-- the bytes of the pieces of a run
abbrev pub run_text : Outcome → List ℕ
run_text o = encode_utf8_all (joined_pieces (pieces_of_outcome o))

-- a call that nests too deep, as a fault of its file
abbrev pub call_fault : Site → Fault
call_fault site = record { code = code.TooDeep; file = site.file; at = site.at }

-- what is answered by the text of a page and its end
abbrev pub PageAnswer : Type 0
PageAnswer = List ℕ → RunEnd → Answer

-- the page itself
abbrev pub ended_page : List Word → List (List ℕ) → PageAnswer
ended_page names files text WholeRun = Done text
ended_page names files text (StopsAt site) = TooDeep text (numbered_line names files (call_fault site))

-- the answer by what a template gives
abbrev pub page_answer : PageAnswer → Outcome → Answer
page_answer page o = page (run_text o) (end_of_outcome o)

-- what a template gives under the values of its parameters
abbrev pub template_outcome : Front → Declared → Value → Outcome
template_outcome of d v =
    template_run (language_context (language_of of.language) (declared (view_trees of.files.trees))) d
    (input_env (names_of d.template.params) v)

-- the answer by what the data are read as for the parameters of a template
abbrev pub data_answer : PageAnswer → Word → Front → Declared → Result Value (Code × List PathStep) → Answer
data_answer page json_name of d (Ok v) = page_answer page (template_outcome of d v)
data_answer page json_name of d (Err fault) = Refused (pointer_line json_name fault.1 fault.0)

-- the answer by the template that has the name, if there is one
abbrev pub entry_answer : PageAnswer → Word → Word → List ℕ → Front → Option Declared → Answer
entry_answer page template json_name json of None = Refused (entry_line template)
entry_answer page template json_name json of (Some d) =
    data_answer page json_name of d (data_at d.template.params json)

-- the template that may be rendered under a full name
abbrev pub entry_of : Front → Word → Option Declared
entry_of of template =
    option_and_then (slice_get (declared (view_trees of.files.trees)))
    (entry_number (chars template) (declared (view_trees of.files.trees)))

-- the answer by the page of files and a bundle that are accepted
abbrev pub render_answer : PageAnswer → Word → Word → List ℕ → Front → Answer
render_answer page template json_name json of =
    entry_answer page template json_name json of (entry_of of template)

-- the template that may be previewed under a full name
abbrev pub shown_of : Front → Word → Option Declared
shown_of of template =
    option_and_then (slice_get (declared (view_trees of.files.trees)))
    (shown_number (chars template) (declared (view_trees of.files.trees)))

-- the same by the page of a template that may be previewed, in a context of the bundle's direction
abbrev pub preview_answer : (Dir → PageAnswer) → Word → Word → List ℕ → Front → Answer
preview_answer page template json_name json of =
    entry_answer (page of.language.dir) template json_name json of (shown_of of template)

-- the lines of a page that ends whole, as they are seen; nothing of one that stops at a call
abbrev pub seen_lines : List Word → List (List ℕ) → Dir → PageAnswer
seen_lines names files context text WholeRun = Done (seen_text context text)
seen_lines names files context text (StopsAt site) = TooDeep [] (numbered_line names files (call_fault site))

-- the same, unless the page is too long, however it ends
abbrev pub seen_page : List Word → List (List ℕ) → Dir → PageAnswer
seen_page names files context text end =
    if is_too_long text then Refused too_long_line else seen_lines names files context text end

-- ---- files and bundles

-- the line of a fault of files of these names and contents, or of the bundle of a name
abbrev pub front_line : List Word → List (List ℕ) → Word → FrontFault → List ℕ
front_line names files bundle (front.Soy fault) = numbered_line names files fault
front_line names files bundle (front.Bundle fault) = pointer_line bundle fault.path fault.code

-- the answer by what files and a bundle are accepted as, or the line of their first fault
abbrev pub unless_refused : List Word → List (List ℕ) → Word → (Front → Answer) → Result Front FrontFault → Answer
unless_refused names files bundle answer (Ok of) = answer of
unless_refused names files bundle answer (Err fault) = Refused (front_line names files bundle fault)

abbrev pub accepted_then : List Word → List (List ℕ) → Word → Option (List ℕ) → (Front → Answer) → Answer
accepted_then names files bundle content answer =
    unless_refused names files bundle answer (front_answer files content)

-- a catalogue as JSON, with a line feed
abbrev pub catalogue_text : List Listed → List ℕ
catalogue_text rows = ended (compact_text (catalogue_data rows))

-- the answer by what files of these names and contents are read as, or the line of their first fault
abbrev pub unless_faulty : List Word → List (List ℕ) → (ReadFiles → Answer) → Result ReadFiles Fault → Answer
unless_faulty names files answer (Ok read) = answer read
unless_faulty names files answer (Err fault) = Refused (numbered_line names files fault)

abbrev pub read_then : List Word → List (List ℕ) → (ReadFiles → Answer) → Answer
read_then names files answer = unless_faulty names files answer (read.files_answer files)

-- the answer to an `extract` of files that are read
abbrev pub catalogue_answer : ReadFiles → Answer
catalogue_answer read = Done (catalogue_text read.rows)

-- the canonical source of a tree
abbrev pub canonical_source : Tree → List ℕ
canonical_source tree = encode_utf8_all (formatted_tree (view_tree tree))

-- the answer to a `format` of a file by what it is read as
abbrev pub tree_answer : Word → List ℕ → Result Tree Fault → Answer
tree_answer name bytes (Ok tree) = Done (canonical_source tree)
tree_answer name bytes (Err fault) = Refused (fault_line name bytes fault)

-- what is said of files that are accepted
abbrev pub accepted_text : List ℕ
accepted_text = codes "ok\n"

-- ---- workloads

-- the summary of a page, however it ends
abbrev pub summed_page : PageAnswer
summed_page text end = Done (summary text)

-- the answer by the source of a workload that is read, under the bundle of its catalogue
abbrev pub bundled_answer : Workload → List Word → List (List ℕ) → ReadFiles → Answer
bundled_answer w names files read =
    accepted_then names files (codes "gen.bundle") (Some (bundle_text read.rows))
    (render_answer summed_page (workload_entry w) (codes "gen.json") (workload_json w))

abbrev pub workload_answer : Workload → Answer
workload_answer w = read_then workload_names (workload_files w) (bundled_answer w workload_names (workload_files w))

-- the answer to the `gen` of a number
abbrev pub gen_answer : ℕ → Answer
gen_answer number = workload_answer (workload number)

-- ---- scripts

-- the template that may be opened under a name, its parameters, and what its rendering has to give at first for these
-- data, under each of the two bundles
abbrev pub open_of : Front → Name → Option Declared
open_of of name =
    option_and_then (slice_get (declared (view_trees of.files.trees)))
    (entry_number name (declared (view_trees of.files.trees)))

abbrev pub params_of : Declared → List Param
params_of d = d.template.params

abbrev pub opens_of : Front → Front → Declared → Value → PlayStep
opens_of of other d v = Opens (first_left (template_outcome of d v)) (first_left (template_outcome other d v))

-- the steps of a script, or its first refusal
abbrev pub steps_of : Front → Front → List ℕ → Result (List PlayStep) StepFault
steps_of of other bytes = script_steps (open_of of) params_of (opens_of of other) (chars bytes)

abbrev pub steps_answer : Word → Result (List PlayStep) StepFault → Answer
steps_answer script (Ok steps) = Done (played_text steps)
steps_answer script (Err fault) = Refused (step_line script fault)

-- the fault of a script that isn't UTF-8
abbrev pub utf8_fault : List ℕ → Fault
utf8_fault bytes = record { code = code.NotUtf8; file = 0; at = utf8_valid_len bytes }

-- the answer to a `play` by its script, where its files are accepted under both bundles
abbrev pub play_answer : Word → List ℕ → Front → Front → Answer
play_answer script bytes of other =
    if is_utf8 bytes then steps_answer script (steps_of of other bytes)
    else Refused (fault_line script bytes (utf8_fault bytes))

-- ---- all commands

-- the answer to what is asked by the contents of its template files and of those before them
abbrev pub inputs_answer : Asked → List (List ℕ) → List (List ℕ) → Answer
inputs_answer (Render template json_name bundle names) before files =
    accepted_then names files bundle (bundle_content bundle 1 before) (λ of.
    render_answer (ended_page names files) template json_name (numbered 0 before) of)
inputs_answer (Check bundle names) before files =
    accepted_then names files bundle (bundle_content bundle 0 before) (λ of. Done accepted_text)
inputs_answer (Extract names) before files = read_then names files catalogue_answer
inputs_answer (Gen number) before files = gen_answer number
inputs_answer (Play script first second names) before files =
    accepted_then names files first (bundle_content first 1 before) (λ of.
    accepted_then names files second (bundle_content second (second_number first) before) (λ other.
    play_answer script (numbered 0 before) of other))
inputs_answer (Preview template json_name bundle names) before files =
    accepted_then names files bundle (bundle_content bundle 1 before) (λ of.
    preview_answer (seen_page names files) template json_name (numbered 0 before) of)
inputs_answer (Format name) before files = tree_answer name (numbered 0 before) (source_answer (numbered 0 before))

-- the same by the contents of all its files
abbrev pub contents_answer : Asked → List (List ℕ) → Answer
contents_answer asked contents =
    let n : ℕ = length (source_files asked) in inputs_answer asked (but_last n contents) (last n contents)

-- the answer by the limits of the files
abbrev pub limits_answer : Files → Asked → List FileWanted → Answer
limits_answer files asked wanted =
    option_map_or (λ file. Refused (too_large_line file)) (first_over_limit files wanted)
    (contents_answer asked (contents files wanted))

-- the answer by the files that are held
abbrev pub files_answer : Files → Asked → List FileWanted → Answer
files_answer files asked wanted =
    option_map_or Read (first_not_held files wanted) (limits_answer files asked wanted)

abbrev pub asked_answer : Files → Asked → Answer
asked_answer files asked = files_answer files asked (asked_files asked)

abbrev pub answer : Files → List Word → Answer
answer files words = option_map_or (asked_answer files) (asked_by_words words) Usage

-- the answer, where the files that the words want are known
abbrev pub known_answer : Option Files → List Word → Option Answer
known_answer held words = option_map (λ files. answer files words) (known_files held (wanted_files words))

-- the same for the words of a call
abbrev pub answered : {A : Type 0} → Option Files → List (String A) → Option Answer
answered held words = known_answer held (command_words words)

-- the text for the output
abbrev pub out_text : Answer → List ℕ
out_text Usage = []
out_text (Read file) = []
out_text (Refused line) = []
out_text (Done text) = text
out_text (TooDeep text line) = text

-- the text for standard error
abbrev pub err_text : Answer → List ℕ
err_text Usage = usage_text
err_text (Read file) = ended (read_line file)
err_text (Refused line) = ended line
err_text (Done text) = []
err_text (TooDeep text line) = ended line
