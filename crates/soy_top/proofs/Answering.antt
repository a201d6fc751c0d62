-- What is known of the answer from what the words ask for and from what was fetched.
use Rattle.std.proofs.Common.{◌≡◌, ℕ, List, [], ◌∷◌, Option, Some, None, Err, length}
use Rattle.std.proofs.Common.{refl, sym, ap, subst, ◌∙◌, codes, inl, inr, ◌⊎◌, cond, Bool, true, false}
use Rattle.std.specs.Prelude.{IfSome, Result, Ok, option_map}
use Rattle.std.specs.Option.{option_map_or}
use Rattle.std.specs.Str.{is_utf8}
use Rattle.soy_base.specs.declared.code.Code.{Code}
use Rattle.soy_base.specs.declared.fault.Fault.{Fault}
use Rattle.soy_base.specs.declared.path.PathStep.{PathStep}
use Rattle.std.specs.Prelude.{String}
use Rattle.std.specs.String.{string_bytes}
use Rattle.std.specs.declared.alloc.Global.{Global}
use Rattle.soy_front.specs.Accepted.{FirstFault}
use Rattle.soy_front.specs.Compiled.{AreCompiled}
use Rattle.soy_front.specs.FilesAnswer.{ReadFiles, files_answer}
use Rattle.soy_front.specs.FrontAnswer.{Front, IsFront, front_answer}
use Rattle.soy_front.proofs.FrontAnswers.{fault_answered}
use Rattle.soy_front.specs.Sources.{source_answer}
use Rattle.soy_front.specs.declared.accepting.AcceptedFiles.{AcceptedFiles}
use Rattle.soy_front.specs.declared.compiling.Compiled.{Compiled}
use Rattle.soy_front.specs.declared.fault.FrontFault.{FrontFault}
use Rattle.soy_io.specs.FileOf.{Files}
use Rattle.soy_io.specs.Rose.{Rose}
use Rattle.soy_pieces.specs.Outcome.{RunEnd, StopsAt, WholeRun, end_of_outcome}
use Rattle.soy_top.specs.declared.ending.Ending.{Ending}
use Rattle.soy_top.specs.declared.ending.Ending.TheVariants as ending
use Rattle.soy_top.specs.declared.output.Output.{Output}
use Rattle.soy_top.specs.declared.page.Page.{Page}
use Rattle.soy_top.specs.declared.play.StepFault.{StepFault}
use Rattle.soy_top.specs.Accepts.{Accepts, AcceptsPage, Refuses}
use Rattle.soy_top.specs.Answer.{Answer, Usage, Read, Refused, Done, data_answer, ended_page, entry_answer}
use Rattle.soy_top.specs.Answer.{PageAnswer, bundled_answer, entry_of, render_answer, run_text, summed_page}
use Rattle.soy_top.specs.Answer.{preview_answer, seen_page, shown_of, template_outcome, workload_answer}
use Rattle.soy_top.specs.Answer.{contents_answer, limits_answer, asked_answer, answer, known_answer}
use Rattle.soy_top.specs.Answer.{accepted_text, accepted_then, catalogue_answer, inputs_answer, read_then}
use Rattle.soy_top.specs.Answer.{front_line, tree_answer, unless_faulty, unless_refused}
use Rattle.soy_top.specs.Answer.{play_answer, steps_answer, steps_of, utf8_fault}
use Rattle.soy_top.specs.Asked.{Asked, Render, Check, Extract, Gen, Play, Preview, Format, asked_by_words}
use Rattle.soy_top.specs.Asked.{source_files}
use Rattle.soy_top.specs.Runs.Concludes.{MayEnd}
use Rattle.soy_top.specs.Fetched.{AreContents, FetchesAll, IsNotHeld}
use Rattle.soy_top.specs.FilesWanted.{FileWanted, asked_files, wanted_files, file_names, known_files, first_not_held}
use Rattle.soy_top.specs.FilesWanted.{first_over_limit, contents}
use Rattle.soy_top.specs.Generated.{workload_entry, workload_files, workload_json, workload_names}
use Rattle.soy_top.specs.Inputs.{bundle_content, but_last, last, second_number}
use Rattle.soy_top.specs.Line.{ended, fault_line, too_large_line}
use Rattle.soy_top.specs.MadeBundle.{bundle_text}
use Rattle.soy_top.specs.Numbered.{numbered}
use Rattle.soy_top.specs.Scripts.Played.{PlayStep}
use Rattle.soy_top.specs.Words.{Word}
use Rattle.soy_top.proofs.Previews.SeenAnswers.{seen_not_usage}
use Rattle.soy_rules.specs.Templates.{Declared}
use Rattle.soy_tree.specs.Values.{Value}
use Rattle.soy_tree.specs.declared.tree.Tree.{Tree}
use Rattle.soy_types.specs.ReadData.{data_at}
use Rattle.work_gen.specs.Workload.{workload}
use Rattle.work_gen.specs.declared.workload.Workload.{Workload}

-- what is answered where files and a bundle are accepted
pub accepts_then : (names : List Word) (files : List (List ℕ)) (bundle : Word) (content : Option (List ℕ))
    (accepted : AcceptedFiles) (a : Answer) (r : Result Output Ending) → IsFront (front_answer files content) accepted
    → Accepts a r → Accepts (accepted_then names files bundle content (λ of. a)) r
accepts_then names files bundle content accepted a r is h =
    subst (λ x. Accepts x r) (sym (ap (unless_refused names files bundle (λ of. a)) is.answered)) h

-- a first fault of files and a bundle is refused with its line, whatever would be answered else
pub front_refused : (names : List Word) (files : List (List ℕ)) (bundle : Word) (content : Option (List ℕ))
    (fault : FrontFault) (text : String Global) → FirstFault files content fault
    → string_bytes text ≡ ended (front_line names files bundle fault)
    → (answer : Front → Answer) → Refuses (accepted_then names files bundle content answer) (ending.Refused text)
front_refused names files bundle content fault text first is answer = (
  front_line names files bundle fault,
  ap (unless_refused names files bundle answer) (fault_answered files content fault first),
  is,
)

-- what is answered to a `play` whose script and bundles go by other names
pub play_same : (names : List Word) (files : List (List ℕ)) (script first second : Word) (bytes bytes_seen : List ℕ)
    (one one_seen other other_seen : Option (List ℕ)) (r : Result Output Ending) → bytes ≡ bytes_seen
    → one ≡ one_seen → other ≡ other_seen
    → Accepts (accepted_then names files first one (λ of.
    accepted_then names files second other (play_answer script bytes of))) r
    → Accepts (accepted_then names files first one_seen (λ of.
    accepted_then names files second other_seen (play_answer script bytes_seen of))) r
play_same names files script first second bytes bytes_seen one one_seen other other_seen r same same_one same_other h =
    subst (λ x. Accepts (accepted_then names files first x (λ of.
    accepted_then names files second other_seen (play_answer script bytes_seen of))) r) same_one
    (subst (λ x. Accepts (accepted_then names files first one (λ of.
    accepted_then names files second x (play_answer script bytes_seen of))) r) same_other
    (subst (λ x. Accepts (accepted_then names files first one (λ of.
    accepted_then names files second other (play_answer script x of))) r) same h))

-- a page of a program, where files and a bundle are compiled
pub page_then : (names : List Word) (files : List (List ℕ)) (bundle : Word) (content : Option (List ℕ)) (c : Compiled)
    (answer : PageAnswer → Front → Answer) (r : Result Page Ending) → (are : AreCompiled files content c)
    → AcceptsPage (λ page. answer page are.of) r
    → AcceptsPage (λ page. accepted_then names files bundle content (answer page)) r
page_then names files bundle content c answer (Ok accepted) are h =
    λ page. ap (unless_refused names files bundle (answer page)) are.answered ∙ h page
page_then names files bundle content c answer (Err ending) are h =
    λ page.
    subst (λ x. Refuses x ending) (sym (ap (unless_refused names files bundle (answer page)) are.answered)) (h page)

-- what is answered by files and a bundle that are compiled
pub compiled_then : (names : List Word) (files : List (List ℕ)) (bundle : Word) (content : Option (List ℕ))
    (c : Compiled) (answer : Front → Answer) (r : Result Output Ending) → (are : AreCompiled files content c)
    → Accepts (answer are.of) r → Accepts (accepted_then names files bundle content answer) r
compiled_then names files bundle content c answer r are h =
    subst (λ x. Accepts x r) (sym (ap (unless_refused names files bundle answer) are.answered)) h

-- what is answered of a template and data that go by other names
pub rendered_same : (page : PageAnswer) (json_name : Word) (of : Front) (template template_seen : Word)
    (json json_seen : List ℕ) (r : Result Output Ending) → template ≡ template_seen → json ≡ json_seen
    → Accepts (render_answer page template json_name json of) r
    → Accepts (render_answer page template_seen json_name json_seen of) r
rendered_same page json_name of template template_seen json json_seen r is_template is_json h =
    subst (λ x. Accepts (render_answer page template_seen json_name x of) r) is_json
    (subst (λ x. Accepts (render_answer page x json_name json of) r) is_template h)

-- what is answered by a page, where the content of the bundle, the name of the template and the data go by other names
pub pages_same : (names : List Word) (files : List (List ℕ)) (page : PageAnswer) (json_name bundle : Word)
    (template template_seen : Word) (json json_seen : List ℕ) (content content_seen : Option (List ℕ))
    (r : Result Output Ending) → template ≡ template_seen → json ≡ json_seen → content ≡ content_seen
    → Accepts (accepted_then names files bundle content (render_answer page template json_name json)) r
    → Accepts (accepted_then names files bundle content_seen (render_answer page template_seen json_name json_seen)) r
pages_same names files page json_name bundle template template_seen json json_seen content content_seen r is_template
    is_json is_content h =
    subst (λ x. Accepts (accepted_then names files bundle x (render_answer page template_seen json_name json_seen)) r)
    is_content
    (subst (λ x. Accepts (accepted_then names files bundle content (render_answer page template_seen json_name x)) r)
    is_json
    (subst (λ x. Accepts (accepted_then names files bundle content (render_answer page x json_name json)) r) is_template
    h))

-- what is answered by files, a bundle and data, where the content of the bundle and the data go by other names
pub contents_same : (names : List Word) (files : List (List ℕ)) (bundle : Word) (answer : List ℕ → Front → Answer)
    (json json_seen : List ℕ) (content content_seen : Option (List ℕ)) (r : Result Output Ending) → json ≡ json_seen
    → content ≡ content_seen → Accepts (accepted_then names files bundle content (answer json)) r
    → Accepts (accepted_then names files bundle content_seen (answer json_seen)) r
contents_same names files bundle answer json json_seen content content_seen r is_json is_content h =
    subst (λ x. Accepts (accepted_then names files bundle x (answer json_seen)) r) is_content
    (subst (λ x. Accepts (accepted_then names files bundle content (answer x)) r) is_json h)

-- what is answered by files that are read
pub read_answered : (names : List Word) (files : List (List ℕ)) (answer : ReadFiles → Answer) (read : ReadFiles)
    (r : Result Output Ending) → files_answer files ≡ Ok read → Accepts (answer read) r
    → Accepts (read_then names files answer) r
read_answered names files answer read r is h =
    subst (λ x. Accepts x r) (sym (ap (unless_faulty names files answer) is)) h

-- an answer to what is asked isn't the usage text
page_not_usage : (names : List Word) (files : List (List ℕ)) (text : List ℕ) (end : RunEnd)
    → ended_page names files text end ≡ Usage → ⊥
page_not_usage names files text WholeRun e = cc
page_not_usage names files text (StopsAt site) e = cc

module _ (page : PageAnswer) (never : (text : List ℕ) (end : RunEnd) → page text end ≡ Usage → ⊥) where
  data_not_usage : (json_name : Word) (of : Front) (d : Declared) (r : Result Value (Code × List PathStep))
      → data_answer page json_name of d r ≡ Usage → ⊥
  data_not_usage json_name of d (Ok v) e =
      never (run_text (template_outcome of d v)) (end_of_outcome (template_outcome of d v)) e
  data_not_usage json_name of d (Err fault) e = cc

  entry_not_usage : (template json_name : Word) (json : List ℕ) (of : Front) (o : Option Declared)
      → entry_answer page template json_name json of o ≡ Usage → ⊥
  entry_not_usage template json_name json of None e = cc
  entry_not_usage template json_name json of (Some d) e =
      data_not_usage json_name of d (data_at d.template.params json) e

read_not_usage : (names : List Word) (files : List (List ℕ)) (answer : ReadFiles → Answer) (r : Result ReadFiles Fault)
    → ((read : ReadFiles) → answer read ≡ Usage → ⊥) → unless_faulty names files answer r ≡ Usage → ⊥
read_not_usage names files answer (Ok read) never e = never read e
read_not_usage names files answer (Err fault) never e = cc

then_not_usage : (names : List Word) (files : List (List ℕ)) (bundle : Word) (answer : Front → Answer)
    (r : Result Front FrontFault) → ((of : Front) → answer of ≡ Usage → ⊥)
    → unless_refused names files bundle answer r ≡ Usage → ⊥
then_not_usage names files bundle answer (Ok of) never e = never of e
then_not_usage names files bundle answer (Err fault) never e = cc

tree_not_usage : (name : Word) (bytes : List ℕ) (read : Result Tree Fault) → tree_answer name bytes read ≡ Usage → ⊥
tree_not_usage name bytes (Ok tree) e = cc
tree_not_usage name bytes (Err fault) e = cc

steps_not_usage : (script : Word) (r : Result (List PlayStep) StepFault) → steps_answer script r ≡ Usage → ⊥
steps_not_usage script (Ok steps) e = cc
steps_not_usage script (Err fault) e = cc

script_not_usage : (script : Word) (r : Result (List PlayStep) StepFault) (line : List ℕ) (b : Bool)
    → cond b (steps_answer script r) (Refused line) ≡ Usage → ⊥
script_not_usage script r line true e = steps_not_usage script r e
script_not_usage script r line false e = cc

play_not_usage : (script : Word) (bytes : List ℕ) (of other : Front) → play_answer script bytes of other ≡ Usage → ⊥
play_not_usage script bytes of other e =
    script_not_usage script (steps_of of other bytes) (fault_line script bytes (utf8_fault bytes)) (is_utf8 bytes) e

bundled_not_usage : (w : Workload) (names : List Word) (files : List (List ℕ)) (read : ReadFiles)
    → bundled_answer w names files read ≡ Usage → ⊥
bundled_not_usage w names files read e =
    then_not_usage names files (codes "gen.bundle")
    (render_answer summed_page (workload_entry w) (codes "gen.json") (workload_json w))
    (front_answer files (Some (bundle_text read.rows))) (λ of. entry_not_usage summed_page (λ text end u. cc)
    (workload_entry w) (codes "gen.json") (workload_json w) of (entry_of of (workload_entry w))) e

workload_not_usage : (w : Workload) → workload_answer w ≡ Usage → ⊥
workload_not_usage w e =
    read_not_usage workload_names (workload_files w) (bundled_answer w workload_names (workload_files w))
    (files_answer (workload_files w)) (bundled_not_usage w workload_names (workload_files w)) e

inputs_not_usage : (asked : Asked) (before files : List (List ℕ)) → inputs_answer asked before files ≡ Usage → ⊥
inputs_not_usage (Render template json_name bundle names) before files e =
    then_not_usage names files bundle (render_answer (ended_page names files) template json_name (numbered 0 before))
    (front_answer files (bundle_content bundle 1 before)) (λ of. entry_not_usage (ended_page names files)
    (page_not_usage names files) template json_name (numbered 0 before) of (entry_of of template)) e
inputs_not_usage (Check bundle names) before files e =
    then_not_usage names files bundle (λ of. Done accepted_text) (front_answer files (bundle_content bundle 0 before))
    (λ of u. cc) e
inputs_not_usage (Extract names) before files e =
    read_not_usage names files catalogue_answer (files_answer files) (λ read u. cc) e
inputs_not_usage (Gen number) before files e = workload_not_usage (workload number) e
inputs_not_usage (Play script first second names) before files e =
    then_not_usage names files first _ (front_answer files (bundle_content first 1 before))
    (λ of. then_not_usage names files second (play_answer script (numbered 0 before) of)
    (front_answer files (bundle_content second (second_number first) before))
    (λ other. play_not_usage script (numbered 0 before) of other)) e
inputs_not_usage (Preview template json_name bundle names) before files e =
    then_not_usage names files bundle (preview_answer (seen_page names files) template json_name (numbered 0 before))
    (front_answer files (bundle_content bundle 1 before)) (λ of. entry_not_usage (seen_page names files of.language.dir)
    (seen_not_usage names files of.language.dir) template json_name (numbered 0 before) of (shown_of of template)) e
inputs_not_usage (Format name) before files e =
    tree_not_usage name (numbered 0 before) (source_answer (numbered 0 before)) e

contents_not_usage : (asked : Asked) (fetched : List (List ℕ)) → contents_answer asked fetched ≡ Usage → ⊥
contents_not_usage asked fetched e =
    inputs_not_usage asked (but_last (length (source_files asked)) fetched) (last (length (source_files asked)) fetched)
    e

limits_not_usage : (over : Option Word) (a : Answer) → (a ≡ Usage → ⊥)
    → option_map_or (λ file. Refused (too_large_line file)) over a ≡ Usage → ⊥
limits_not_usage None a never e = never e
limits_not_usage (Some file) a never e = cc

held_not_usage : (missing : Option Word) (a : Answer) → (a ≡ Usage → ⊥) → option_map_or Read missing a ≡ Usage → ⊥
held_not_usage None a never e = never e
held_not_usage (Some file) a never e = cc

asked_not_usage : (files : Files) (asked : Asked) → asked_answer files asked ≡ Usage → ⊥
asked_not_usage files asked e =
    held_not_usage (first_not_held files (asked_files asked)) _
    (λ e. limits_not_usage (first_over_limit files (asked_files asked)) _
    (λ e. contents_not_usage asked (contents files (asked_files asked)) e) e) e

no_files_by : (files : Files) (asked : Option Asked) → option_map_or (asked_answer files) asked Usage ≡ Usage
    → file_names (option_map_or asked_files asked []) ≡ []
no_files_by files None e = refl
no_files_by files (Some asked) e = absurd (asked_not_usage files asked e)

some_is : (a b : Answer) → Some a ≡ Some b → a ≡ b
some_is a b e = cc

usage_names : (known : Option Files) (words : List Word) → option_map (λ files. answer files words) known ≡ Some Usage
    → file_names (wanted_files words) ≡ []
usage_names None words e = cc
usage_names (Some files) words e = no_files_by files (asked_by_words words) (some_is _ _ e)

-- words whose answer is the usage text want no files
pub names-at-usage : (held : Option Files) (words : List Word) → known_answer held words ≡ Some Usage
    → file_names (wanted_files words) ≡ []
names-at-usage held words e = usage_names (known_files held (wanted_files words)) words e

none_wanted : (words : List Word) → asked_by_words words ≡ None → wanted_files words ≡ []
none_wanted words none = ap (λ o. option_map_or asked_files o []) none

answer_to_none : (files : Files) (words : List Word) → asked_by_words words ≡ None → answer files words ≡ Usage
answer_to_none files words none = ap (λ o. option_map_or (asked_answer files) o Usage) none

without_files : (held : Option Files) (words : List Word) (wanted : List FileWanted) → wanted ≡ []
    → asked_by_words words ≡ None → option_map (λ files. answer files words) (known_files held wanted) ≡ Some Usage
without_files (Some files) words wanted empty none = ap Some (answer_to_none files words none)
without_files None words [] empty none = ap Some (answer_to_none [] words none)
without_files None words (w ∷ ws) empty none = cc

-- words that ask for nothing are answered by the usage text
pub answer-none : (held : Option Files) (words : List Word) → None ≡ asked_by_words words
    → known_answer held words ≡ Some Usage
answer-none held words none = without_files held words (wanted_files words) (none_wanted words (sym none)) (sym none)

-- what is asked by the words, with the files that it wants
answer_to_asked : (files : Files) (words : List Word) (asked : Asked) → asked_by_words words ≡ Some asked
    → answer files words ≡ asked_answer files asked
answer_to_asked files words asked is = ap (λ o. option_map_or (asked_answer files) o Usage) is

pub wanted-asked : (words : List Word) (asked : Asked) → Some asked ≡ asked_by_words words
    → wanted_files words ≡ asked_files asked
wanted-asked words asked is = ap (λ o. option_map_or asked_files o []) (sym is)

answer_by_contents : (files : Files) (asked : Asked) (fetched : List (List ℕ))
    → AreContents files (asked_files asked) fetched → asked_answer files asked ≡ contents_answer asked fetched
answer_by_contents files asked fetched are =
    ap (λ o. option_map_or Read o (limits_answer files asked (asked_files asked))) are.all_held
    ∙ (ap (λ o. option_map_or (λ file. Refused (too_large_line file)) o
    (contents_answer asked (contents files (asked_files asked)))) are.all_within
    ∙ ap (contents_answer asked) (sym are.same))

answer_over : (files : Files) (asked : Asked) (name : Word) → first_not_held files (asked_files asked) ≡ None
    → first_over_limit files (asked_files asked) ≡ Some name → asked_answer files asked ≡ Refused (too_large_line name)
answer_over files asked name held over =
    ap (λ o. option_map_or Read o (limits_answer files asked (asked_files asked))) held
    ∙ ap (λ o. option_map_or (λ file. Refused (too_large_line file)) o
    (contents_answer asked (contents files (asked_files asked)))) over

answer_missing : (files : Files) (asked : Asked) (name : Word) → first_not_held files (asked_files asked) ≡ Some name
    → asked_answer files asked ≡ Read name
answer_missing files asked name missing =
    ap (λ o. option_map_or Read o (limits_answer files asked (asked_files asked))) missing

-- what the fetches say of the answer
contents_by : (known : Option Files) (words : List Word) (asked : Asked) (fetched : List (List ℕ))
    → asked_by_words words ≡ Some asked → IfSome known (λ files. AreContents files (asked_files asked) fetched)
    → IfSome (option_map (λ files. answer files words) known) (λ a. a ≡ contents_answer asked fetched)
contents_by None words asked fetched is are = tt
contents_by (Some files) words asked fetched is are = answer_to_asked files words asked is
    ∙ answer_by_contents files asked fetched are

-- where all was fetched, the answer is that by the contents
pub answer-contents : (held : Option Files) (words : List Word) (asked : Asked) (fetched : List (List ℕ))
    → Some asked ≡ asked_by_words words
    → IfSome (known_files held (asked_files asked)) (λ files. AreContents files (asked_files asked) fetched)
    → IfSome (known_answer held words) (λ a. a ≡ contents_answer asked fetched)
answer-contents held words asked fetched is are =
    subst (λ wanted. IfSome (option_map (λ files. answer files words) (known_files held wanted))
    (λ a. a ≡ contents_answer asked fetched)) (sym (wanted-asked words asked is))
    (contents_by (known_files held (asked_files asked)) words asked fetched (sym is) are)

read_by : (known : Option Files) (words : List Word) (asked : Asked) (name : Word) → asked_by_words words ≡ Some asked
    → IsNotHeld known (asked_files asked) name → option_map (λ files. answer files words) known ≡ Some (Read name)
read_by None words asked name is missing = absurd missing
read_by (Some files) words asked name is missing =
    ap Some (answer_to_asked files words asked is ∙ answer_missing files asked name missing)

read_or_rose : (P : Type 0) (known : Option Files) (words : List Word) (asked : Asked) (name : Word)
    → asked_by_words words ≡ Some asked → P ⊎ IsNotHeld known (asked_files asked) name
    → P ⊎ (option_map (λ files. answer files words) known ≡ Some (Read name))
read_or_rose P known words asked name is (inl rose) = inl rose
read_or_rose P known words asked name is (inr missing) = inr (read_by known words asked name is missing)

over_by : (known : Option Files) (words : List Word) (asked : Asked) (name : Word) → asked_by_words words ≡ Some asked
    → IfSome known (λ files. (first_not_held files (asked_files asked) ≡ None)
    × (first_over_limit files (asked_files asked) ≡ Some name))
    → IfSome (option_map (λ files. answer files words) known) (λ a. a ≡ Refused (too_large_line name))
over_by None words asked name is over = tt
over_by (Some files) words asked name is over = answer_to_asked files words asked is
    ∙ answer_over files asked name over.0 over.1

-- a run to whose end its fetches led, over the files that its words want
ends_by : (known : Option Files) (words : List Word) (asked : Asked) (faults : ℕ × ℕ) (e : Ending)
    → asked_by_words words ≡ Some asked → FetchesAll known (asked_files asked) faults (Err e)
    → MayEnd (option_map (λ files. answer files words) known) (file_names (asked_files asked)) faults e
ends_by known words asked faults ending.Usage is h = absurd h
ends_by known words asked faults (ending.Read line) is h =
    (h.0, h.1, read_or_rose (Rose faults.0 faults.1) known words asked h.0 is h.2, h.3)
ends_by known words asked faults (ending.Refused line) is h =
    (too_large_line h.0, over_by known words asked h.0 is h.1, h.2)
ends_by known words asked faults ending.Memory is h = tt

pub may_end-fetches : (held : Option Files) (words : List Word) (asked : Asked) (faults : ℕ × ℕ) (e : Ending)
    → Some asked ≡ asked_by_words words
    → FetchesAll (known_files held (asked_files asked)) (asked_files asked) faults (Err e)
    → MayEnd (known_answer held words) (file_names (wanted_files words)) faults e
may_end-fetches held words asked faults e is h =
    subst (λ wanted. MayEnd (option_map (λ files. answer files words) (known_files held wanted)) (file_names wanted)
    faults e) (sym (wanted-asked words asked is))
    (ends_by (known_files held (asked_files asked)) words asked faults e (sym is) h)

if_same : (answer : Option Answer) (a b : Answer) → IfSome answer (λ x. x ≡ a) → a ≡ b → IfSome answer (λ x. x ≡ b)
if_same None a b h e = tt
if_same (Some x) a b h e = h ∙ e

-- what was accepted is the answer
pub answer-same : (answer : Option Answer) (a b : Answer) → IfSome answer (λ x. x ≡ a) → a ≡ b
    → IfSome answer (λ x. x ≡ b)
answer-same answer a b h e = if_same answer a b h e

-- a refusal of what was fetched is one to which the run may come
pub may_end-refusal : (answer : Option Answer) (names : List Word) (faults : ℕ × ℕ) (a : Answer) (e : Ending)
    → IfSome answer (λ x. x ≡ a) → Refuses a e → MayEnd answer names faults e
may_end-refusal answer names faults a ending.Usage is refuses = absurd refuses
may_end-refusal answer names faults a (ending.Read text) is refuses = absurd refuses
may_end-refusal answer names faults a (ending.Refused text) is refuses =
    (refuses.0, if_same answer a _ is refuses.1, refuses.2)
may_end-refusal answer names faults a ending.Memory is refuses = tt

-- the same, where the files that are wanted and their contents go by other names
pub may_end-fetched : (held : Option Files) (words : List Word) (asked : Asked) (wanted : List FileWanted)
    (faults : ℕ × ℕ) (e : Ending) → Some asked ≡ asked_by_words words → wanted ≡ asked_files asked
    → FetchesAll (known_files held wanted) wanted faults (Err e)
    → MayEnd (known_answer held words) (file_names (wanted_files words)) faults e
may_end-fetched held words asked wanted faults e is same h =
    may_end-fetches held words asked faults e is (subst (λ w. FetchesAll (known_files held w) w faults (Err e)) same h)

pub answer-fetched : (held : Option Files) (words : List Word) (asked : Asked) (wanted : List FileWanted)
    (fetched shown : List (List ℕ)) → Some asked ≡ asked_by_words words → wanted ≡ asked_files asked
    → IfSome (known_files held wanted) (λ files. AreContents files wanted fetched) → fetched ≡ shown
    → IfSome (known_answer held words) (λ a. a ≡ contents_answer asked shown)
answer-fetched held words asked wanted fetched shown is same are as_shown =
    subst (λ cs. IfSome (known_answer held words) (λ a. a ≡ contents_answer asked cs)) as_shown
    (answer-contents held words asked fetched is
    (subst (λ w. IfSome (known_files held w) (λ files. AreContents files w fetched)) same are))
