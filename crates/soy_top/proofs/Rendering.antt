-- The page that is rendered is the answer, a `render` that isn't refused has one, and what the output took is its
-- bytes.
use Rattle.std.proofs.Common.{◌≡◌, ℕ, List, Option, Some, None, refl, ap, sym, subst, ◌∙◌}
use Rattle.std.specs.Prelude.{IfSome, Result, Ok, Err, length, option_map, option_and_then}
use Rattle.std.specs.Option.{option_map_or}
use Rattle.soy_base.specs.declared.code.Code.{Code}
use Rattle.soy_base.specs.declared.path.PathStep.{PathStep}
use Rattle.soy_front.specs.FrontAnswer.{Front, front_answer}
use Rattle.soy_front.specs.declared.fault.FrontFault.{FrontFault}
use Rattle.soy_io.specs.FileOf.{Files}
use Rattle.soy_pieces.specs.Outcome.{RunEnd, StopsAt, WholeRun, end_of_outcome}
use Rattle.soy_top.specs.declared.status.Status.{Status}
use Rattle.soy_top.specs.declared.status.Status.TheVariants as status
use Rattle.soy_top.specs.Answer.{Answer, Done, Read, Refused, TooDeep, Usage, answer, asked_answer, call_fault}
use Rattle.soy_top.specs.Answer.{contents_answer, data_answer, ended_page, entry_answer, entry_of, files_answer}
use Rattle.soy_top.specs.Answer.{known_answer, limits_answer, out_text, render_answer, unless_refused}
use Rattle.soy_top.specs.Asked.{Asked, Render, Check, Extract, Gen, Play, Preview, Format, asked_by_words}
use Rattle.soy_top.specs.Asked.{source_files}
use Rattle.soy_top.specs.Runs.Change.{Change, Took, TookPrefix}
use Rattle.soy_top.specs.Runs.Course.{Course, Run}
use Rattle.soy_top.specs.Runs.Ending.{OutPart, TextWritten, TooDeepSaid}
use Rattle.soy_top.specs.FilesWanted.{FileWanted, asked_files, contents, first_not_held, first_over_limit, known_files}
use Rattle.soy_top.specs.FilesWanted.{wanted_files}
use Rattle.soy_top.specs.Inputs.{bundle_content, but_last, last}
use Rattle.soy_top.specs.Line.{ended, too_large_line}
use Rattle.soy_top.specs.Numbered.{numbered, numbered_line}
use Rattle.soy_top.specs.PageTook.{PageTook}
use Rattle.soy_top.specs.Rendered.{Rendered, known_rendered, page_outcome, page_text, rendered_answer, rendered_asked}
use Rattle.soy_top.specs.Rendered.{rendered_contents, rendered_data, rendered_entry, rendered_files, rendered_front}
use Rattle.soy_top.specs.Rendered.{rendered_inputs, rendered_words, unless_file}
use Rattle.soy_top.specs.RenderAsked.{AsksRender, IsRender}
use Rattle.soy_top.specs.Words.{Word}
use Rattle.soy_top.proofs.Courses.{done_only, out_part, too_deep_only}
use Rattle.soy_top.proofs.Options.{if_some, none_some, some_same}
use Rattle.soy_rules.specs.Templates.{Declared}
use Rattle.soy_tree.specs.Values.{Value}
use Rattle.soy_types.specs.ReadData.{data_at}

-- ---- the page is the answer, or it is refused

abbrev IsRefused : Answer → Type 0
IsRefused (Read file) = Unit {0}
IsRefused (Refused line) = Unit {0}
IsRefused _ = ⊥

-- a page that is this answer, or none and a refusal
abbrev Decided : Option Rendered → Answer → Type 0
Decided None a = IsRefused a
Decided (Some page) a = a ≡ rendered_answer page

module _ (names : List Word) (files : List (List ℕ)) (template json_name : Word) (json : List ℕ) where
  data_decided : (of : Front) (d : Declared) (r : Result Value (Code × List PathStep))
      → Decided (rendered_data names files of d r) (data_answer (ended_page names files) json_name of d r)
  data_decided of d (Ok v) = refl
  data_decided of d (Err fault) = tt

  entry_decided : (of : Front) (o : Option Declared)
      → Decided (rendered_entry names files json of o)
      (entry_answer (ended_page names files) template json_name json of o)
  entry_decided of None = tt
  entry_decided of (Some d) = data_decided of d (data_at d.template.params json)

  front_decided : (bundle : Word) (r : Result Front FrontFault)
      → Decided (rendered_front names files template json r)
      (unless_refused names files bundle (λ of. render_answer (ended_page names files) template json_name json of) r)
  front_decided bundle (Ok of) = entry_decided of (entry_of of template)
  front_decided bundle (Err fault) = tt

module _ (template json_name bundle : Word) (names : List Word) where
  abbrev asked : Asked
  asked = Render template json_name bundle names

  -- and all contents of a `render`, behind the limits of its files and behind the question whether they are held
  contents_decided : (contents : List (List ℕ))
      → Decided (rendered_contents asked contents) (contents_answer asked contents)
  contents_decided contents =
      let n : ℕ = length names in
      front_decided names (last n contents) template json_name (numbered 0 (but_last n contents)) bundle
      (front_answer (last n contents) (bundle_content bundle 1 (but_last n contents)))

  limits_decided : (o : Option Word) (page : Option Rendered) (a : Answer) → Decided page a
      → Decided (unless_file o page) (option_map_or (λ file. Refused (too_large_line file)) o a)
  limits_decided None page a is = is
  limits_decided (Some file) page a is = tt

  held_decided : (o : Option Word) (page : Option Rendered) (a : Answer) → Decided page a
      → Decided (unless_file o page) (option_map_or Read o a)
  held_decided None page a is = is
  held_decided (Some file) page a is = tt

  files_decided : (files : Files) (wanted : List FileWanted)
      → Decided (rendered_files files asked wanted) (files_answer files asked wanted)
  files_decided files wanted =
      held_decided (first_not_held files wanted)
      (unless_file (first_over_limit files wanted) (rendered_contents asked (contents files wanted)))
      (limits_answer files asked wanted)
      (limits_decided (first_over_limit files wanted) (rendered_contents asked (contents files wanted))
      (contents_answer asked (contents files wanted)) (contents_decided (contents files wanted)))

-- ---- of words and files

-- other commands have no page
no_page : (asked : Asked) (before files : List (List ℕ)) (page : Rendered)
    → rendered_inputs asked before files ≡ Some page → IsRender asked
no_page (Render template json bundle names) before files page is = tt
no_page (Check bundle names) before files page is = absurd (none_some page is)
no_page (Extract names) before files page is = absurd (none_some page is)
no_page (Gen number) before files page is = absurd (none_some page is)
no_page (Play script first second names) before files page is = absurd (none_some page is)
no_page (Preview template json bundle names) before files page is = absurd (none_some page is)
no_page (Format name) before files page is = absurd (none_some page is)

-- a page in whose way no file stands
unless_some : (o : Option Word) (one : Option Rendered) (page : Rendered) → unless_file o one ≡ Some page
    → one ≡ Some page
unless_some None one page is = is
unless_some (Some file) one page is = absurd (none_some page is)

-- words that have a page ask for a `render`
render_asked : (files : Files) (asked : Asked) (wanted : List FileWanted) (page : Rendered)
    → rendered_files files asked wanted ≡ Some page → IsRender asked
render_asked files asked wanted page is =
    let n : ℕ = length (source_files asked) in
    let all : List (List ℕ) = contents files wanted in
    no_page asked (but_last n all) (last n all) page
    (unless_some (first_over_limit files wanted) (rendered_contents asked all) page
    (unless_some (first_not_held files wanted)
    (unless_file (first_over_limit files wanted) (rendered_contents asked all)) page is))

-- a page that is decided by an answer is that answer
by_decided : (o : Option Rendered) (a : Answer) (page : Rendered) → Decided o a → o ≡ Some page
    → a ≡ rendered_answer page
by_decided None a page is same = absurd (none_some page same)
by_decided (Some other) a page is same = is ∙ ap rendered_answer (some_same other page same)

files_page : (files : Files) (asked : Asked) (wanted : List FileWanted) (page : Rendered) → IsRender asked
    → rendered_files files asked wanted ≡ Some page → files_answer files asked wanted ≡ rendered_answer page
files_page files (Render template json bundle names) wanted page render is =
    let r : Asked = Render template json bundle names in
    by_decided (rendered_files files r wanted) (files_answer files r wanted) page
    (files_decided template json bundle names files wanted) is
files_page files (Check bundle names) wanted page render is = absurd render
files_page files (Extract names) wanted page render is = absurd render
files_page files (Gen number) wanted page render is = absurd render
files_page files (Play script first second names) wanted page render is = absurd render
files_page files (Preview template json bundle names) wanted page render is = absurd render
files_page files (Format name) wanted page render is = absurd render

-- the words ask for a render, and the page is the answer
abbrev IsAnswered : Option Asked → Answer → Rendered → Type 0
IsAnswered asked a page = AsksRender asked × (a ≡ rendered_answer page)

-- where the words have a page, they ask for a `render` and the page is the answer
asked_page : (files : Files) (o : Option Asked) (page : Rendered)
    → option_and_then (rendered_asked files) o ≡ Some page
    → IsAnswered o (option_map_or (asked_answer files) o Usage) page
asked_page files None page is = absurd (none_some page is)
asked_page files (Some asked) page is =
    let render = render_asked files asked (asked_files asked) page is in
    (render, files_page files asked (asked_files asked) page render is)

pub known_page : (held : Option Files) (words : List Word) (page : Rendered) → known_rendered held words ≡ Some page
    → AsksRender (asked_by_words words) × (known_answer held words ≡ Some (rendered_answer page))
known_page held words page is = of_files (known_files held (wanted_files words)) is where
  of_files : (o : Option Files) → option_and_then (λ files. rendered_words files words) o ≡ Some page
      → AsksRender (asked_by_words words)
      × (option_map (λ files. answer files words) o ≡ Some (rendered_answer page))
  of_files None is = absurd (none_some page is)
  of_files (Some files) is =
      let there = asked_page files (asked_by_words words) page is in (there.0, ap Some there.1)

-- **the page is the answer**
pub page_is_answer : (held : Option Files) (words : List Word) → IfSome (known_rendered held words) (λ page.
    AsksRender (asked_by_words words) × (known_answer held words ≡ Some (rendered_answer page)))
page_is_answer held words =
    if_some (known_rendered held words)
    (λ page. AsksRender (asked_by_words words) × (known_answer held words ≡ Some (rendered_answer page)))
    (λ page is. known_page held words page is)

-- ---- what the output took

-- a fact of the answer that there is
from_some : {A : Type 0} (o : Option A) (x : A) (P : A → Type 0) → o ≡ Some x → IfSome o P → P x
from_some o x P is holds = subst (λ z. IfSome z P) is holds

-- texts of one answer are the same
done_text : (text other : List ℕ) → ◌≡◌ {A = Answer} (Done text) (Done other) → text ≡ other
done_text text other e = cc

done_deep : (text other line : List ℕ) → ◌≡◌ {A = Answer} (Done text) (TooDeep other line) → ⊥
done_deep text other line e = cc

deep_text : (text other line more : List ℕ) → ◌≡◌ {A = Answer} (TooDeep text line) (TooDeep other more)
    → text ≡ other
deep_text text other line more e = cc

module _ (names : List Word) (files : List (List ℕ)) (text : List ℕ) (out err : Change) where
  prefix_by : (end : RunEnd) → TookPrefix out (out_text (ended_page names files text end)) → TookPrefix out text
  prefix_by WholeRun took = took
  prefix_by (StopsAt site) took = took

  done_by : (end : RunEnd)
      → ((other : List ℕ) × (ended_page names files text end ≡ Done other) × Took out other) → Took out text
  done_by WholeRun took = subst (λ t. Took out t) (sym (done_text text took.0 took.1)) took.2
  done_by (StopsAt site) took =
      absurd (done_deep took.0 text (numbered_line names files (call_fault site)) (sym took.1))

  deep_by : (end : RunEnd)
      → ((other : List ℕ) × (line : List ℕ) × (ended_page names files text end ≡ TooDeep other line) × Took out other
      × Took err (ended line)) → Took out text
  deep_by WholeRun took = absurd (done_deep text took.0 took.1 took.2)
  deep_by (StopsAt site) took =
      subst (λ t. Took out t)
      (sym (deep_text text took.0 (numbered_line names files (call_fault site)) took.1 took.2)) took.3

-- **what the output took of a page**, by what it took of the answer
page_took : (held : Option Files) (words : List Word) (out err : Change) (SameErr : Type 0) (result : Status)
    → OutPart (known_answer held words) out
    → (result ≡ status.Done → TextWritten (known_answer held words) out SameErr)
    → (result ≡ status.TooDeep → TooDeepSaid (known_answer held words) out err)
    → IfSome (known_rendered held words) (λ page. PageTook page out result)
page_took held words out err SameErr result prefix done deep =
    if_some (known_rendered held words) (λ page. PageTook page out result)
    (λ page is. let known = (known_page held words page is).1 in
    let end : RunEnd = end_of_outcome (page_outcome page page.input) in
    record {
      prefix = prefix_by page.names page.contents (page_text page) out err end
          (from_some (known_answer held words) (rendered_answer page) (λ a. TookPrefix out (out_text a)) known prefix);
      done = λ whole. done_by page.names page.contents (page_text page) out err end
          (from_some (known_answer held words) (rendered_answer page)
          (λ a. (other : List ℕ) × (a ≡ Done other) × Took out other) known (done whole).0);
      too_deep = λ stopped. deep_by page.names page.contents (page_text page) out err end
          (from_some (known_answer held words) (rendered_answer page)
          (λ a. (other : List ℕ) × (line : List ℕ) × (a ≡ TooDeep other line) × Took out other
          × Took err (ended line)) known (deep stopped));
    })

-- **the same by the course of a run**
pub course_took : (held : Option Files) (words : List Word) (run : Run) (SameOut SameErr : Type 0)
    → (SameOut → run.out.taken_after ≡ run.out.taken_before) → (SameErr → run.err.taken_after ≡ run.err.taken_before)
    → run.answer ≡ known_answer held words → Course run SameOut SameErr
    → IfSome (known_rendered held words) (λ page. PageTook page run.out run.result)
course_took held words run SameOut SameErr out_keeps err_keeps is course =
    page_took held words run.out run.err SameErr run.result
    (subst (λ a. OutPart a run.out) is (out_part run SameOut SameErr out_keeps err_keeps course))
    (λ e. subst (λ a. TextWritten a run.out SameErr) is (done_only run SameOut SameErr course e))
    (λ e. subst (λ a. TooDeepSaid a run.out run.err) is (too_deep_only run SameOut SameErr course e))

-- ---- a `render` that isn't refused has a page

-- a page that is decided by an answer that is no refusal is there
there_by : (o : Option Rendered) (a : Answer) → Decided o a → (IsRefused a → ⊥) → (page : Rendered) × (o ≡ Some page)
there_by None a is not = absurd (not is)
there_by (Some page) a is not = (page, refl)

asked_has : (files : Files) (o : Option Asked) (a : Answer) → AsksRender o
    → option_map_or (asked_answer files) o Usage ≡ a → (IsRefused a → ⊥)
    → (page : Rendered) × (option_and_then (rendered_asked files) o ≡ Some page)
asked_has files None a render is not = absurd render
asked_has files (Some (Render template json bundle names)) a render is not =
    let r : Asked = Render template json bundle names in
    there_by (rendered_files files r (asked_files r)) (files_answer files r (asked_files r))
    (files_decided template json bundle names files (asked_files r)) (λ refused. not (subst IsRefused is refused))
asked_has files (Some (Check bundle names)) a render is not = absurd render
asked_has files (Some (Extract names)) a render is not = absurd render
asked_has files (Some (Gen number)) a render is not = absurd render
asked_has files (Some (Play script first second names)) a render is not = absurd render
asked_has files (Some (Preview template json bundle names)) a render is not = absurd render
asked_has files (Some (Format name)) a render is not = absurd render

-- **a `render` whose answer is a text has a page**
pub render_has : (held : Option Files) (words : List Word) (a : Answer) → AsksRender (asked_by_words words)
    → known_answer held words ≡ Some a → (IsRefused a → ⊥)
    → (page : Rendered) × (known_rendered held words ≡ Some page)
render_has held words a render known not = of_files (known_files held (wanted_files words)) known where
  of_files : (o : Option Files) → option_map (λ files. answer files words) o ≡ Some a
      → (page : Rendered) × (option_and_then (λ files. rendered_words files words) o ≡ Some page)
  of_files None is = absurd (none_some a is)
  of_files (Some files) is =
      asked_has files (asked_by_words words) a render (some_same (answer files words) a is) not
