-- The answer that a page, a stopped page, a refused page, a catalogue, files that are accepted, a summary, a canonical
-- source and what is shown of a page are.
use Rattle.std.proofs.Common.{◌≡◌, ℕ, List, [], ◌++◌, length, map, Option}
use Rattle.std.proofs.Common.{Some, None, refl, sym, ap, ◌∙◌, codes}
use Rattle.std.specs.Prelude.{Result, Ok, Err}
use Rattle.serde_json.specs.Data.{Data}
use Rattle.soy_base.specs.declared.code.Code.{Code}
use Rattle.soy_base.specs.declared.code.Code.TheVariants as code
use Rattle.soy_base.specs.declared.path.PathStep.{PathStep}
use Rattle.soy_front.specs.Accepted.{Accepted}
use Rattle.soy_front.specs.FrontAnswer.{Front, front_answer}
use Rattle.soy_front.specs.declared.fault.FrontFault.{FrontFault}
use Rattle.soy_front.proofs.FilesLaws.{files_had, trees_within}
use Rattle.soy_front.proofs.FirstFaults.{first_apart}
use Rattle.soy_front.proofs.FrontAnswers.{answered_fault}
use Rattle.soy_io.specs.FileOf.{Files}
use Rattle.soy_pieces.specs.Outcome.{Outcome, RunEnd, StopsAt, WholeRun, end_of_outcome}
use Rattle.soy_top.specs.Commands.AcceptedRender.{AcceptedRender}
use Rattle.soy_top.specs.Answer.{Answer, Done, PageAnswer, Refused, TooDeep, accepted_text, accepted_then}
use Rattle.soy_top.specs.Answer.{answer, bundled_answer, call_fault, catalogue_answer, contents_answer}
use Rattle.soy_top.specs.Answer.{data_answer, ended_page, entry_answer, entry_of, inputs_answer}
use Rattle.soy_top.specs.Answer.{render_answer, run_text, summed_page, template_outcome}
use Rattle.soy_top.specs.Answer.{unless_faulty, unless_refused, workload_answer}
use Rattle.soy_top.specs.Asked.{Asked, Check, Extract, Format, Gen, Render}
use Rattle.soy_top.specs.FilesWanted.{FileWanted, bundle_files, content, contents}
use Rattle.soy_top.specs.FilesWanted.{source_file}
use Rattle.soy_top.specs.Generated.{workload_entry, workload_files, workload_json, workload_names}
use Rattle.soy_top.specs.Inputs.{but_last, last}
use Rattle.soy_top.specs.Commands.IsCatalogue.{IsCatalogue}
use Rattle.soy_top.specs.Commands.IsChecked.{IsChecked}
use Rattle.soy_top.specs.Commands.IsFormatted.{IsFormatted}
use Rattle.soy_top.specs.Commands.IsGenerated.{IsGenerated, IsSummary}
use Rattle.soy_top.specs.Commands.IsPage.{IsPage, IsRefusedPage, IsStoppedPage}
use Rattle.soy_top.specs.Commands.IsPage.IsRefusedPage.{NoJson, NoTemplate, NoValues}
use Rattle.soy_top.specs.Commands.IsText.{IsText}
use Rattle.soy_top.specs.Commands.IsText.IsText.{Played, Catalogue, Checked, Formatted, Generated, Page}
use Rattle.soy_top.specs.Line.{entry_line}
use Rattle.soy_top.specs.MadeBundle.{bundle_text}
use Rattle.soy_top.specs.Numbered.{numbered_line}
use Rattle.soy_top.specs.Pointer.{pointer_line}
use Rattle.soy_top.specs.Words.{Word}
use Rattle.soy_top.proofs.Plays.AnsweredPlays.{played_answered}
use Rattle.soy_top.proofs.CanonicalTexts.{tree_answered, tree_within}
use Rattle.soy_top.proofs.SpelledWords.{check_asks, extract_asks, format_asks, gen_asks, render_asks}
use Rattle.soy_top.proofs.Contents.HeldContents.{before_named, last_named}
use Rattle.soy_rules.specs.Templates.{Declared}
use Rattle.soy_tree.specs.Values.{Value}
use Rattle.soy_base.specs.Path.{Path}
use Rattle.soy_types.specs.ReadData.{data_at, json_of, refused, values_at, values_of_json}
use Rattle.work_gen.specs.Workload.{workload}
use Rattle.work_gen.specs.declared.workload.Workload.{Workload}
use Rattle.soy_top.specs.Commands.IsStopped.{IsStopped}
use Rattle.soy_top.specs.Commands.IsStopped.IsStopped.{StoppedPage, StoppedPreview}
use Rattle.soy_top.specs.Commands.IsText.IsText.{Played, Previewed}
use Rattle.soy_top.proofs.AcceptedAlike.{accepted_alike}
use Rattle.soy_top.proofs.Previews.PreviewAnswers.{preview_answered, preview_stopped}
use Rattle.soy_top.proofs.Contents.ReadyFiles.{accepted_is, bundle_ready, not_large, not_missing, ready_answer}
use Rattle.soy_top.proofs.Contents.ReadyFiles.{source_ready}
use Rattle.soy_top.proofs.Contents.ReadyFiles.{sources_ready}

-- files and a bundle that are accepted have an answer
record HasAnswer (answer : Result Front FrontFault) : Type 0 where
  pub of : Front
  pub answered : answer ≡ Ok of

-- files and a bundle that are accepted are answered by something
front_of : (contents : List (List ℕ)) (bundle : Option (List ℕ)) → Accepted contents bundle
    → HasAnswer (front_answer contents bundle)
front_of contents bundle accepted = by_answer (front_answer contents bundle) refl where
  by_answer : (r : Result Front FrontFault) → front_answer contents bundle ≡ r → HasAnswer r
  by_answer (Ok of) is = record { of = of; answered = refl }
  by_answer (Err fault) is =
      absurd (first_apart contents bundle fault accepted (answered_fault contents bundle fault is))

-- ---- pages

module _ (files : Files) (words : List Word) (r : AcceptedRender files words) where
  abbrev asked : Asked
  asked = Render r.template r.json_name r.bundle r.names

  abbrev page : PageAnswer
  page = ended_page r.names r.contents

  -- **the answer is that by what the inputs deserve**
  render_is : answer files words ≡ render_answer page r.template r.json_name r.json r.of
  render_is =
      ready_answer files words asked
      (render_asks words r.template r.json_name r.bundle r.names r.words_are r.files_held.0)
      (not_missing (codes "render") files words r) (not_large (codes "render") files words r)
      ∙ (accepted_is (codes "render") files words r (inputs_answer asked) (render_answer page r.template r.json_name)
      (λ given. refl)
      ∙ accepted_alike r.names r.contents r.bundle r.template r.json_name r.json r.content r.of r.deserved page)

  -- the answer by a template that there is, and by what its data are read as
  by_template : (o : Option Declared) → entry_of r.of r.template ≡ o
      → answer files words ≡ entry_answer page r.template r.json_name r.json r.of o
  by_template o is = render_is ∙ ap (entry_answer page r.template r.json_name r.json r.of) is

  -- and by what they are read as
  by_data : (d : Declared) (read : Result Value (Code × List PathStep)) → entry_of r.of r.template ≡ Some d
      → data_at d.template.params r.json ≡ read → answer files words ≡ data_answer page r.json_name r.of d read
  by_data d read is reads = by_template (Some d) is ∙ ap (data_answer page r.json_name r.of d) reads

  -- a text, whole or up to a call
  given_end : (d : Declared) (v : Value) (end : RunEnd) → entry_of r.of r.template ≡ Some d
      → data_at d.template.params r.json ≡ Ok v → end_of_outcome (template_outcome r.of d v) ≡ end
      → answer files words ≡ ended_page r.names r.contents (run_text (template_outcome r.of d v)) end
  given_end d v end is reads ends =
      by_data d (Ok v) is reads ∙ ap (ended_page r.names r.contents (run_text (template_outcome r.of d v))) ends

-- a page is the answer, whole; up to a call; and where it is refused
page_answered : (files : Files) (words : List Word) (text : List ℕ) → IsPage files words text
    → answer files words ≡ Done text
page_answered files words text p =
    given_end files words p.render p.d p.v WholeRun p.entry p.reads p.whole ∙ ap Done (sym p.text_is)

page_stopped : (files : Files) (words : List Word) (text line : List ℕ) → IsStoppedPage files words text line
    → answer files words ≡ TooDeep text line
page_stopped files words text line p =
    given_end files words p.render p.d p.v (StopsAt p.site) p.entry p.reads p.stops
    ∙ (ap (λ t. TooDeep t (numbered_line p.render.names p.render.contents (call_fault p.site))) (sym p.text_is)
    ∙ ap (TooDeep text) (sym p.line_is))

pub refused_answered : (files : Files) (words : List Word) (line : List ℕ) → IsRefusedPage files words line
    → answer files words ≡ Refused line
refused_answered files words line (NoTemplate r none is) = by_template files words r None none ∙ ap Refused (sym is)
refused_answered files words line (NoJson r d entry none is) =
    by_data files words r d (Err (code.NotJson, [])) entry (ap (values_of_json d.template.params) none)
    ∙ ap Refused (sym is)
refused_answered files words line (NoValues r d json path entry some none is) =
    by_data files words r d (Err (code.DataType, path)) entry
    (ap (values_of_json d.template.params) some ∙ ap refused none) ∙ ap Refused (sym is)

-- ---- refusals of inputs that are accepted are those of pages

-- lines of one refusal are the same
refused_same : (line other : List ℕ) → ◌≡◌ {A = Answer} (Refused line) (Refused other) → other ≡ line
refused_same line other e = cc

ended_not_refused : (names : List Word) (contents : List (List ℕ)) (text : List ℕ) (end : RunEnd) (line : List ℕ)
    → ended_page names contents text end ≡ Refused line → ⊥
ended_not_refused names contents text WholeRun line e = cc
ended_not_refused names contents text (StopsAt site) line e = cc

module _ (files : Files) (words : List Word) (r : AcceptedRender files words) (line : List ℕ) where
  values_refused : (d : Declared) (json : Data) (v : Result Value Path) → entry_of r.of r.template ≡ Some d
      → json_of r.json ≡ Some json → values_at d.template.params json ≡ v
      → data_answer (ended_page r.names r.contents) r.json_name r.of d (refused v) ≡ Refused line
      → IsRefusedPage files words line
  values_refused d json (Ok v) entry some is h =
      let o : Outcome = template_outcome r.of d v in
      absurd (ended_not_refused r.names r.contents (run_text o) (end_of_outcome o) line h)
  values_refused d json (Err path) entry some is h =
      NoValues r d json path entry some is (refused_same (pointer_line r.json_name path code.DataType) line h)

  -- a refusal by what the data are read as is that of the data
  data_refused : (d : Declared) (o : Option Data) → entry_of r.of r.template ≡ Some d → json_of r.json ≡ o
      → data_answer (ended_page r.names r.contents) r.json_name r.of d (values_of_json d.template.params o)
      ≡ Refused line
      → IsRefusedPage files words line
  data_refused d None entry none h =
      NoJson r d entry none (refused_same (pointer_line r.json_name [] code.NotJson) line h)
  data_refused d (Some json) entry some h =
      values_refused d json (values_at d.template.params json) entry some refl h

  -- and one by the template that was found is that of the template, or of the data
  entry_refused : (o : Option Declared) → entry_of r.of r.template ≡ o
      → entry_answer (ended_page r.names r.contents) r.template r.json_name r.json r.of o ≡ Refused line
      → IsRefusedPage files words line
  entry_refused None entry h = NoTemplate r entry (refused_same (entry_line r.template) line h)
  entry_refused (Some d) entry h = data_refused d (json_of r.json) entry refl h

  pub page_refused : answer files words ≡ Refused line → IsRefusedPage files words line
  page_refused h = entry_refused (entry_of r.of r.template) refl (sym (render_is files words r) ∙ h)

-- ---- files that are accepted, and catalogues

-- that files are accepted is the answer, and so is their catalogue
checked_answered : (files : Files) (words : List Word) (text : List ℕ) → IsChecked files words text
    → answer files words ≡ Done text
checked_answered files words text c =
    let asked : Asked = Check c.bundle c.names in
    let sources : List FileWanted = map source_file c.names in
    let ready = sources_ready files c.names c.contents c.files_held.1
    (trees_within c.contents c.accepted.trees c.accepted.files.have) in
    let bundle = bundle_ready files c.bundle c.content sources c.bundle_held ready.held ready.within in
    let front = front_of c.contents c.content c.accepted in
    ready_answer files words asked (check_asks words c.bundle c.names c.words_are c.files_held.0) bundle.held
    bundle.within
    ∙ (ap (λ x. inputs_answer asked x (last (length c.names) (contents files (bundle_files c.bundle ++ sources))))
    (before_named files (bundle_files c.bundle) c.names)
    ∙ (ap (inputs_answer asked (contents files (bundle_files c.bundle)))
    (last_named files (bundle_files c.bundle) c.names ∙ ready.same)
    ∙ (ap (λ b. accepted_then c.names c.contents c.bundle b (λ of. Done accepted_text)) bundle.alone
    ∙ (ap (unless_refused c.names c.contents c.bundle (λ of. Done accepted_text)) front.answered
    ∙ ap Done (sym c.text_is)))))

catalogue_answered : (files : Files) (words : List Word) (text : List ℕ) → IsCatalogue files words text
    → answer files words ≡ Done text
catalogue_answered files words text c =
    let asked : Asked = Extract c.names in
    let sources : List FileWanted = map source_file c.names in
    let ready = sources_ready files c.names c.contents c.files_held.1
    (trees_within c.contents c.trees c.are_files.have) in
    ready_answer files words asked (extract_asks words c.names c.words_are c.files_held.0) ready.held ready.within
    ∙ (ap (λ y. inputs_answer asked (but_last (length c.names) (contents files sources)) y)
    (last_named files [] c.names ∙ ready.same)
    ∙ (ap (unless_faulty c.names c.contents catalogue_answer) (files_had c.contents c.trees c.rows c.are_files)
    ∙ ap Done (sym c.text_is)))

-- ---- workloads

-- the summary of a workload is the answer to its number
summary_answered : (w : Workload) (text : List ℕ) → IsSummary w text → workload_answer w ≡ Done text
summary_answered w text s =
    let sources : List (List ℕ) = workload_files w in
    ap (unless_faulty workload_names sources (bundled_answer w workload_names sources))
    (files_had sources s.trees s.rows s.are_files)
    ∙ (accepted_alike workload_names sources (codes "gen.bundle") (workload_entry w) (codes "gen.json")
    (workload_json w) (Some (bundle_text s.rows)) s.of s.deserved summed_page
    ∙ (ap (entry_answer summed_page (workload_entry w) (codes "gen.json") (workload_json w) s.of) s.entry
    ∙ (ap (data_answer summed_page (codes "gen.json") s.of s.d) s.reads ∙ ap Done (sym s.text_is))))

generated_answered : (files : Files) (words : List Word) (text : List ℕ) → IsGenerated words text
    → answer files words ≡ Done text
generated_answered files words text g =
    ready_answer files words (Gen g.number) (gen_asks words g.number g.words_are) refl refl
    ∙ summary_answered (workload g.number) text g.is_summary

-- ---- canonical sources

-- the canonical source of a file that has a tree is the answer
formatted_answered : (files : Files) (words : List Word) (text : List ℕ) → IsFormatted files words text
    → answer files words ≡ Done text
formatted_answered files words text f =
    let ready = source_ready files f.name f.bytes [] [] f.file_held (tree_within f.bytes f.tree f.deserves)
    (record { held = refl; within = refl; same = refl }) in
    ready_answer files words (Format f.name) (format_asks words f.name f.words_are) ready.held ready.within
    ∙ (ap (contents_answer (Format f.name)) ready.same
    ∙ tree_answered f.name f.bytes f.tree text f.deserves f.text_is)

-- **a text that the words and the files have is the answer**
pub text_answered : (files : Files) (words : List Word) (text : List ℕ) → IsText files words text
    → answer files words ≡ Done text
text_answered files words text (Page p) = page_answered files words text p
text_answered files words text (Checked c) = checked_answered files words text c
text_answered files words text (Catalogue c) = catalogue_answered files words text c
text_answered files words text (Generated g) = generated_answered files words text g
text_answered files words text (Played p) = played_answered files words text p
text_answered files words text (Formatted f) = formatted_answered files words text f
text_answered files words text (Previewed p) = preview_answered files words text p

-- **and so is one that ends too deep**
pub stopped_answered : (files : Files) (words : List Word) (text line : List ℕ) → IsStopped files words text line
    → answer files words ≡ TooDeep text line
stopped_answered files words text line (StoppedPage p) = page_stopped files words text line p
stopped_answered files words text line (StoppedPreview p none) =
    preview_stopped files words line p ∙ ap (λ t. TooDeep t line) (sym none)
