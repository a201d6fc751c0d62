-- The answer that what is shown of a page is: its lines, nothing up to a call, and its refusals, both ways.
use Rattle.std.proofs.Common.{◌≡◌, ◌≤◌, ◌<◌, ℕ, Bool, true, false, List, [], Option, Some, None, refl, sym, ap, ◌∙◌}
use Rattle.std.proofs.Common.{codes, length}
use Rattle.std.specs.Prelude.{Result, Ok, Err, if◌then◌else◌}
use Rattle.std.proofs.lemmas.Bool.{ltb-true}
use Rattle.serde_json.specs.Data.{Data}
use Rattle.soy_base.specs.declared.code.Code.{Code}
use Rattle.soy_base.specs.declared.code.Code.TheVariants as code
use Rattle.soy_base.specs.declared.direction.Dir.{Dir}
use Rattle.soy_base.specs.declared.path.PathStep.{PathStep}
use Rattle.soy_io.specs.FileOf.{Files}
use Rattle.soy_pieces.specs.Outcome.{Outcome, RunEnd, StopsAt, WholeRun, end_of_outcome}
use Rattle.soy_top.specs.Commands.AcceptedRender.{AcceptedPreview}
use Rattle.soy_top.specs.Answer.{Answer, Done, PageAnswer, Refused, TooDeep, answer, data_answer}
use Rattle.soy_top.specs.Answer.{entry_answer, inputs_answer, preview_answer, run_text, seen_lines}
use Rattle.soy_top.specs.Answer.{seen_page, shown_of, template_outcome}
use Rattle.soy_top.specs.Asked.{Asked, Preview}
use Rattle.soy_top.specs.Commands.IsPreview.{IsPreview, IsRefusedPreview, IsStoppedPreview}
use Rattle.soy_top.specs.Commands.IsPreview.IsRefusedPreview.{NoJson, NoTemplate, NoValues, TooLong}
use Rattle.soy_top.specs.Line.{entry_line, too_long_line}
use Rattle.soy_top.specs.Pointer.{pointer_line}
use Rattle.soy_top.specs.SeenText.{is_too_long}
use Rattle.soy_top.specs.Words.{Word}
use Rattle.soy_top.proofs.AcceptedAlike.{previewed_alike}
use Rattle.soy_top.proofs.Contents.ReadyFiles.{accepted_is, not_large, not_missing, ready_answer}
use Rattle.soy_top.proofs.Previews.SeenAnswers.{seen_long, seen_short}
use Rattle.soy_top.proofs.SpelledWords.{preview_asks}
use Rattle.soy_rules.specs.Templates.{Declared}
use Rattle.soy_tree.specs.Values.{Value}
use Rattle.soy_base.specs.Path.{Path}
use Rattle.soy_types.specs.ReadData.{data_at, json_of, refused, values_at, values_of_json}

-- lines of one refusal are the same
refused_same : (line other : List ℕ) → ◌≡◌ {A = Answer} (Refused line) (Refused other) → other ≡ line
refused_same line other e = cc

module _ (files : Files) (words : List Word) (p : AcceptedPreview files words) where
  abbrev asked : Asked
  asked = Preview p.template p.json_name p.bundle p.names

  abbrev page : Dir → PageAnswer
  page = seen_page p.names p.contents

  abbrev seen : PageAnswer
  seen = page p.of.language.dir

  -- **the answer is that by what the inputs deserve**
  preview_is : answer files words ≡ preview_answer page p.template p.json_name p.json p.of
  preview_is =
      ready_answer files words asked
      (preview_asks words p.template p.json_name p.bundle p.names p.words_are p.files_held.0)
      (not_missing (codes "preview") files words p) (not_large (codes "preview") files words p)
      ∙ (accepted_is (codes "preview") files words p (inputs_answer asked) (preview_answer page p.template p.json_name)
      (λ given. refl)
      ∙ previewed_alike p.names p.contents p.bundle p.template p.json_name p.json p.content p.of p.deserved page)

  -- the answer by a template that there is, and by what its data are read as
  by_template : (o : Option Declared) → shown_of p.of p.template ≡ o
      → answer files words ≡ entry_answer seen p.template p.json_name p.json p.of o
  by_template o is = preview_is ∙ ap (entry_answer seen p.template p.json_name p.json p.of) is

  by_data : (d : Declared) (read : Result Value (Code × List PathStep)) → shown_of p.of p.template ≡ Some d
      → data_at d.template.params p.json ≡ read → answer files words ≡ data_answer seen p.json_name p.of d read
  by_data d read is reads = by_template (Some d) is ∙ ap (data_answer seen p.json_name p.of d) reads

  -- by a page that isn't too long, and its end
  by_end : (d : Declared) (v : Value) (end : RunEnd) → shown_of p.of p.template ≡ Some d
      → data_at d.template.params p.json ≡ Ok v → length (run_text (template_outcome p.of d v)) ≤ 1048576
      → end_of_outcome (template_outcome p.of d v) ≡ end
      → answer files words
      ≡ seen_lines p.names p.contents p.of.language.dir (run_text (template_outcome p.of d v)) end
  by_end d v end is reads few ends =
      let text : List ℕ = run_text (template_outcome p.of d v) in
      by_data d (Ok v) is reads
      ∙ (seen_short p.names p.contents p.of.language.dir text (end_of_outcome (template_outcome p.of d v)) few
      ∙ ap (seen_lines p.names p.contents p.of.language.dir text) ends)

-- **what is shown is the answer**
pub preview_answered : (files : Files) (words : List Word) (text : List ℕ) → IsPreview files words text
    → answer files words ≡ Done text
preview_answered files words text p =
    by_end files words p.preview p.d p.v WholeRun p.shown p.reads p.few p.whole ∙ ap Done (sym p.text_is)

-- **and so is nothing, up to a call**
pub preview_stopped : (files : Files) (words : List Word) (line : List ℕ) → IsStoppedPreview files words line
    → answer files words ≡ TooDeep [] line
preview_stopped files words line p =
    by_end files words p.preview p.d p.v (StopsAt p.site) p.shown p.reads p.few p.stops
    ∙ ap (TooDeep []) (sym p.line_is)

-- **and so are its refusals**
pub refused_preview : (files : Files) (words : List Word) (line : List ℕ) → IsRefusedPreview files words line
    → answer files words ≡ Refused line
refused_preview files words line (NoTemplate p none is) = by_template files words p None none ∙ ap Refused (sym is)
refused_preview files words line (NoJson p d shown none is) =
    by_data files words p d (Err (code.NotJson, [])) shown (ap (values_of_json d.template.params) none)
    ∙ ap Refused (sym is)
refused_preview files words line (NoValues p d json path shown some none is) =
    by_data files words p d (Err (code.DataType, path)) shown
    (ap (values_of_json d.template.params) some ∙ ap refused none) ∙ ap Refused (sym is)
refused_preview files words line (TooLong p d v shown reads many is) =
    let o = template_outcome p.of d v in
    by_data files words p d (Ok v) shown reads
    ∙ (seen_long p.names p.contents p.of.language.dir (run_text o) (end_of_outcome o) many ∙ ap Refused (sym is))

-- ---- a refusal of inputs that are accepted is one of them

lines_not_refused : (names : List Word) (contents : List (List ℕ)) (context : Dir) (text : List ℕ) (end : RunEnd)
    (line : List ℕ) → seen_lines names contents context text end ≡ Refused line → ⊥
lines_not_refused names contents context text WholeRun line e = cc
lines_not_refused names contents context text (StopsAt site) line e = cc

-- a page is refused where it is too long
page_refused : (names : List Word) (contents : List (List ℕ)) (context : Dir) (text : List ℕ) (end : RunEnd)
    (line : List ℕ) (long : Bool) → is_too_long text ≡ long
    → (if long then Refused too_long_line else seen_lines names contents context text end) ≡ Refused line
    → (1048576 < length text) × (line ≡ too_long_line)
page_refused names contents context text end line true is h =
    (ltb-true 1048576 (length text) is, refused_same too_long_line line h)
page_refused names contents context text end line false is h =
    absurd (lines_not_refused names contents context text end line h)

module _ (files : Files) (words : List Word) (p : AcceptedPreview files words) (line : List ℕ) where
  abbrev context : Dir
  context = p.of.language.dir

  abbrev seen_of : PageAnswer
  seen_of = seen_page p.names p.contents context

  values_refused : (d : Declared) (json : Data) (v : Result Value Path) → shown_of p.of p.template ≡ Some d
      → json_of p.json ≡ Some json → values_at d.template.params json ≡ v
      → data_answer seen_of p.json_name p.of d (refused v) ≡ Refused line → IsRefusedPreview files words line
  values_refused d json (Ok v) shown some is h =
      let o : Outcome = template_outcome p.of d v in
      let long = page_refused p.names p.contents context (run_text o) (end_of_outcome o) line
      (is_too_long (run_text o)) refl h in
      TooLong p d v shown (ap (values_of_json d.template.params) some ∙ ap refused is) long.0 long.1
  values_refused d json (Err path) shown some is h =
      NoValues p d json path shown some is (refused_same (pointer_line p.json_name path code.DataType) line h)

  -- a refusal by what the data are read as is that of the data, or of the page
  data_refused : (d : Declared) (o : Option Data) → shown_of p.of p.template ≡ Some d → json_of p.json ≡ o
      → data_answer seen_of p.json_name p.of d (values_of_json d.template.params o) ≡ Refused line
      → IsRefusedPreview files words line
  data_refused d None shown none h =
      NoJson p d shown none (refused_same (pointer_line p.json_name [] code.NotJson) line h)
  data_refused d (Some json) shown some h =
      values_refused d json (values_at d.template.params json) shown some refl h

  entry_refused : (o : Option Declared) → shown_of p.of p.template ≡ o
      → entry_answer seen_of p.template p.json_name p.json p.of o ≡ Refused line → IsRefusedPreview files words line
  entry_refused None shown h = NoTemplate p shown (refused_same (entry_line p.template) line h)
  entry_refused (Some d) shown h = data_refused d (json_of p.json) shown refl h

  -- **a refusal of a preview**
  pub preview_refused : answer files words ≡ Refused line → IsRefusedPreview files words line
  preview_refused h = entry_refused (shown_of p.of p.template) refl (sym (preview_is files words p) ∙ h)
