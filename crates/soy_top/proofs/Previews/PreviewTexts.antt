-- Where the answer to a `preview` is a text, the words and the files are those of a page whose lines are shown; where
-- it ends too deep, they are those of a page that stops at a call, and the text is empty.
use Rattle.std.proofs.Common.{◌≡◌, ◌≤◌, ℕ, Bool, true, false, List, [], Some, ap, length, refl, codes}
use Rattle.std.specs.Prelude.{Ok, if◌then◌else◌}
use Rattle.std.proofs.lemmas.Bool.{ltb-false}
use Rattle.soy_base.specs.declared.direction.Dir.{Dir}
use Rattle.soy_front.specs.FrontAnswer.{Front}
use Rattle.soy_io.specs.FileOf.{Files}
use Rattle.soy_pieces.specs.Outcome.{RunEnd, StopsAt, WholeRun, end_of_outcome}
use Rattle.soy_pieces.specs.Site.{Site}
use Rattle.soy_top.specs.Commands.AcceptedRender.{AcceptedPreview}
use Rattle.soy_top.specs.Answer.{Answer, Done, PageAnswer, Refused, TooDeep, call_fault, inputs_answer, page_answer}
use Rattle.soy_top.specs.Answer.{preview_answer, run_text, seen_lines, seen_page, shown_of, template_outcome}
use Rattle.soy_top.specs.Asked.{Preview}
use Rattle.soy_top.specs.Commands.IsPreview.{IsPreview}
use Rattle.soy_top.specs.Commands.IsStopped.{IsStopped}
use Rattle.soy_top.specs.Commands.IsStopped.IsStopped.{StoppedPreview}
use Rattle.soy_top.specs.Line.{too_long_line}
use Rattle.soy_top.specs.Numbered.{numbered_line}
use Rattle.soy_top.specs.SeenText.{is_too_long, seen_text}
use Rattle.soy_top.specs.Words.{Word}
use Rattle.soy_top.proofs.Contents.HeldContents.{IsByContents, IsNoRefusal, accepted_page, by_inputs, data_given}
use Rattle.soy_top.proofs.Contents.HeldContents.{entry_given}
use Rattle.soy_top.proofs.Contents.HeldContents.{inputs_given, json, sources}
use Rattle.soy_top.proofs.SpelledWords.{IsSpelled}
use Rattle.soy_rules.specs.Templates.{Declared}
use Rattle.soy_tree.specs.Values.{Value}
use Rattle.soy_types.specs.ReadData.{data_at}

module _ (files : Files) (words : List Word) (template json_name bundle : Word) (names : List Word) (a : Answer)
    (fine : IsNoRefusal a) where
  -- what is answered by the page of inputs that are accepted, where it isn't refused
  pub record PreviewGiven : Type 0 where
    pub preview : AcceptedPreview files words
    pub d : Declared
    pub v : Value
    pub shown : shown_of preview.of preview.template ≡ Some d
    pub reads : data_at d.template.params preview.json ≡ Ok v
    pub given : page_answer (seen_page preview.names preview.contents preview.of.language.dir)
        (template_outcome preview.of d v) ≡ a

  preview_given : IsSpelled words (Preview template json_name bundle names)
      → IsByContents files (Preview template json_name bundle names) a → PreviewGiven
  preview_given spelled by =
      let page : Dir → PageAnswer = seen_page names (sources files json_name bundle names a fine) in
      let read : List ℕ = json files json_name bundle names a fine in
      let answer : Front → Answer = preview_answer page template json_name read in
      let g = inputs_given files json_name bundle names a fine answer by.held by.within
      (by_inputs files json_name bundle names a fine (inputs_answer (Preview template json_name bundle names)) by.given)
      in
      let context : Dir = g.of.language.dir in
      let e = entry_given (page context) template json_name read g.of (shown_of g.of template) a fine g.given in
      let v = data_given (page context) json_name g.of e.0 (data_at e.0.template.params read) a fine e.2 in
      record {
        preview = accepted_page files json_name bundle names a fine (codes "preview") template words answer spelled.0
            spelled.1 g;
        d = e.0;
        v = v.0;
        shown = e.1;
        reads = v.1;
        given = v.2;
      }

module _ (names : List Word) (contents : List (List ℕ)) (context : Dir) (given : List ℕ) where
  -- lines that are shown are those of a page that ends whole
  lines_whole : (end : RunEnd) (text : List ℕ) → seen_lines names contents context given end ≡ Done text
      → (end ≡ WholeRun) × (text ≡ seen_text context given)
  lines_whole WholeRun text h = (refl, cc)
  lines_whole (StopsAt site) text h = cc

  -- and of one that isn't too long
  seen_whole : (long : Bool) (end : RunEnd) (text : List ℕ) → is_too_long given ≡ long
      → (if long then Refused too_long_line else seen_lines names contents context given end) ≡ Done text
      → (length given ≤ 1048576) × (end ≡ WholeRun) × (text ≡ seen_text context given)
  seen_whole true end text is h = cc
  seen_whole false end text is h =
      let whole = lines_whole end text h in (ltb-false 1048576 (length given) is, whole.0, whole.1)

  -- nothing is shown up to a call
  lines_stopped : (end : RunEnd) (text line : List ℕ) → seen_lines names contents context given end ≡ TooDeep text line
      → (site : Site) × (end ≡ StopsAt site) × (text ≡ []) × (line ≡ numbered_line names contents (call_fault site))
  lines_stopped WholeRun text line h = cc
  lines_stopped (StopsAt site) text line h = (site, refl, cc, cc)

  seen_stopped : (long : Bool) (end : RunEnd) (text line : List ℕ) → is_too_long given ≡ long
      → (if long then Refused too_long_line else seen_lines names contents context given end) ≡ TooDeep text line
      → (length given ≤ 1048576) × (site : Site) × (end ≡ StopsAt site) × (text ≡ [])
      × (line ≡ numbered_line names contents (call_fault site))
  seen_stopped true end text line is h = cc
  seen_stopped false end text line is h =
      let stopped = lines_stopped end text line h in
      (ltb-false 1048576 (length given) is, stopped.0, stopped.1, stopped.2, stopped.3)

-- **a text is that of the lines of a page**
pub preview_text : (files : Files) (words : List Word) (template json_name bundle : Word) (names : List Word)
    (text : List ℕ) → IsSpelled words (Preview template json_name bundle names)
    → IsByContents files (Preview template json_name bundle names) (Done text) → IsPreview files words text
preview_text files words template json_name bundle names text spelled by =
    let p = preview_given files words template json_name bundle names (Done text) tt spelled by in
    let o = template_outcome p.preview.of p.d p.v in
    let q = seen_whole p.preview.names p.preview.contents p.preview.of.language.dir (run_text o)
    (is_too_long (run_text o)) (end_of_outcome o) text refl p.given in
    record {
      preview = p.preview;
      d = p.d;
      v = p.v;
      shown = p.shown;
      reads = p.reads;
      few = q.0;
      whole = q.1;
      text_is = q.2;
    }

-- **a text that ends too deep is nothing, of a page that stops at a call**
pub preview_stopped : (files : Files) (words : List Word) (template json_name bundle : Word) (names : List Word)
    (text line : List ℕ) → IsSpelled words (Preview template json_name bundle names)
    → IsByContents files (Preview template json_name bundle names) (TooDeep text line)
    → IsStopped files words text line
preview_stopped files words template json_name bundle names text line spelled by =
    let p = preview_given files words template json_name bundle names (TooDeep text line) tt spelled by in
    let o = template_outcome p.preview.of p.d p.v in
    let q = seen_stopped p.preview.names p.preview.contents p.preview.of.language.dir (run_text o)
    (is_too_long (run_text o)) (end_of_outcome o) text line refl p.given in
    StoppedPreview (record {
      preview = p.preview;
      d = p.d;
      v = p.v;
      site = q.1;
      shown = p.shown;
      reads = p.reads;
      few = q.0;
      stops = q.2;
      line_is = q.4;
    }) q.3
