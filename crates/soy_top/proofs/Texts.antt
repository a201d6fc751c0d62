-- Where the answer is a text, the words and the files are those of a page, of a catalogue, of files that are accepted,
-- of a script, of a canonical source or of a `preview`, or the words are those of a workload. Where it is a text that
-- ends too deep, they are those of a page that stops at a call, or of a `preview` of one.
use Rattle.std.proofs.Common.{◌≡◌, ℕ, cond, List, [], ◌++◌, length}
use Rattle.std.proofs.Common.{map, Option, Some, None, refl, sym, ap, ◌∙◌, codes}
use Rattle.std.specs.Prelude.{unwrap_or, Result, Ok, Err}
use Rattle.std.specs.Option.{option_map_or}
use Rattle.std.specs.Str.{is_utf8}
use Rattle.soy_base.specs.declared.fault.Fault.{Fault}
use Rattle.msg_extract.specs.declared.catalogue.Listed.{Listed}
use Rattle.soy_front.specs.Accepted.{Accepted, AreFiles}
use Rattle.soy_front.specs.FilesAnswer.{ReadFiles, files_answer}
use Rattle.soy_front.specs.FrontAnswer.{DeserveFront, Front, front_answer}
use Rattle.soy_front.proofs.FilesLaws.{read_as}
use Rattle.soy_front.proofs.FrontAnswers.{answered_accepted, answered_deserved}
use Rattle.soy_front.specs.Sources.{source_answer}
use Rattle.soy_io.specs.FileOf.{Files, file_of}
use Rattle.soy_pieces.specs.Outcome.{RunEnd, StopsAt, WholeRun, end_of_outcome}
use Rattle.soy_pieces.specs.Site.{Site}
use Rattle.soy_rules.specs.Templates.{Declared}
use Rattle.soy_tree.specs.Values.{Value}
use Rattle.soy_tree.specs.declared.tree.Tree.{Tree}
use Rattle.soy_types.specs.ReadData.{data_at}
use Rattle.soy_top.specs.Commands.AcceptedRender.{AcceptedRender}
use Rattle.soy_top.specs.Answer.{Answer, Usage, Done, TooDeep, ended_page}
use Rattle.soy_top.specs.Answer.{call_fault, canonical_source, entry_of}
use Rattle.soy_top.specs.Answer.{PageAnswer, page_answer, render_answer, run_text, template_outcome}
use Rattle.soy_top.specs.Answer.{asked_answer, answer}
use Rattle.soy_top.specs.Answer.{accepted_text, accepted_then, catalogue_answer, catalogue_text, read_then}
use Rattle.soy_top.specs.Answer.{bundled_answer, inputs_answer, summed_page, tree_answer, unless_faulty}
use Rattle.soy_top.specs.Answer.{steps_of, utf8_fault, workload_answer}
use Rattle.soy_top.specs.Asked.{Asked, Render, Check, Extract, Gen, Play, Preview, Format, asked_by_words}
use Rattle.soy_top.specs.FilesWanted.{source_file, bundle_files, asked_files}
use Rattle.soy_top.specs.FilesWanted.{content, contents, is_source_language}
use Rattle.soy_top.specs.Generated.{workload_entry, workload_files, workload_json, workload_names}
use Rattle.soy_top.specs.Inputs.{bundle_content, but_last, last, second_number}
use Rattle.soy_top.specs.Commands.IsCatalogue.{IsCatalogue}
use Rattle.soy_top.specs.Commands.HoldsInputs.{HoldsBundle}
use Rattle.soy_top.specs.Commands.IsChecked.{IsChecked}
use Rattle.soy_top.specs.Commands.IsFormatted.{IsFormatted}
use Rattle.soy_top.specs.Commands.IsGenerated.{IsSummary}
use Rattle.soy_top.specs.Commands.IsPage.{IsPage, IsStoppedPage}
use Rattle.soy_top.specs.Commands.IsText.{IsText}
use Rattle.soy_top.specs.Commands.IsStopped.{IsStopped}
use Rattle.soy_top.specs.Commands.IsStopped.IsStopped.{StoppedPage}
use Rattle.soy_top.specs.Commands.IsText.IsText.{Page, Checked, Catalogue, Generated, Formatted, Played, Previewed}
use Rattle.soy_top.specs.Line.{fault_line}
use Rattle.soy_top.specs.MadeBundle.{bundle_text}
use Rattle.soy_top.specs.Numbered.{numbered_line}
use Rattle.soy_top.specs.Summary.{summary}
use Rattle.soy_top.specs.Words.{Word}
use Rattle.soy_top.proofs.CanonicalTexts.{tree_deserved}
use Rattle.soy_top.proofs.Contents.HeldContents.{IsByContents, IsNoRefusal, accepted_page, all_held, before_named}
use Rattle.soy_top.proofs.Contents.HeldContents.{bundle_held}
use Rattle.soy_top.proofs.Contents.HeldContents.{by_contents, by_inputs, content_held, data_given, entry_given}
use Rattle.soy_top.proofs.Contents.HeldContents.{first_content}
use Rattle.soy_top.proofs.Contents.HeldContents.{held_before, inputs_given, json, last_named, not_refused, sources}
use Rattle.soy_top.proofs.Contents.HeldContents.{then_given}
use Rattle.soy_top.proofs.Contents.HeldContents.{done_same, within_before}
use Rattle.soy_top.proofs.Plays.PlayTexts.{play_given, play_text, script_not_deep}
use Rattle.soy_top.proofs.Previews.PreviewTexts.{preview_stopped, preview_text}
use Rattle.soy_top.proofs.SpelledWords.{IsSpelled, spelled-asked}
use Rattle.work_gen.specs.Workload.{workload}
use Rattle.work_gen.specs.declared.workload.Workload.{Workload}

-- ---- pages

module _ (files : Files) (words : List Word) (template json_name bundle : Word) (names : List Word) (a : Answer)
    (fine : IsNoRefusal a) where
  -- what is answered by the page of inputs that are accepted, where it isn't refused
  pub record PageGiven : Type 0 where
    pub render : AcceptedRender files words
    pub d : Declared
    pub v : Value
    pub entry : entry_of render.of render.template ≡ Some d
    pub reads : data_at d.template.params render.json ≡ Ok v
    pub given : page_answer (ended_page render.names render.contents) (template_outcome render.of d v) ≡ a

  page_given : IsSpelled words (Render template json_name bundle names)
      → IsByContents files (Render template json_name bundle names) a → PageGiven
  page_given spelled by =
      let page : PageAnswer = ended_page names (sources files json_name bundle names a fine) in
      let read : List ℕ = json files json_name bundle names a fine in
      let answer : Front → Answer = render_answer page template json_name read in
      let g = inputs_given files json_name bundle names a fine answer by.held by.within
      (by_inputs files json_name bundle names a fine (inputs_answer (Render template json_name bundle names)) by.given)
      in
      let e = entry_given page template json_name read g.of (entry_of g.of template) a fine g.given in
      let v = data_given page json_name g.of e.0 (data_at e.0.template.params read) a fine e.2 in
      record {
        render = accepted_page files json_name bundle names a fine (codes "render") template words answer spelled.0
            spelled.1 g;
        d = e.0;
        v = v.0;
        entry = e.1;
        reads = v.1;
        given = v.2;
      }

-- a text by what a template gives is its text, and it ends whole
page_text : (names : List Word) (contents : List (List ℕ)) (given : List ℕ) (end : RunEnd) (text : List ℕ)
    → ended_page names contents given end ≡ Done text → (end ≡ WholeRun) × (text ≡ given)
page_text names contents given WholeRun text h = (refl, cc)
page_text names contents given (StopsAt site) text h = cc

-- a text that ends too deep is that up to a call
stopped_text : (names : List Word) (contents : List (List ℕ)) (given : List ℕ) (end : RunEnd) (text line : List ℕ)
    → ended_page names contents given end ≡ TooDeep text line
    → (site : Site) × (end ≡ StopsAt site) × (text ≡ given) × (line ≡ numbered_line names contents (call_fault site))
stopped_text names contents given WholeRun text line h = cc
stopped_text names contents given (StopsAt site) text line h = (site, refl, cc, cc)

-- a text that ends whole is a page, and one that ends too deep a page up to a call
page_is : (files : Files) (words : List Word) (template json_name bundle : Word) (names : List Word) (text : List ℕ)
    → PageGiven files words template json_name bundle names (Done text) tt → IsPage files words text
page_is files words template json_name bundle names text p =
    let o = template_outcome p.render.of p.d p.v in
    let q = page_text p.render.names p.render.contents (run_text o) (end_of_outcome o) text p.given in
    record {
      render = p.render;
      d = p.d;
      v = p.v;
      entry = p.entry;
      reads = p.reads;
      whole = q.0;
      text_is = q.1;
    }

stopped_is : (files : Files) (words : List Word) (template json_name bundle : Word) (names : List Word)
    (text line : List ℕ) → PageGiven files words template json_name bundle names (TooDeep text line) tt
    → IsStoppedPage files words text line
stopped_is files words template json_name bundle names text line p =
    let o = template_outcome p.render.of p.d p.v in
    let q = stopped_text p.render.names p.render.contents (run_text o) (end_of_outcome o) text line p.given in
    record {
      render = p.render;
      d = p.d;
      v = p.v;
      site = q.0;
      entry = p.entry;
      reads = p.reads;
      stops = q.1;
      text_is = q.2;
      line_is = q.3;
    }

-- the answer to a `check` of files that are accepted
module _ (files : Files) (words : List Word) (bundle : Word) (names : List Word) (a : Answer) (fine : IsNoRefusal a)
  where
    abbrev checked_bytes : Option (List ℕ)
    checked_bytes = cond (is_source_language bundle) None (Some (unwrap_or (file_of files bundle) []))

    pub record CheckGiven : Type 0 where
      pub bundle_held : HoldsBundle files bundle checked_bytes
      pub files_held : map (file_of files) names ≡ map Some (contents files (map source_file names))
      pub accepted : Accepted (contents files (map source_file names)) checked_bytes
      pub given : Done accepted_text ≡ a

    check_given : IsByContents files (Check bundle names) a → CheckGiven
    check_given by =
        let here = held_before files (bundle_files bundle) (map source_file names) by.held in
        let limits = within_before files (bundle_files bundle) (map source_file names) by.within in
        let first = before_named files (bundle_files bundle) names in
        let rest = last_named files (bundle_files bundle) names in
        let t = then_given names _ bundle (λ of. Done accepted_text) _ a fine by.given in
        let bytes = ap (bundle_content bundle 0) first
        ∙ first_content files bundle (is_source_language bundle) refl in
        let answered = ap (λ c. front_answer (contents files (map source_file names)) c) (sym bytes)
        ∙ (ap (λ cs. front_answer cs (bundle_content bundle 0 (but_last (length names)
        (contents files (bundle_files bundle ++ map source_file names))))) (sym rest) ∙ t.1) in
        record {
          bundle_held = bundle_held files bundle (is_source_language bundle) refl here.0 limits;
          files_held = all_held files names here.1;
          accepted = answered_accepted _ _ t.0 answered;
          given = t.2;
        }

-- so a text says that they are accepted
check_text : (files : Files) (words : List Word) (bundle : Word) (names : List Word) (text : List ℕ)
    → IsSpelled words (Check bundle names) → IsByContents files (Check bundle names) (Done text)
    → IsChecked files words text
check_text files words bundle names text spelled by =
    let c = check_given files words bundle names (Done text) tt by in
    record {
      bundle = bundle;
      names = names;
      content = checked_bytes files words bundle names (Done text) tt;
      contents = contents files (map source_file names);
      words_are = spelled.0;
      bundle_held = c.bundle_held;
      files_held = (spelled.1, c.files_held);
      accepted = c.accepted;
      text_is = done_same accepted_text text c.given;
    }

-- ---- catalogues

-- an answer by what files are read as
read_of : (names : List Word) (contents : List (List ℕ)) (answer : ReadFiles → Answer) (r : Result ReadFiles Fault)
    (a : Answer) → IsNoRefusal a → unless_faulty names contents answer r ≡ a
    → (read : ReadFiles) × (r ≡ Ok read) × (answer read ≡ a)
read_of names contents answer (Ok read) a fine h = (read, refl, h)
read_of names contents answer (Err fault) a fine h =
    absurd (not_refused (numbered_line names contents fault) a fine h)

module _ (files : Files) (names : List Word) (a : Answer) (fine : IsNoRefusal a) where
  extract_given : IsByContents files (Extract names) a
      → (read : ReadFiles) × (files_answer (contents files (map source_file names)) ≡ Ok read)
      × (catalogue_answer read ≡ a)
  extract_given by =
      let sources : List (List ℕ) = contents files (map source_file names) in
      read_of names sources catalogue_answer (files_answer sources) a fine
      (ap (λ cs. read_then names cs catalogue_answer) (sym (last_named files [] names)) ∙ by.given)

extract_text : (files : Files) (words : List Word) (names : List Word) (text : List ℕ)
    → IsSpelled words (Extract names) → IsByContents files (Extract names) (Done text) → IsCatalogue files words text
extract_text files words names text spelled by =
    let sources : List (List ℕ) = contents files (map source_file names) in
    let had = extract_given files names (Done text) tt by in
    record {
      names = names;
      contents = sources;
      trees = had.0.trees;
      rows = had.0.rows;
      words_are = spelled.0;
      files_held = (spelled.1, all_held files names by.held);
      are_files = read_as sources had.0 had.1;
      text_is = done_same (catalogue_text had.0.rows) text had.2;
    }

-- ---- workloads

-- what is answered by the page of a workload is the answer that it gives
module _ (w : Workload) (a : Answer) (fine : IsNoRefusal a) where
  pub record WorkloadGiven : Type 0 where
    pub trees : List Tree
    pub rows : List Listed
    pub of : Front
    pub d : Declared
    pub v : Value
    pub are_files : AreFiles (workload_files w) trees rows
    pub accepted : Accepted (workload_files w) (Some (bundle_text rows))
    pub deserved : DeserveFront (workload_files w) (Some (bundle_text rows)) of
    pub entry : entry_of of (workload_entry w) ≡ Some d
    pub reads : data_at d.template.params (workload_json w) ≡ Ok v
    pub given : Done (summary (run_text (template_outcome of d v))) ≡ a

  workload_given : workload_answer w ≡ a → WorkloadGiven
  workload_given h =
      let sources : List (List ℕ) = workload_files w in
      let had = read_of workload_names sources (bundled_answer w workload_names sources) (files_answer sources) a fine
      h in
      let bundle : List ℕ = bundle_text had.0.rows in
      let t = then_given workload_names sources (codes "gen.bundle")
      (render_answer summed_page (workload_entry w) (codes "gen.json") (workload_json w))
      (front_answer sources (Some bundle)) a fine had.2 in
      let e = entry_given summed_page (workload_entry w) (codes "gen.json") (workload_json w) t.0
      (entry_of t.0 (workload_entry w)) a fine t.2 in
      let v = data_given summed_page (codes "gen.json") t.0 e.0 (data_at e.0.template.params (workload_json w)) a fine
      e.2 in
      record {
        trees = had.0.trees;
        rows = had.0.rows;
        of = t.0;
        d = e.0;
        v = v.0;
        are_files = read_as sources had.0 had.1;
        accepted = answered_accepted sources (Some bundle) t.0 t.1;
        deserved = answered_deserved sources (Some bundle) t.0 t.1;
        entry = e.1;
        reads = v.1;
        given = v.2;
      }

-- a text that a workload has is its summary
summary_text : (w : Workload) (text : List ℕ) → workload_answer w ≡ Done text → IsSummary w text
summary_text w text h =
    let g = workload_given w (Done text) tt h in
    record {
      trees = g.trees;
      rows = g.rows;
      of = g.of;
      d = g.d;
      v = g.v;
      are_files = g.are_files;
      accepted = g.accepted;
      deserved = g.deserved;
      entry = g.entry;
      reads = g.reads;
      text_is = done_same (summary (run_text (template_outcome g.of g.d g.v))) text g.given;
    }

-- ---- canonical sources

-- an answer by what a file is read as is one of a tree that it has
tree_given : (name : Word) (bytes : List ℕ) (read : Result Tree Fault) (a : Answer) → IsNoRefusal a
    → tree_answer name bytes read ≡ a → (tree : Tree) × (read ≡ Ok tree) × (Done (canonical_source tree) ≡ a)
tree_given name bytes (Ok tree) a fine h = (tree, refl, h)
tree_given name bytes (Err fault) a fine h = absurd (not_refused (fault_line name bytes fault) a fine h)

format_given : (files : Files) (name : Word) (a : Answer) → IsNoRefusal a → IsByContents files (Format name) a
    → (tree : Tree) × (source_answer (content files (source_file name)) ≡ Ok tree)
    × (Done (canonical_source tree) ≡ a)
format_given files name a fine by =
    let source : List ℕ = content files (source_file name) in
    tree_given name source (source_answer source) a fine by.given

format_text : (files : Files) (words : List Word) (name : Word) (text : List ℕ) → IsSpelled words (Format name)
    → IsByContents files (Format name) (Done text) → IsFormatted files words text
format_text files words name text spelled by =
    let source : List ℕ = content files (source_file name) in
    let had = format_given files name (Done text) tt by in
    record {
      name = name;
      bytes = source;
      tree = had.0;
      words_are = spelled;
      file_held = (content_held (file_of files name) None name by.held).0;
      deserves = tree_deserved source had.0 had.1;
      text_is = done_same (canonical_source had.0) text had.2;
    }

-- ---- all commands

-- a text, by what the words ask for
asked_text : (files : Files) (words : List Word) (asked : Asked) (text : List ℕ) → IsSpelled words asked
    → IsByContents files asked (Done text) → IsText files words text
asked_text files words (Render template json_name bundle names) text is by =
    Page (page_is files words template json_name bundle names text
    (page_given files words template json_name bundle names (Done text) tt is by))
asked_text files words (Check bundle names) text is by = Checked (check_text files words bundle names text is by)
asked_text files words (Extract names) text is by = Catalogue (extract_text files words names text is by)
asked_text files words (Gen number) text is by =
    Generated (record { number = number; words_are = is; is_summary = summary_text (workload number) text by.given })
asked_text files words (Play script first second names) text is by =
    Played (play_text files words script first second names text
    (play_given files words script first second names (Done text) tt is by))
asked_text files words (Preview template json_name bundle names) text is by =
    Previewed (preview_text files words template json_name bundle names text is by)
asked_text files words (Format name) text is by = Formatted (format_text files words name text is by)

done_deep : (text other line : List ℕ) → ◌≡◌ {A = Answer} (Done text) (TooDeep other line) → ⊥
done_deep text other line e = cc

-- a text that ends too deep, by what the words ask for
asked_stopped : (files : Files) (words : List Word) (asked : Asked) (text line : List ℕ) → IsSpelled words asked
    → IsByContents files asked (TooDeep text line) → IsStopped files words text line
asked_stopped files words (Render template json_name bundle names) text line is by =
    StoppedPage (stopped_is files words template json_name bundle names text line
    (page_given files words template json_name bundle names (TooDeep text line) tt is by))
asked_stopped files words (Check bundle names) text line is by =
    absurd (done_deep accepted_text text line (check_given files words bundle names (TooDeep text line) tt by).given)
asked_stopped files words (Extract names) text line is by =
    let had = extract_given files names (TooDeep text line) tt by in
    absurd (done_deep (catalogue_text had.0.rows) text line had.2)
asked_stopped files words (Gen number) text line is by =
    let g = workload_given (workload number) (TooDeep text line) tt by.given in
    absurd (done_deep (summary (run_text (template_outcome g.of g.d g.v))) text line g.given)
asked_stopped files words (Play script first second names) text line is by =
    let p = play_given files words script first second names (TooDeep text line) tt is by in
    let bytes : List ℕ = p.play.bytes in
    absurd (script_not_deep p.play.script (steps_of p.play.of p.play.other bytes)
    (fault_line p.play.script bytes (utf8_fault bytes)) text line (is_utf8 bytes) p.given)
asked_stopped files words (Preview template json_name bundle names) text line is by =
    preview_stopped files words template json_name bundle names text line is by
asked_stopped files words (Format name) text line is by =
    let had = format_given files name (TooDeep text line) tt by in
    absurd (done_deep (canonical_source had.0) text line had.2)

answered_text : (files : Files) (words : List Word) (asked : Option Asked) (text : List ℕ)
    → asked_by_words words ≡ asked → option_map_or (asked_answer files) asked Usage ≡ Done text
    → IsText files words text
answered_text files words None text is h = cc
answered_text files words (Some asked) text is h =
    asked_text files words asked text (spelled-asked words asked is) (by_contents files asked (Done text) tt h)

-- **a text that is the answer is a page, a catalogue, that files are accepted, the summary of a workload, the lines of
-- a script, a canonical source, or the lines of a page as they are seen**
pub text-answered : (files : Files) (words : List Word) (text : List ℕ) → answer files words ≡ Done text
    → IsText files words text
text-answered files words text h = answered_text files words (asked_by_words words) text refl h

answered_stopped : (files : Files) (words : List Word) (asked : Option Asked) (text line : List ℕ)
    → asked_by_words words ≡ asked → option_map_or (asked_answer files) asked Usage ≡ TooDeep text line
    → IsStopped files words text line
answered_stopped files words None text line is h = cc
answered_stopped files words (Some asked) text line is h =
    asked_stopped files words asked text line (spelled-asked words asked is)
    (by_contents files asked (TooDeep text line) tt h)

-- **a text that ends too deep is a page up to a call, or nothing of a `preview`**
pub stopped-answered : (files : Files) (words : List Word) (text line : List ℕ)
    → answer files words ≡ TooDeep text line → IsStopped files words text line
stopped-answered files words text line h = answered_stopped files words (asked_by_words words) text line refl h
