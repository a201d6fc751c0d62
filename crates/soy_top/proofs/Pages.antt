-- What is answered by the page of a program is the answer to a `render` of the files that it was compiled of.
use Rattle.std.proofs.Common.{◌≡◌, ℕ, List, Option, Some, None, refl, sym, subst, ap, ◌∙◌}
use Rattle.std.specs.Prelude.{Result, Ok, Err, encode_utf8_all, option_and_then, slice_get}
use Rattle.std.specs.List.{position}
use Rattle.std.specs.Str.{chars}
use Rattle.msg_extract.specs.LanguageOf.{language_of}
use Rattle.soy_base.specs.declared.code.Code.{Code}
use Rattle.soy_base.specs.declared.path.PathStep.{PathStep}
use Rattle.soy_front.specs.Compiled.{AreCompiled}
use Rattle.soy_front.specs.Entries.{entry_number, is_entry_routine}
use Rattle.soy_front.specs.FilesAnswer.{ReadFiles}
use Rattle.soy_front.specs.FrontAnswer.{Front}
use Rattle.soy_front.specs.ViewSources.{view_contents}
use Rattle.soy_front.specs.declared.compiling.Compiled.{Compiled}
use Rattle.soy_front.proofs.DataFits.{data_fits, params_are}
use Rattle.soy_front.proofs.EntryNumbers.{entry_declared}
use Rattle.soy_pieces.specs.Meaning.{joined_pieces}
use Rattle.soy_pieces.specs.Outcome.{Outcome, RunEnd, StopsAt, WholeRun, end_of_outcome}
use Rattle.soy_pieces.specs.Pieces.{template_run}
use Rattle.soy_top.specs.Accepts.{AcceptsPage, IsNumbered}
use Rattle.soy_top.specs.Answer.{Answer, PageAnswer, Refused, data_answer, ended_page, entry_answer, entry_of}
use Rattle.soy_top.specs.Answer.{page_answer, run_text, shown_of, template_outcome}
use Rattle.soy_top.specs.declared.page.Page.{Page}
use Rattle.soy_top.specs.Line.{entry_line}
use Rattle.soy_top.specs.Runs.Output.{ended_answer, output_answer}
use Rattle.soy_top.specs.Shown.{is_shown_routine, shown_number}
use Rattle.soy_top.specs.Runs.ViewOutput.{page_run, view_end, view_page}
use Rattle.soy_top.specs.Words.{Word, command_words}
use Rattle.soy_top.proofs.Previews.ShownNumbers.{shown_declared, shown_same}
use Rattle.soy_rules.specs.ShortLists.{HasShortLists}
use Rattle.soy_rules.specs.Templates.{Declared, declared}
use Rattle.soy_rules.specs.Typed.{AreTyped, params_at, templates_of}
use Rattle.soy_tree.specs.Values.{Value}
use Rattle.soy_tree.specs.ViewTrees.{view_params, view_trees}
use Rattle.soy_types.specs.ReadData.{data_at}
use Rattle.soy_pieces.specs.LanguageContext.{language_context}
use Rattle.soy_pieces.specs.Outcome.{pieces_end_costs}
use Rattle.template_ir.specs.Run.{run}
use Rattle.soy_pieces.specs.InputEnv.{input_env, names_of}
use Rattle.template_ir.specs.ViewOps.{view_program}

ended_same : (names : List Word) (contents : List (List ℕ)) (text : List ℕ) (end : RunEnd)
    → ended_answer text (view_end names contents end) ≡ ended_page names contents text end
ended_same names contents text WholeRun = refl
ended_same names contents text (StopsAt site) = refl

-- a page is written with its text and its end
pub page_written : (answer : PageAnswer → Answer) (names : List Word) (contents : List (List ℕ)) (page : Page)
    → command_words page.names.now ≡ names → view_contents page.sources.now ≡ contents → AcceptsPage answer (Ok page)
    → answer (ended_page names contents) ≡ output_answer (view_page page)
page_written answer names contents page is_names is_contents h =
    let text = run_text (page_run page) in
    let end = end_of_outcome (page_run page) in
    h (ended_page names contents)
    ∙ (sym (ended_same names contents text end)
    ∙ sym (ap (λ ns. ended_answer text (view_end ns (view_contents page.sources.now) end)) is_names
    ∙ ap (λ cs. ended_answer text (view_end names cs end)) is_contents))

-- by an outcome the same is answered as by another of the same pieces and the same end
page_same : (page : PageAnswer) (o p : Outcome) → pieces_end_costs o ≡ pieces_end_costs p
    → page_answer page o ≡ page_answer page p
page_same page o p same =
    ap (λ ps. page (encode_utf8_all (joined_pieces ps)) (end_of_outcome o)) (ap (λ t. t.0) same)
    ∙ ap (λ e. page (run_text p) e) (ap (λ t. t.1) same)

-- the template of a number that is there
is_numbered : (ds : List Declared) (o : Option ℕ)
    → ((number : ℕ) → o ≡ Some number → (d : Declared) × (slice_get ds number ≡ Some d))
    → IsNumbered ds o (option_and_then (slice_get ds) o)
is_numbered ds None there = tt
is_numbered ds (Some number) there =
    let found = there number refl in subst (λ x. IsNumbered ds (Some number) x) (sym found.1) found.1

module _ (ds : List Declared) (of : Front) (template json_name : Word) (json : List ℕ) where
  -- where there is a number, the answer by its template is that by the data
  found_by : (P : (PageAnswer → Answer) → Type 0) (number : ℕ) (o : Option Declared) → IsNumbered ds (Some number) o
      → ((d : Declared) → slice_get ds number ≡ Some d
      → P (λ page. data_answer page json_name of d (data_at d.template.params json)))
      → P (λ page. entry_answer page template json_name json of o)
  found_by P number None numbered h = absurd numbered
  found_by P number (Some d) numbered h = h d numbered

  pub numbered_found : (P : (PageAnswer → Answer) → Type 0) (entry : Option ℕ) (number : ℕ) (o : Option Declared)
      → entry ≡ Some number → IsNumbered ds entry o
      → ((d : Declared) → slice_get ds number ≡ Some d
      → P (λ page. data_answer page json_name of d (data_at d.template.params json)))
      → P (λ page. entry_answer page template json_name json of o)
  numbered_found P entry number o is numbered h =
      found_by P number o (subst (λ e. IsNumbered ds e o) is numbered) h

  -- where there is none, that is the answer
  missing_by : (page : PageAnswer) (o : Option Declared) → IsNumbered ds None o
      → entry_answer page template json_name json of o ≡ Refused (entry_line template)
  missing_by page None numbered = refl
  missing_by page (Some d) numbered = absurd numbered

  pub numbered_missing : (page : PageAnswer) (entry : Option ℕ) (o : Option Declared) → entry ≡ None
      → IsNumbered ds entry o → entry_answer page template json_name json of o ≡ Refused (entry_line template)
  numbered_missing page entry o is numbered = missing_by page o (subst (λ e. IsNumbered ds e o) is numbered)

module _ (contents : List (List ℕ)) (content : Option (List ℕ)) (c : Compiled)
    (are : AreCompiled contents content c) where
  pub same_templates : declared (view_trees are.of.files.trees) ≡ declared (view_trees c.typed)
  same_templates = ap (λ (f : ReadFiles). declared (view_trees f.trees)) are.files

  -- the template of a number that is found in the trees, and so is there
  found_numbered : (find : List Declared → Option ℕ)
      → ((ds : List Declared) (number : ℕ) → find ds ≡ Some number → (d : Declared) × (slice_get ds number ≡ Some d))
      → (o : Option ℕ) → o ≡ find (declared (view_trees c.typed))
      → IsNumbered (declared (view_trees c.typed)) o
      (option_and_then (slice_get (declared (view_trees are.of.files.trees)))
      (find (declared (view_trees are.of.files.trees))))
  found_numbered find there o is =
      let ds : List Declared = declared (view_trees c.typed) in
      let same = ap (λ xs. option_and_then (slice_get xs) (find xs)) same_templates
      ∙ ap (option_and_then (slice_get ds)) (sym is) in
      subst (λ x. IsNumbered ds o x) (sym same)
      (is_numbered ds o (λ number found. there ds number (sym is ∙ found)))

  -- the template that may be rendered under a name is that of the number
  pub entry_numbered : (template : Word) (o : Option ℕ)
      → o ≡ position (is_entry_routine (chars template)) c.program.templates
      → IsNumbered (declared (view_trees c.typed)) o (entry_of are.of template)
  entry_numbered template o is =
      found_numbered (entry_number (chars template)) (entry_declared (chars template)) o
      (is ∙ are.entries (chars template))

  -- so is the one that may be previewed
  pub shown_numbered : (template : Word) (o : Option ℕ)
      → o ≡ position (is_shown_routine (chars template)) c.program.templates
      → IsNumbered (declared (view_trees c.typed)) o (shown_of are.of template)
  shown_numbered template o is =
      found_numbered (shown_number (chars template)) (shown_declared (chars template)) o
      (is ∙ shown_same (language_of are.of.language) (declared (view_trees c.typed)) are.places
      (view_program c.program).ops (chars template) c.program.templates are.compiles.templates)

  module _ (json_name : Word) (json : List ℕ) (number : ℕ) (d : Declared)
      (found : slice_get (declared (view_trees c.typed)) number ≡ Some d) where
    pub read_at : (r : Result Value (Code × List PathStep))
        → data_at (view_params (params_at number (templates_of c.typed))) json ≡ r → data_at d.template.params json ≡ r
    read_at r is = subst (λ ps. data_at ps json ≡ r) (params_are c.typed number d found) is

    -- by values that were read it is that by the page
    pub page_answered : AreTyped c.typed → (v : Value)
        → data_at (view_params (params_at number (templates_of c.typed))) json ≡ Ok v → HasShortLists v
        → (page : PageAnswer) → data_answer page json_name are.of d (data_at d.template.params json)
        ≡ page_answer page (run (view_program c.program) number v)
    page_answered typed v is short page =
        let gives = are.gives number d found v (data_fits c.typed number d json v typed found is short) in
        let as_trees = ap (λ ds. pieces_end_costs (template_run (language_context (language_of are.of.language) ds) d
        (input_env (names_of d.template.params) v))) (sym same_templates) in
        ap (data_answer page json_name are.of d) (read_at (Ok v) is)
        ∙ sym (page_same page (run (view_program c.program) number v) (template_outcome are.of d v) (gives ∙ as_trees))

    -- by data that are refused it is their fault
    pub fault_answered : (fault : Code × List PathStep)
        → data_at (view_params (params_at number (templates_of c.typed))) json ≡ Err fault
        → (page : PageAnswer) → data_answer page json_name are.of d (data_at d.template.params json)
        ≡ data_answer page json_name are.of d (Err fault)
    fault_answered fault is page = ap (data_answer page json_name are.of d) (read_at (Err fault) is)
