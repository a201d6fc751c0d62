-- A page that is opened is that of the template and the data, or it is refused as the reply says.
use Rattle.std.proofs.Common.{◌≡◌, ℕ, List, [], ◌∷◌, ◌++◌, Option, Some, None, refl, sym, subst, ap, ◌∙◌}
use Rattle.std.specs.Prelude.{Result, Ok, Err, codes, encode_utf8_all, slice_get}
use Rattle.std.specs.List.{position}
use Rattle.std.specs.Str.{chars}
use Rattle.msg_extract.specs.LanguageOf.{language_of}
use Rattle.soy_base.specs.declared.code.Code.{Code}
use Rattle.soy_base.specs.declared.code.Code.TheVariants as code
use Rattle.soy_base.specs.declared.memory.Refusal.TheVariants as refusal
use Rattle.soy_base.specs.declared.path.PathStep.{PathStep}
use Rattle.soy_front.specs.Compiled.{AreCompiled}
use Rattle.soy_front.specs.Entries.{is_entry_routine}
use Rattle.soy_front.specs.FrontAnswer.{DeserveFront}
use Rattle.soy_front.proofs.DataFits.{having_fit, read_have}
use Rattle.soy_front.proofs.FrontAnswers.{answered_deserved}
use Rattle.soy_page.specs.Begun.{HasBegun}
use Rattle.soy_page.specs.Opens.{OpenedAt, OpensPage}
use Rattle.soy_page.specs.declared.fault.PageFault.TheVariants as fault
use Rattle.soy_page.specs.PageRest.{bytes_left, end_left, page_rest}
use Rattle.soy_page.specs.PageState.{PageState}
use Rattle.soy_page.specs.declared.templates.Templates.{Templates}
use Rattle.soy_pieces.specs.InputEnv.{input_env, names_of}
use Rattle.soy_pieces.specs.LanguageContext.{language_context}
use Rattle.soy_pieces.specs.Meaning.{joined_pieces}
use Rattle.soy_pieces.specs.Outcome.{Outcome, end_of_outcome, pieces_end_costs}
use Rattle.soy_pieces.specs.Pieces.{template_run}
use Rattle.soy_meaning.specs.Runs.TypedData.{FitsData}
use Rattle.soy_rules.specs.ShortLists.{HasShortLists}
use Rattle.soy_rules.specs.Templates.{Declared, declared}
use Rattle.soy_rules.specs.Typed.{params_at, templates_of}
use Rattle.soy_top.specs.Answer.{entry_of, run_text, template_outcome}
use Rattle.soy_top.specs.Line.{entry_line}
use Rattle.soy_top.specs.Pointer.{pointer, pointer_line}
use Rattle.soy_top.specs.Rendered.{rendered_data, rendered_entry}
use Rattle.soy_top.specs.Accepts.{IsNumbered}
use Rattle.soy_top.proofs.Pages.{entry_numbered, read_at, same_templates}
use Rattle.soy_top.proofs.Pulling.{end_solid, text_solid}
use Rattle.soy_tree.specs.Values.{Value}
use Rattle.soy_tree.specs.ViewTrees.{view_params, view_trees}
use Rattle.soy_tree.specs.ViewValues.{view_value}
use Rattle.soy_types.specs.ReadData.{data_at}
use Rattle.soy_types.specs.declared.fault.DataFault.{DataFault}
use Rattle.soyc_c.specs.TemplateFiles.{file_contents, file_names}
use Rattle.render_core.specs.Rest.{Rest, rest_bytes, rest_end, solid}
use Rattle.template_ir.specs.Run.{run}
use Rattle.template_ir.specs.ViewOps.{view_program}
use Rattle.soyc_c.specs.Compiling.{refused}
use Rattle.soyc_c.specs.FaultNumbers.{numbers_elsewhere}
use Rattle.soyc_c.specs.FaultParts.{Absent, Has}
use Rattle.soyc_c.specs.SlotReply.{bare}
use Rattle.soyc_c.specs.Opening.{IsOpened, data_reply, entry_page, entry_reply}

same_fst : (o p : Outcome) → pieces_end_costs o ≡ pieces_end_costs p → run_text o ≡ run_text p
same_fst o p same = ap (λ t. encode_utf8_all (joined_pieces t.0)) same

same_end : (o p : Outcome) → pieces_end_costs o ≡ pieces_end_costs p → end_of_outcome o ≡ end_of_outcome p
same_end o p same = ap (λ t. t.1) same

module _ (t : Templates) (contents : List (List ℕ)) (content : Option (List ℕ))
    (are : AreCompiled contents content t.compiled) (name json : List ℕ) where
  abbrev ds : List Declared
  ds = declared (view_trees t.compiled.typed)

  -- the template of a number is that of the name
  numbered_entry : (number : ℕ) (o : Option Declared) → IsNumbered ds (Some number) o
      → (d : Declared) × (o ≡ Some d) × (slice_get ds number ≡ Some d)
  numbered_entry number None h = absurd h
  numbered_entry number (Some d) h = (d, refl, h)

  abbrev named : ℕ → Type 0
  named number = position (is_entry_routine (chars name)) t.compiled.program.templates ≡ Some number

  found : (number : ℕ) → named number
      → (d : Declared) × (entry_of are.of name ≡ Some d) × (slice_get ds number ≡ Some d)
  found number is =
      numbered_entry number (entry_of are.of name)
      (entry_numbered contents content t.compiled are name (Some number) (sym is))

  unnumbered : (o : Option Declared) → IsNumbered ds None o → o ≡ None
  unnumbered None h = refl
  unnumbered (Some d) h = absurd h

  -- what is given by the number is given by the template
  module _ (number : ℕ) (d : Declared) (there : slice_get ds number ≡ Some d) (v : Value)
      (reads : data_at d.template.params json ≡ Ok v) (short : HasShortLists v) where
    deserved : DeserveFront contents content are.of
    deserved = answered_deserved contents content are.of are.answered

    there_too : slice_get (declared (view_trees are.of.files.trees)) number ≡ Some d
    there_too = ap (λ xs. slice_get xs number) (same_templates contents content t.compiled are) ∙ there

    fits : FitsData d (input_env (names_of d.template.params) v)
    fits =
        having_fit d v
        (read_have (view_trees are.of.files.trees) number d json v deserved.files.demands there_too reads) short

    same_run : pieces_end_costs (run (view_program t.compiled.program) number v)
        ≡ pieces_end_costs (template_outcome are.of d v)
    same_run =
        are.gives number d there v fits
        ∙ ap (λ xs. pieces_end_costs (template_run (language_context (language_of are.of.language) xs) d
        (input_env (names_of d.template.params) v))) (sym (same_templates contents content t.compiled are))

  -- **a page that is opened**
  opened_page : (number : ℕ) → named number → (page : PageState) → OpenedAt t number json page
      → IsOpened t (entry_page t are.of name json) page
  opened_page number is page at =
      let it = found number is in
      let d = it.0 in
      let v = view_value at.input in
      let reads : data_at d.template.params json ≡ Ok v =
      read_at contents content t.compiled are name json number d it.2 (Ok v) at.reads in
      let same = same_run number d it.2 v reads at.short in
      let o = run (view_program t.compiled.program) number v in
      let names = file_names t in
      let files = file_contents t in
      record {
        shares = at.begun.templates_are;
        of = record { names = names; contents = files; accepted = are.of; entry = d; input = v };
        is_asked = ap (rendered_entry names files json are.of) it.1 ∙ ap (rendered_data names files are.of d) reads;
        bytes = ap rest_bytes at.begun.rest ∙ (text_solid o ∙ same_fst o (template_outcome are.of d v) same);
        end = ap rest_end at.begun.rest ∙ (end_solid o ∙ same_end o (template_outcome are.of d v) same);
      }

  -- data that are refused
  refused_data : (number : ℕ) → named number → (f : Code × List PathStep)
      → data_at (view_params (params_at number (templates_of t.compiled.typed))) json ≡ Err f
      → entry_reply name json (entry_of are.of name) ≡ data_reply (Err f)
  refused_data number is f reads =
      let it = found number is in
      ap (entry_reply name json) it.1
      ∙ ap data_reply (read_at contents content t.compiled are name json number it.0 it.2 (Err f) reads)

  -- a name that no template has
  refused_name : position (is_entry_routine (chars name)) t.compiled.program.templates ≡ None
      → entry_of are.of name ≡ None
  refused_name is =
      unnumbered (entry_of are.of name) (entry_numbered contents content t.compiled are name None (sym is))

  -- by what opening answers
  pub opens_ok : (page : PageState) → OpensPage t name json (Ok page)
      → (entry_reply name json (entry_of are.of name) ≡ bare 0) × IsOpened t (entry_page t are.of name json) page
  opens_ok page h =
      let it = found h.0 h.1 in
      let reads =
      read_at contents content t.compiled are name json h.0 it.0 it.2 (Ok (view_value h.2.input)) h.2.reads in
      (ap (entry_reply name json) it.1 ∙ ap data_reply reads, opened_page h.0 h.1 page h.2)

  pub opens_entry : OpensPage t name json (Err (refusal.Because fault.Entry))
      → entry_reply name json (entry_of are.of name)
      ≡ refused (entry_line name) code.Entry Absent (numbers_elsewhere 3 code.Entry)
  opens_entry h = ap (entry_reply name json) (refused_name h)

  pub opens_data : (f : DataFault) → OpensPage t name json (Err (refusal.Because (fault.Data f)))
      → entry_reply name json (entry_of are.of name)
      ≡ refused (pointer_line (codes "data") f.path f.code) f.code (Has (pointer f.path)) (numbers_elsewhere 4 f.code)
  opens_data f h = refused_data h.0 h.1 (f.code, f.path) h.2
