-- What is answered by a page that may be shown: by its gathered text, and by the files that it was compiled of.
use Rattle.std.proofs.Common.{◌≡◌, ◌≤◌, ◌<◌, ℕ, List, Option, Some, None, length, refl, sym, subst, ap, ◌∙◌}
use Rattle.std.specs.Prelude.{IfSome, Result, Ok, Err, String, slice_get}
use Rattle.std.specs.String.{string_bytes}
use Rattle.std.specs.declared.alloc.Global.{Global}
use Rattle.render_core.specs.Pulls.{stops_at}
use Rattle.soy_base.specs.declared.direction.Dir.{Dir}
use Rattle.soy_base.specs.declared.fault.TooDeep.{TooDeep}
use Rattle.soy_front.specs.Compiled.{AreCompiled}
use Rattle.soy_front.specs.ViewSources.{view_contents}
use Rattle.soy_front.specs.declared.compiling.Compiled.{Compiled}
use Rattle.soy_pieces.specs.Outcome.{Outcome, WholeRun, end_of_outcome}
use Rattle.soy_top.specs.declared.ending.Ending.{Ending}
use Rattle.soy_top.specs.declared.ending.Ending.TheVariants as ending
use Rattle.soy_top.specs.declared.output.Output.{Output}
use Rattle.soy_top.specs.declared.output.Output.TheVariants as output
use Rattle.soy_top.specs.declared.page.Page.{Page}
use Rattle.soy_top.specs.declared.preview.ShownPage as code
use Rattle.soy_top.specs.Accepts.{Accepts, AcceptsPage, IsNumbered, Refuses}
use Rattle.soy_top.specs.Answer.{Answer, Done, PageAnswer, accepted_then, entry_answer, page_answer, preview_answer}
use Rattle.soy_top.specs.Answer.{run_text, seen_lines, seen_page, shown_of, unless_refused}
use Rattle.soy_top.specs.Line.{ended, too_long_line}
use Rattle.soy_top.specs.SeenText.{seen_text}
use Rattle.soy_top.specs.ShownPage.{AcceptsShown}
use Rattle.soy_top.specs.Runs.ViewOutput.{page_run}
use Rattle.soy_top.specs.Words.{Word, command_words}
use Rattle.soy_top.proofs.Previews.SeenAnswers.{seen_long, seen_short}
use Rattle.soy_rules.specs.Templates.{Declared}

-- ---- by what was gathered

module _ (names : List Word) (contents : List (List ℕ)) (context : Dir) (o : Outcome) where
  -- too long
  pub shown_long : (text : String Global) → 1048576 < length (run_text o) → string_bytes text ≡ ended too_long_line
      → Accepts (page_answer (seen_page names contents context) o) (Err (ending.Refused text))
  shown_long text many is =
      (too_long_line, seen_long names contents context (run_text o) (end_of_outcome o) many, is)

  -- whole, with its lines
  pub shown_whole : (text : String Global) (bytes : List ℕ) → length (run_text o) ≤ 1048576 → bytes ≡ run_text o
      → end_of_outcome o ≡ WholeRun → string_bytes text ≡ seen_text context bytes
      → Accepts (page_answer (seen_page names contents context) o) (Ok (output.Text text))
  shown_whole text bytes few all whole is =
      seen_short names contents context (run_text o) (end_of_outcome o) few
      ∙ (ap (seen_lines names contents context (run_text o)) whole
      ∙ ap Done (sym (is ∙ ap (seen_text context) all)))

  -- stopped at a call, with nothing
  pub shown_stopped : (call : TooDeep) → length (run_text o) ≤ 1048576 → end_of_outcome o ≡ stops_at call
      → page_answer (seen_page names contents context) o
      ≡ seen_lines names contents context (run_text o) (stops_at call)
  shown_stopped call few is =
      seen_short names contents context (run_text o) (end_of_outcome o) few
      ∙ ap (seen_lines names contents context (run_text o)) is

-- what is shown of an accepted page is the answer
pub shown_accepted : (answer : (Dir → PageAnswer) → Answer) (names : List Word) (contents : List (List ℕ))
    (shown : code.ShownPage) (r : Result Output Ending) → command_words shown.page.names.now ≡ names
    → view_contents shown.page.sources.now ≡ contents → AcceptsShown answer (Ok shown)
    → Accepts (page_answer (seen_page (command_words shown.page.names.now) (view_contents shown.page.sources.now)
    shown.context) (page_run shown.page)) r
    → Accepts (answer (seen_page names contents)) r
shown_accepted answer names contents shown r is_names is_contents h accepts =
    subst (λ a. Accepts a r) (sym (h (seen_page names contents)))
    (subst (λ ns. Accepts (page_answer (seen_page ns contents shown.context) (page_run shown.page)) r) is_names
    (subst (λ cs. Accepts (page_answer (seen_page (command_words shown.page.names.now) cs shown.context)
    (page_run shown.page)) r) is_contents accepts))

-- ---- by the files that its program was compiled of

module _ (names : List Word) (files : List (List ℕ)) (bundle : Word) (content : Option (List ℕ)) (c : Compiled)
    (template json_name : Word) (json : List ℕ) (are : AreCompiled files content c) where
  abbrev answer : (Dir → PageAnswer) → Answer
  answer page = accepted_then names files bundle content (preview_answer page template json_name json)

  abbrev found : PageAnswer → Answer
  found page = entry_answer page template json_name json are.of (shown_of are.of template)

  -- all that may be answered is that by the template that was found
  by_found : (page : Dir → PageAnswer) → answer page ≡ found (page are.of.language.dir)
  by_found page = ap (unless_refused names files bundle (preview_answer page template json_name json)) are.answered

  pub shown_then : (accepted : Page) → AcceptsPage found (Ok accepted)
      → AcceptsShown answer (Ok (record { page = accepted; context = c.dir }))
  shown_then accepted h = λ page.
      by_found page
      ∙ (h (page are.of.language.dir) ∙ ap (λ d. page_answer (page d) (page_run accepted)) (sym are.direction))

  pub shown_refused : (e : Ending) → AcceptsPage found (Err e) → AcceptsShown answer (Err e)
  shown_refused e h = λ page. subst (λ x. Refuses x e) (sym (by_found page)) (h (page are.of.language.dir))

-- ---- a template that is there

module _ (ds : List Declared) (P : Type 0) (Q : Declared → Type 0) where
  there_by : (number : ℕ) (o : Option Declared) → IsNumbered ds (Some number) o → IfSome o Q
      → ((d : Declared) → slice_get ds number ≡ Some d → Q d → P) → P
  there_by number None numbered q h = absurd numbered
  there_by number (Some d) numbered q h = h d numbered q

  -- what follows from a fact of the template of a number
  pub numbered_there : (entry : Option ℕ) (number : ℕ) (o : Option Declared) → entry ≡ Some number
      → IsNumbered ds entry o → IfSome o Q → ((d : Declared) → slice_get ds number ≡ Some d → Q d → P) → P
  numbered_there entry number o is numbered q h =
      there_by number o (subst (λ e. IsNumbered ds e o) is numbered) q h
