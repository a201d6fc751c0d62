-- The text of an html page of a program is read as one text without a fault.
use Rattle.std.proofs.Common.{◌≡◌, ℕ, List, [], Option, Some, sym, ap, ◌∙◌}
use Rattle.std.specs.Prelude.{Ok, slice_get}
use Rattle.soy_front.specs.Compiled.{AreCompiled}
use Rattle.soy_front.specs.declared.compiling.Compiled.{Compiled}
use Rattle.soy_top.specs.Answer.{Answer, Done, data_answer, run_text, template_outcome}
use Rattle.soy_top.specs.Rendered.{Rendered}
use Rattle.soy_top.specs.Shown.{IsHtml}
use Rattle.soy_top.specs.ShownPage.{IsPageText}
use Rattle.soy_top.specs.Words.{Word}
use Rattle.soy_top.proofs.KeptPages.{page_bytes}
use Rattle.soy_top.proofs.PageParts.{PageParts}
use Rattle.soy_top.proofs.Pages.{page_answered, read_at, same_templates}
use Rattle.soy_rules.specs.ShortLists.{HasShortLists}
use Rattle.soy_rules.specs.Templates.{Declared, declared}
use Rattle.soy_rules.specs.Typed.{AreTyped, params_at, templates_of}
use Rattle.soy_tree.specs.Values.{Value}
use Rattle.soy_tree.specs.ViewTrees.{view_params, view_trees}
use Rattle.soy_types.specs.ReadData.{data_at}
use Rattle.template_ir.specs.Run.{run}
use Rattle.template_ir.specs.ViewOps.{view_program}

-- texts of one answer are the same
done_text : (text other : List ℕ) → ◌≡◌ {A = Answer} (Done text) (Done other) → text ≡ other
done_text text other e = cc

module _ (contents : List (List ℕ)) (content : Option (List ℕ)) (c : Compiled)
    (are : AreCompiled contents content c) (json_name : Word) (json : List ℕ) (number : ℕ) (d : Declared)
    (found : slice_get (declared (view_trees c.typed)) number ≡ Some d) where
  -- the program gives the text of the template
  text_same : AreTyped c.typed → (v : Value)
      → data_at (view_params (params_at number (templates_of c.typed))) json ≡ Ok v → HasShortLists v
      → run_text (run (view_program c.program) number v) ≡ run_text (template_outcome are.of d v)
  text_same typed v is short =
      done_text (run_text (run (view_program c.program) number v)) (run_text (template_outcome are.of d v))
      (sym (page_answered contents content c are json_name json number d found typed v is short (λ text end. Done text))
      ∙ ap (data_answer (λ text end. Done text) json_name are.of d)
      (read_at contents content c are json_name json number d found (Ok v) is))

  pub html_text : AreTyped c.typed → (v : Value)
      → data_at (view_params (params_at number (templates_of c.typed))) json ≡ Ok v → HasShortLists v → IsHtml d
      → IsPageText (run_text (run (view_program c.program) number v))
  html_text typed v is short html utf8 =
      let page : Rendered = record { names = []; contents = contents; accepted = are.of; entry = d; input = v } in
      let parts : PageParts page = record {
        json = json;
        bundle = content;
        number = number;
        front = are.answered;
        found = ap (λ ds. slice_get ds number) (same_templates contents content c are) ∙ found;
        reads = read_at contents content c are json_name json number d found (Ok v) is;
        short = short;
      } in
      page_bytes page parts html (run_text (run (view_program c.program) number v)) utf8 (text_same typed v is short)
