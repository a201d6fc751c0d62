-- A page that has just begun: of these templates and these data, with all still to give that the program gives for the
-- template of the number.
--
-- Example: of a template `a{$x}` with "b" it has still to give `a` and the escaped form of `b`.
use Rattle.std.specs.Prelude.{◌≡◌, ℕ, []}
use Rattle.soy_tree.specs.ViewValues.{view_value}
use Rattle.soy_tree.specs.declared.value.Value.{Value}
use Rattle.template_ir.specs.Run.{run}
use Rattle.template_ir.specs.ViewOps.{view_program}
use Rattle.render_core.specs.Rest.{solid}
use Rattle.soy_page.specs.PageRest.{page_rest}
use Rattle.soy_page.specs.PageState.{PageState}
use Rattle.soy_page.specs.declared.templates.Templates.{Templates}

pub record HasBegun (templates : Templates) (number : ℕ) (input : Value) (page : PageState) : Type 0 where
  pub templates_are : page.templates ≡ templates
  pub input_is : page.input ≡ input
  pub rest : page_rest page ≡ record {
    begun = [];
    coming = solid (run (view_program templates.compiled.program) number (view_value input));
  }
