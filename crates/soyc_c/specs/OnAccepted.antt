-- What is true of compiled templates by what their files were accepted as under their bundle.
--
-- Templates don't keep the bundle. So it is true under each bundle that may have been it, and there is one such.
-- Example: of templates that soyc_compile made under a bundle it is true by what the files were accepted as under that.
use Rattle.std.specs.Prelude.{ℕ, List, Option}
use Rattle.soy_front.specs.Compiled.{AreCompiled}
use Rattle.soy_front.specs.FrontAnswer.{Front}
use Rattle.soy_page.specs.WereCompiled.{WereCompiled}
use Rattle.soy_page.specs.declared.templates.Templates.{Templates}
use Rattle.soyc_c.specs.TemplateFiles.{file_contents}

pub record OnAccepted (templates : Templates) (IsTrueOf : Front → Type 0) : Type 0 where
  -- there is such a bundle, or they were compiled under none
  pub there : WereCompiled templates
  -- and by each it is true
  pub each : (bundle : Option (List ℕ)) (are : AreCompiled (file_contents templates) bundle templates.compiled)
      → IsTrueOf are.of
