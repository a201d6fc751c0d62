-- Templates that were compiled: their program is that of their files under some bundle, or under none. Which it was
-- isn't kept.
--
-- Example: those of one file a.soy have its content, and a program that gives for each of its templates what the
-- template gives.
use Rattle.std.specs.Prelude.{ℕ, List, Option}
use Rattle.soy_front.specs.Compiled.{AreCompiled}
use Rattle.soy_front.specs.ViewSources.{view_contents}
use Rattle.soy_page.specs.declared.templates.Templates.{Templates}

pub record WereCompiled (templates : Templates) : Type 0 where
  pub bundle : Option (List ℕ)
  pub compiled : AreCompiled (view_contents templates.sources.items) bundle templates.compiled
