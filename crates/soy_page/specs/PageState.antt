-- What contracts see of a page: its templates, its data, and its rendering, which fits both.
--
-- Example: a page that has just begun has a rendering that has given nothing.
use Rattle.render_core.specs.declared.rendering.Rendering.{Rendering}
use Rattle.soy_page.specs.declared.templates.Templates.{Templates}
use Rattle.soy_tree.specs.declared.value.Value.{Value}

pub record PageState : Type 0 where
  pub templates : Templates
  pub input : Value
  pub rendering : Rendering
