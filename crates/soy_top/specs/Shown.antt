-- Which template may be previewed under a full name: the first public one of kind html that has it. (In typed trees no
-- other has it.)
-- Example: a template `m` of kind text of the namespace `t` is rendered under `t.m`, and isn't previewed.
use Rattle.std.specs.Prelude.{◌≡◌, ℕ, Bool, true, false, not, ◌&&◌, List, Option, bytes_eq}
use Rattle.std.specs.List.{position}
use Rattle.soy_base.specs.declared.kind.Kind.{Kind}
use Rattle.soy_base.specs.declared.kind.Kind.TheVariants as kind
use Rattle.soy_rules.specs.Templates.{Declared, full_name}
use Rattle.soy_tree.specs.Types.{Name}
use Rattle.template_ir.specs.declared.program.Routine.{Routine}

abbrev pub is_shown_kind : Kind → Bool
is_shown_kind kind.Html = true
is_shown_kind kind.Attributes = false
is_shown_kind kind.Text = false

-- the template is of kind html
abbrev pub IsHtml : Declared → Type 0
IsHtml d = d.template.kind ≡ kind.Html

abbrev pub is_shown : Name → Name → Bool → Kind → Bool
is_shown name full private kind = bytes_eq full name && not private && is_shown_kind kind

-- of a template of a program
abbrev pub is_shown_routine : Name → Routine → Bool
is_shown_routine name r = is_shown name r.name r.private r.kind

-- of a template of trees
abbrev pub is_shown_template : Name → Declared → Bool
is_shown_template name d = is_shown name (full_name d) d.template.private d.template.kind

-- **the number of the template**
abbrev pub shown_number : Name → List Declared → Option ℕ
shown_number name ds = position (is_shown_template name) ds
