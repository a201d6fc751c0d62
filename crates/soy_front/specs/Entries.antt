-- Which template may be rendered under a full name: the first public one of kind html or text that has it. (In typed
-- trees no other has it.)
-- Example: a private template `m` of the namespace `t` isn't rendered under `t.m`.
use Rattle.std.specs.Prelude.{ℕ, Bool, true, false, not, ◌&&◌, List, Option, bytes_eq}
use Rattle.std.specs.List.{position}
use Rattle.soy_base.specs.declared.kind.Kind.{Kind}
use Rattle.soy_base.specs.declared.kind.Kind.TheVariants as kind
use Rattle.soy_rules.specs.Templates.{Declared, full_name}
use Rattle.soy_tree.specs.Types.{Name}
use Rattle.template_ir.specs.declared.program.Routine.{Routine}

abbrev pub is_entry_kind : Kind → Bool
is_entry_kind kind.Html = true
is_entry_kind kind.Attributes = false
is_entry_kind kind.Text = true

abbrev pub is_entry : Name → Name → Bool → Kind → Bool
is_entry name full private kind = bytes_eq full name && not private && is_entry_kind kind

-- of a template of a program
abbrev pub is_entry_routine : Name → Routine → Bool
is_entry_routine name r = is_entry name r.name r.private r.kind

-- of a template of trees
abbrev pub is_entry_template : Name → Declared → Bool
is_entry_template name d = is_entry name (full_name d) d.template.private d.template.kind

-- **the number of the template**
abbrev pub entry_number : Name → List Declared → Option ℕ
entry_number name ds = position (is_entry_template name) ds
