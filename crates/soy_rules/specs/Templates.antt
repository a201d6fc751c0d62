-- The templates that are declared, and what a name in a call means.
-- A template's full name is its namespace, a `.` and its name. In a call a name without an inner dot means the caller's
-- namespace, and one with an inner dot is a full name. A private template is seen from its own namespace alone.
-- Example: in the namespace `a.b` the call of `c` means `a.b.c`.
use Rattle.std.specs.Prelude.{ℕ, ◌+◌, Bool, not, ◌||◌, ◌==◌, List, [], ◌∷◌, ◌++◌, Option, Some, None, map}
use Rattle.std.specs.Prelude.{if◌then◌else◌, bytes_eq}
use Rattle.std.specs.List.{list_any}
use Rattle.soy_base.specs.Characters.{full_stop}
use Rattle.soy_base.specs.declared.kind.Kind.{Kind}
use Rattle.soy_base.specs.declared.kind.Kind.TheVariants as kind
use Rattle.soy_tree.specs.Types.{Name, SoyType, NullType, StringType, HtmlType, AttributesType}
use Rattle.soy_rules.specs.Members.{joined}
use Rattle.soy_rules.specs.TypeOf.{Scope}
use Rattle.soy_tree.specs.Trees.{Param, Template, Tree}

-- a template, with the number of its file and its namespace
pub record Declared : Type 0 where
  pub file : ℕ
  pub namespace : Name
  pub template : Template

abbrev pub declared_in : ℕ → Name → List Template → List Declared
declared_in file namespace [] = []
declared_in file namespace (t ∷ ts) =
    record { file = file; namespace = namespace; template = t } ∷ declared_in file namespace ts

-- the templates of all files in order, files being counted from a number on
abbrev pub declared_from : ℕ → List Tree → List Declared
declared_from file [] = []
declared_from file (tree ∷ trees) = declared_in file tree.namespace tree.templates ++ declared_from (file + 1) trees

abbrev pub declared : List Tree → List Declared
declared = declared_from 0

abbrev pub joined_name : Name → Name → Name
joined_name namespace name = namespace ++ (full_stop ∷ name)

abbrev pub full_name : Declared → Name
full_name d = joined_name d.namespace d.template.name

abbrev pub called_name : Name → Name → Name
called_name namespace name = if list_any (λ c. c == full_stop) name then name else joined_name namespace name

-- the first template of this full name
abbrev pub template_of : Name → List Declared → Option Declared
template_of name [] = None
template_of name (d ∷ ds) = if bytes_eq (full_name d) name then Some d else template_of name ds

abbrev pub is_visible_from : Name → Declared → Bool
is_visible_from namespace d = not d.template.private || bytes_eq d.namespace namespace

abbrev pub visible : Name → Option Declared → Option Declared
visible namespace None = None
visible namespace (Some d) = if is_visible_from namespace d then Some d else None

-- what a call in a namespace means by a name
abbrev pub callee : List Declared → Name → Name → Option Declared
callee ds namespace name = visible namespace (template_of (called_name namespace name) ds)

-- the type of a parameter; one that isn't required also takes null
abbrev pub param_type : Param → SoyType
param_type p = if p.required then p.of else joined p.of NullType

abbrev pub param_scope : List Param → Scope
param_scope params = map (λ p. (p.name, param_type p)) params

abbrev pub kind_type : Kind → SoyType
kind_type kind.Html = HtmlType
kind_type kind.Attributes = AttributesType
kind_type kind.Text = StringType
