-- The number of a template, where a namespace sees it.
use Rattle.std.specs.Prelude.{ℕ, List, Option, Some, None, if◌then◌else◌, length, slice_get}
use Rattle.soy_rules.specs.Templates.{is_visible_from}
use Rattle.soy_tree.specs.Types.{Name}
use Rattle.soy_rules.specs.ViewTemplates.{view_declared}
use Rattle.soy_rules.specs.declared.template.Declared.{Declared}

-- a number among templates, or how many there are where this template isn't seen or isn't there
abbrev pub visible_number : Name → List Declared → ℕ → Option Declared → ℕ
visible_number namespace all number None = length all
visible_number namespace all number (Some d) =
    if is_visible_from namespace (view_declared d) then number else length all

abbrev pub number_if_visible : Name → List Declared → ℕ → ℕ
number_if_visible namespace all number = visible_number namespace all number (slice_get all number)
