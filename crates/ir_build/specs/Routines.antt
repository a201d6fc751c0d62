-- The templates of a program while they are made.
use Rattle.std.specs.Prelude.{ℕ, ◌+◌, ◌≤◌, List, [], ◌∷◌, Option, length}
use Rattle.soy_base.specs.declared.place.Place.{Place}
use Rattle.soy_tree.specs.MessageParts.{MsgParts}
use Rattle.soy_tree.specs.Nodes.{Message}
use Rattle.soy_rules.specs.Templates.{Declared}
use Rattle.template_ir.specs.Compiles.{StandsTemplate, StandsTemplates}
use Rattle.soy_rules.specs.Language.{Language}
use Rattle.template_ir.specs.HoleCounts.{nodes_holes}
use Rattle.template_ir.specs.Ops.{Op, Routine}

-- that this is a template of a program, where its block is among all ops
abbrev pub template_stands : Language → List Declared → List Place → Declared → Routine → ℕ → List Op → ℕ → Type 0
template_stands l declared places d r hole all before =
    before ≤ length all → StandsTemplate l declared places all d r hole

abbrev pub templates_stand : Language → List Declared → List Place → List Declared → List Routine → ℕ → List Op → ℕ
    → Type 0
templates_stand l declared places ds routines hole all before =
    before ≤ length all → StandsTemplates l declared places all ds routines hole

abbrev pub template_holes : (Message → Option MsgParts) → Declared → ℕ
template_holes translation d = nodes_holes translation d.template.body

abbrev pub templates_holes : (Message → Option MsgParts) → List Declared → ℕ
templates_holes translation [] = 0
templates_holes translation (d ∷ ds) = template_holes translation d + templates_holes translation ds
