-- The parts of a translation that those of the code stand for.
use Rattle.std.specs.Prelude.{ℕ, ℤ, List, [], ◌∷◌, map}
use Rattle.plural_rules.specs.declared.category.Category.{Category}
use Rattle.soy_tree.specs.declared.bundle.MsgPart as code
use Rattle.soy_tree.specs.declared.bundle.ExactArm as code_exact
use Rattle.soy_tree.specs.declared.bundle.NamedArm as code_named
use Rattle.soy_tree.specs.declared.bundle.SelectArm as code_select
use Rattle.soy_tree.specs.declared.bundle.MsgPart.TheOpen.{MsgPart-F, ExactArm-F, NamedArm-F, PluralPart-F, SelectArm-F}
use Rattle.soy_tree.specs.declared.bundle.MsgPart.TheOpen.{SelectPart-F}
use Rattle.soy_tree.specs.MessageParts.{MsgPart, MsgParts, ExactArms, NamedArms, SelectArms, TextPart, Placeholder}
use Rattle.soy_tree.specs.MessageParts.{NumberPart, PluralPart, SelectPart, no_part, part, no_exact_arm, exact_arm}
use Rattle.soy_tree.specs.MessageParts.{no_named_arm, named_arm, no_select_arm, select_arm}

abbrev pub parts_of : List MsgPart → MsgParts
parts_of [] = no_part
parts_of (p ∷ ps) = part p (parts_of ps)

abbrev pub exact_arms_of : List (ℤ × MsgParts) → ExactArms
exact_arms_of [] = no_exact_arm
exact_arms_of (a ∷ rest) = exact_arm a.0 a.1 (exact_arms_of rest)

abbrev pub named_arms_of : List (Category × MsgParts) → NamedArms
named_arms_of [] = no_named_arm
named_arms_of (a ∷ rest) = named_arm a.0 a.1 (named_arms_of rest)

abbrev pub select_arms_of : List (List ℕ × MsgParts) → SelectArms
select_arms_of [] = no_select_arm
select_arms_of (a ∷ rest) = select_arm a.0 a.1 (select_arms_of rest)

-- what is inside is already seen as plain data
abbrev pub PartLayer : ((A B C D E F : Type 0) → Type 0) → Type 0
PartLayer Layer = Layer MsgPart (ℤ × MsgParts) (Category × MsgParts) MsgPart (List ℕ × MsgParts) MsgPart

abbrev pub part_layer : PartLayer MsgPart-F → MsgPart
part_layer (MsgPart-F.Text text) = TextPart text
part_layer (MsgPart-F.Placeholder name) = Placeholder name
part_layer MsgPart-F.Number = NumberPart
part_layer (MsgPart-F.Plural p) = p
part_layer (MsgPart-F.Select p) = p

abbrev pub exact_layer : PartLayer ExactArm-F → ℤ × MsgParts
exact_layer a = (a.is, parts_of a.parts)

abbrev pub named_layer : PartLayer NamedArm-F → Category × MsgParts
named_layer a = (a.category, parts_of a.parts)

abbrev pub plural_layer : PartLayer PluralPart-F → MsgPart
plural_layer p = PluralPart p.ordinal p.name p.offset (exact_arms_of p.exact) (named_arms_of p.named)

abbrev pub select_arm_layer : PartLayer SelectArm-F → List ℕ × MsgParts
select_arm_layer a = (a.is, parts_of a.parts)

abbrev pub select_layer : PartLayer SelectPart-F → MsgPart
select_layer p = SelectPart p.name (select_arms_of p.arms)

abbrev pub view_part : code.MsgPart → MsgPart
view_part =
    code.fold-MsgPart MsgPart (ℤ × MsgParts) (Category × MsgParts) MsgPart (List ℕ × MsgParts) MsgPart part_layer
    exact_layer named_layer plural_layer select_arm_layer select_layer

abbrev pub view_exact : code_exact.ExactArm → ℤ × MsgParts
view_exact =
    code_exact.fold-ExactArm MsgPart (ℤ × MsgParts) (Category × MsgParts) MsgPart (List ℕ × MsgParts) MsgPart
    part_layer exact_layer named_layer plural_layer select_arm_layer select_layer

abbrev pub view_named : code_named.NamedArm → Category × MsgParts
view_named =
    code_named.fold-NamedArm MsgPart (ℤ × MsgParts) (Category × MsgParts) MsgPart (List ℕ × MsgParts) MsgPart
    part_layer exact_layer named_layer plural_layer select_arm_layer select_layer

abbrev pub view_select_arm : code_select.SelectArm → List ℕ × MsgParts
view_select_arm =
    code_select.fold-SelectArm MsgPart (ℤ × MsgParts) (Category × MsgParts) MsgPart (List ℕ × MsgParts) MsgPart
    part_layer exact_layer named_layer plural_layer select_arm_layer select_layer

abbrev pub view_parts : List code.MsgPart → MsgParts
view_parts ps = parts_of (map view_part ps)
