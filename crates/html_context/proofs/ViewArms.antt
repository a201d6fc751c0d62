-- What arms of translations stand for.
use Rattle.std.proofs.Common.{◌≡◌, ℕ, ℤ, List, ap, map, sym, ◌∙◌}
use Rattle.plural_rules.specs.declared.category.Category.{Category}
use Rattle.soy_tree.specs.MessageParts.{MsgPart, MsgParts, PluralPart, SelectPart}
use Rattle.soy_tree.specs.ViewMessageParts.{exact_arms_of, named_arms_of, select_arms_of, view_part}
use Rattle.soy_tree.specs.ViewMessageParts.{exact_layer, named_layer, part_layer, plural_layer, select_arm_layer}
use Rattle.soy_tree.specs.ViewMessageParts.{select_layer, view_exact, view_named, view_parts, view_select_arm}
use Rattle.soy_tree.specs.declared.bundle.MsgPart as code_part
use Rattle.soy_tree.specs.declared.bundle.MsgPart.TheOpen.{MsgPart-F}
use Rattle.soy_tree.specs.declared.bundle.MsgPart.TheVariants as part
use Rattle.soy_tree.specs.declared.bundle.PluralPart as code_plural
use Rattle.soy_tree.specs.declared.bundle.SelectPart as code_select_part
use Rattle.soy_tree.specs.declared.bundle.ExactArm as code_exact
use Rattle.soy_tree.specs.declared.bundle.NamedArm as code_named
use Rattle.soy_tree.specs.declared.bundle.SelectArm as code_select

pub exact_is : (a : code_exact.ExactArm) → view_exact a ≡ (a.is, view_parts a.parts)
exact_is a =
    code_exact.fold_out-ExactArm MsgPart (ℤ × MsgParts) (Category × MsgParts) MsgPart (List ℕ × MsgParts) MsgPart
    part_layer exact_layer named_layer plural_layer select_arm_layer select_layer a

pub named_is : (a : code_named.NamedArm) → view_named a ≡ (a.category, view_parts a.parts)
named_is a =
    code_named.fold_out-NamedArm MsgPart (ℤ × MsgParts) (Category × MsgParts) MsgPart (List ℕ × MsgParts) MsgPart
    part_layer exact_layer named_layer plural_layer select_arm_layer select_layer a

pub select_arm_is : (a : code_select.SelectArm) → view_select_arm a ≡ (a.is, view_parts a.parts)
select_arm_is a =
    code_select.fold_out-SelectArm MsgPart (ℤ × MsgParts) (Category × MsgParts) MsgPart (List ℕ × MsgParts) MsgPart
    part_layer exact_layer named_layer plural_layer select_arm_layer select_layer a

pub plural_is : (p : code_plural.PluralPart)
    → view_part (part.Plural p)
    ≡ PluralPart (code_plural.out-PluralPart p).ordinal (code_plural.out-PluralPart p).name
    (code_plural.out-PluralPart p).offset (exact_arms_of (map view_exact (code_plural.out-PluralPart p).exact))
    (named_arms_of (map view_named (code_plural.out-PluralPart p).named))
plural_is p =
    ap view_part (sym (part.rolls-Plural p))
    ∙ code_part.fold-roll-MsgPart MsgPart (ℤ × MsgParts) (Category × MsgParts) MsgPart (List ℕ × MsgParts) MsgPart
    part_layer exact_layer named_layer plural_layer select_arm_layer select_layer (MsgPart-F.Plural p)
    ∙ code_plural.fold_out-PluralPart MsgPart (ℤ × MsgParts) (Category × MsgParts) MsgPart (List ℕ × MsgParts) MsgPart
    part_layer exact_layer named_layer plural_layer select_arm_layer select_layer p

pub select_is : (p : code_select_part.SelectPart)
    → view_part (part.Select p)
    ≡ SelectPart (code_select_part.out-SelectPart p).name
    (select_arms_of (map view_select_arm (code_select_part.out-SelectPart p).arms))
select_is p =
    ap view_part (sym (part.rolls-Select p))
    ∙ code_part.fold-roll-MsgPart MsgPart (ℤ × MsgParts) (Category × MsgParts) MsgPart (List ℕ × MsgParts) MsgPart
    part_layer exact_layer named_layer plural_layer select_arm_layer select_layer (MsgPart-F.Select p)
    ∙ code_select_part.fold_out-SelectPart MsgPart (ℤ × MsgParts) (Category × MsgParts) MsgPart (List ℕ × MsgParts)
    MsgPart part_layer exact_layer named_layer plural_layer select_arm_layer select_layer p
