-- What parts of a translation stand for, variant by variant.
use Rattle.std.proofs.Common.{◌≡◌, ℕ, ℤ, List, map, sym, ap, ◌∙◌}
use Rattle.plural_rules.specs.declared.category.Category.{Category}
use Rattle.soy_tree.specs.declared.bundle.MsgPart as code
use Rattle.soy_tree.specs.declared.bundle.MsgPart.TheOpen.{MsgPart-F}
use Rattle.soy_tree.specs.declared.bundle.MsgPart.TheVariants as part
use Rattle.soy_tree.specs.declared.bundle.PluralPart as code_plural
use Rattle.soy_tree.specs.declared.bundle.SelectPart as code_select
use Rattle.soy_tree.specs.MessageParts.{MsgPart, MsgParts, NumberPart, PluralPart, SelectPart, TextPart}
use Rattle.soy_tree.specs.ViewMessageParts.{exact_arms_of, exact_layer, named_arms_of, named_layer, part_layer}
use Rattle.soy_tree.specs.ViewMessageParts.{plural_layer, select_arm_layer, select_arms_of, select_layer, view_exact}
use Rattle.soy_tree.specs.ViewMessageParts.{view_named, view_part, view_select_arm}

abbrev view_plural : code_plural.PluralPart → MsgPart
view_plural =
    code_plural.fold-PluralPart MsgPart (ℤ × MsgParts) (Category × MsgParts) MsgPart (List ℕ × MsgParts) MsgPart
    part_layer exact_layer named_layer plural_layer select_arm_layer select_layer

abbrev view_select : code_select.SelectPart → MsgPart
view_select =
    code_select.fold-SelectPart MsgPart (ℤ × MsgParts) (Category × MsgParts) MsgPart (List ℕ × MsgParts) MsgPart
    part_layer exact_layer named_layer plural_layer select_arm_layer select_layer

pub part_is_plural : (x : code.MsgPart) (p : code_plural.PluralPart) → x ≡ part.Plural p
    → view_part x ≡ PluralPart (code_plural.out-PluralPart p).ordinal (code_plural.out-PluralPart p).name
    (code_plural.out-PluralPart p).offset (exact_arms_of (map view_exact (code_plural.out-PluralPart p).exact))
    (named_arms_of (map view_named (code_plural.out-PluralPart p).named))
part_is_plural x p is =
    ap view_part (is ∙ sym (part.rolls-Plural p))
    ∙ (code.fold-roll-MsgPart MsgPart (ℤ × MsgParts) (Category × MsgParts) MsgPart (List ℕ × MsgParts) MsgPart
    part_layer exact_layer named_layer plural_layer select_arm_layer select_layer (MsgPart-F.Plural p)
    ∙ code_plural.fold_out-PluralPart MsgPart (ℤ × MsgParts) (Category × MsgParts) MsgPart (List ℕ × MsgParts) MsgPart
    part_layer exact_layer named_layer plural_layer select_arm_layer select_layer p)

pub part_is_select : (x : code.MsgPart) (p : code_select.SelectPart) → x ≡ part.Select p
    → view_part x ≡ SelectPart (code_select.out-SelectPart p).name
    (select_arms_of (map view_select_arm (code_select.out-SelectPart p).arms))
part_is_select x p is =
    ap view_part (is ∙ sym (part.rolls-Select p))
    ∙ (code.fold-roll-MsgPart MsgPart (ℤ × MsgParts) (Category × MsgParts) MsgPart (List ℕ × MsgParts) MsgPart
    part_layer exact_layer named_layer plural_layer select_arm_layer select_layer (MsgPart-F.Select p)
    ∙ code_select.fold_out-SelectPart MsgPart (ℤ × MsgParts) (Category × MsgParts) MsgPart (List ℕ × MsgParts) MsgPart
    part_layer exact_layer named_layer plural_layer select_arm_layer select_layer p)

view_text_part : (t : List ℕ) → view_part (part.Text t) ≡ TextPart t
unfolding code.out-MsgPart denote.Hole.Carrier.out
view_text_part t =
    code.fold_out-MsgPart MsgPart (ℤ × MsgParts) (Category × MsgParts) MsgPart (List ℕ × MsgParts) MsgPart part_layer
    exact_layer named_layer plural_layer select_arm_layer select_layer (part.Text t)

view_number_part : view_part part.Number ≡ NumberPart
unfolding code.out-MsgPart denote.Hole.Carrier.out
view_number_part =
    code.fold_out-MsgPart MsgPart (ℤ × MsgParts) (Category × MsgParts) MsgPart (List ℕ × MsgParts) MsgPart part_layer
    exact_layer named_layer plural_layer select_arm_layer select_layer part.Number

pub part_is_text : (x : code.MsgPart) (t : List ℕ) → x ≡ part.Text t → view_part x ≡ TextPart t
part_is_text x t is = ap view_part is ∙ view_text_part t

pub part_is_number : (x : code.MsgPart) → x ≡ part.Number → view_part x ≡ NumberPart
part_is_number x is = ap view_part is ∙ view_number_part
