-- Each list of parts of a translation is what parts of the code stand for.
use Rattle.std.proofs.Common.{◌≡◌, ℕ, ℤ, List, [], ◌∷◌, map, refl, sym, ap, ◌∙◌}
use Rattle.plural_rules.specs.declared.category.Category.{Category}
use Rattle.soy_tree.specs.MessageParts.{MsgPart, MsgParts, ExactArms, NamedArms, SelectArms, TextPart, Placeholder}
use Rattle.soy_tree.specs.MessageParts.{NumberPart, PluralPart, SelectPart, no_part, part, no_exact_arm, exact_arm}
use Rattle.soy_tree.specs.MessageParts.{no_named_arm, named_arm, no_select_arm, select_arm}
use Rattle.soy_tree.specs.ViewMessageParts.{exact_arms_of, named_arms_of, select_arms_of}
use Rattle.soy_tree.specs.ViewMessageParts.{exact_layer, named_layer, part_layer, plural_layer, select_arm_layer}
use Rattle.soy_tree.specs.ViewMessageParts.{select_layer, view_exact, view_named, view_part, view_parts}
use Rattle.soy_tree.specs.ViewMessageParts.{view_select_arm}
use Rattle.soy_tree.specs.declared.bundle.MsgPart as code_part
use Rattle.soy_tree.specs.declared.bundle.MsgPart.TheOpen.{MsgPart-F}
use Rattle.soy_tree.specs.declared.bundle.MsgPart.TheVariants as code
use Rattle.soy_tree.specs.declared.bundle.PluralPart as code_plural
use Rattle.soy_tree.specs.declared.bundle.SelectPart as code_select_part
use Rattle.soy_tree.specs.declared.bundle.ExactArm as code_exact
use Rattle.soy_tree.specs.declared.bundle.NamedArm as code_named
use Rattle.soy_tree.specs.declared.bundle.SelectArm as code_select

abbrev mutual
  pub coded_part : MsgPart → code_part.MsgPart
  coded_part (TextPart text) = code.Text text
  coded_part (Placeholder name) = code.Placeholder name
  coded_part NumberPart = code.Number
  coded_part (PluralPart ordinal name offset exact named) =
      code.Plural (code_plural.roll-PluralPart (record {
        ordinal = ordinal;
        name = name;
        offset = offset;
        exact = coded_exact_arms exact;
        named = coded_named_arms named;
      }))
  coded_part (SelectPart name arms) =
      code.Select (code_select_part.roll-SelectPart (record { name = name; arms = coded_select_arms arms }))

  pub coded_parts : MsgParts → List code_part.MsgPart
  coded_parts no_part = []
  coded_parts (part p ps) = coded_part p ∷ coded_parts ps

  pub coded_exact_arms : ExactArms → List code_exact.ExactArm
  coded_exact_arms no_exact_arm = []
  coded_exact_arms (exact_arm n ps arms) =
      code_exact.roll-ExactArm (record { is = n; parts = coded_parts ps }) ∷ coded_exact_arms arms

  pub coded_named_arms : NamedArms → List code_named.NamedArm
  coded_named_arms no_named_arm = []
  coded_named_arms (named_arm c ps arms) =
      code_named.roll-NamedArm (record { category = c; parts = coded_parts ps }) ∷ coded_named_arms arms

  pub coded_select_arms : SelectArms → List code_select.SelectArm
  coded_select_arms no_select_arm = []
  coded_select_arms (select_arm word ps arms) =
      code_select.roll-SelectArm (record { is = word; parts = coded_parts ps }) ∷ coded_select_arms arms

-- a plural or select as a part
plural_as_part : (p : code_plural.PluralPart) → view_part (code.Plural p)
    ≡ code_plural.fold-PluralPart MsgPart (ℤ × MsgParts) (Category × MsgParts) MsgPart (List ℕ × MsgParts) MsgPart
    part_layer exact_layer named_layer plural_layer select_arm_layer select_layer p
plural_as_part p =
    ap view_part (sym (code.rolls-Plural p))
    ∙ code_part.fold-roll-MsgPart MsgPart (ℤ × MsgParts) (Category × MsgParts) MsgPart (List ℕ × MsgParts) MsgPart
    part_layer exact_layer named_layer plural_layer select_arm_layer select_layer (MsgPart-F.Plural p)

select_as_part : (p : code_select_part.SelectPart) → view_part (code.Select p)
    ≡ code_select_part.fold-SelectPart MsgPart (ℤ × MsgParts) (Category × MsgParts) MsgPart (List ℕ × MsgParts) MsgPart
    part_layer exact_layer named_layer plural_layer select_arm_layer select_layer p
select_as_part p =
    ap view_part (sym (code.rolls-Select p))
    ∙ code_part.fold-roll-MsgPart MsgPart (ℤ × MsgParts) (Category × MsgParts) MsgPart (List ℕ × MsgParts) MsgPart
    part_layer exact_layer named_layer plural_layer select_arm_layer select_layer (MsgPart-F.Select p)

mutual
  part_back : (p : MsgPart) → view_part (coded_part p) ≡ p
  part_back (TextPart text) =
      ap view_part (sym (code.rolls-Text text))
      ∙ code_part.fold-roll-MsgPart MsgPart (ℤ × MsgParts) (Category × MsgParts) MsgPart (List ℕ × MsgParts) MsgPart
      part_layer exact_layer named_layer plural_layer select_arm_layer select_layer (MsgPart-F.Text text)
  part_back (Placeholder name) =
      ap view_part (sym (code.rolls-Placeholder name))
      ∙ code_part.fold-roll-MsgPart MsgPart (ℤ × MsgParts) (Category × MsgParts) MsgPart (List ℕ × MsgParts) MsgPart
      part_layer exact_layer named_layer plural_layer select_arm_layer select_layer (MsgPart-F.Placeholder name)
  part_back NumberPart =
      ap view_part (sym code.rolls-Number)
      ∙ code_part.fold-roll-MsgPart MsgPart (ℤ × MsgParts) (Category × MsgParts) MsgPart (List ℕ × MsgParts) MsgPart
      part_layer exact_layer named_layer plural_layer select_arm_layer select_layer MsgPart-F.Number
  part_back (PluralPart ordinal name offset exact named) =
      plural_as_part (code_plural.roll-PluralPart (record {
        ordinal = ordinal;
        name = name;
        offset = offset;
        exact = coded_exact_arms exact;
        named = coded_named_arms named;
      }))
      ∙ code_plural.fold-roll-PluralPart MsgPart (ℤ × MsgParts) (Category × MsgParts) MsgPart
      (List ℕ × MsgParts) MsgPart
      part_layer exact_layer named_layer plural_layer select_arm_layer select_layer (record {
        ordinal = ordinal;
        name = name;
        offset = offset;
        exact = coded_exact_arms exact;
        named = coded_named_arms named;
      })
      ∙ ap (λ e. PluralPart ordinal name offset e (named_arms_of (map view_named (coded_named_arms named))))
      (exact_back exact)
      ∙ ap (λ n. PluralPart ordinal name offset exact n) (named_back named)
  part_back (SelectPart name arms) =
      select_as_part (code_select_part.roll-SelectPart (record { name = name; arms = coded_select_arms arms }))
      ∙ code_select_part.fold-roll-SelectPart MsgPart (ℤ × MsgParts) (Category × MsgParts) MsgPart (List ℕ × MsgParts)
      MsgPart part_layer exact_layer named_layer plural_layer select_arm_layer select_layer
      (record { name = name; arms = coded_select_arms arms })
      ∙ ap (λ a. SelectPart name a) (select_back arms)

  pub parts_back : (ps : MsgParts) → view_parts (coded_parts ps) ≡ ps
  parts_back no_part = refl
  parts_back (part p ps) =
      ap (λ q. part q (view_parts (coded_parts ps))) (part_back p) ∙ ap (λ qs. part p qs) (parts_back ps)

  exact_back : (arms : ExactArms) → exact_arms_of (map view_exact (coded_exact_arms arms)) ≡ arms
  exact_back no_exact_arm = refl
  exact_back (exact_arm n ps arms) =
      ap (λ a. exact_arm a.0 a.1 (exact_arms_of (map view_exact (coded_exact_arms arms))))
      (code_exact.fold-roll-ExactArm MsgPart (ℤ × MsgParts) (Category × MsgParts) MsgPart (List ℕ × MsgParts) MsgPart
      part_layer exact_layer named_layer plural_layer select_arm_layer select_layer
      (record { is = n; parts = coded_parts ps }))
      ∙ ap (λ qs. exact_arm n qs (exact_arms_of (map view_exact (coded_exact_arms arms)))) (parts_back ps)
      ∙ ap (λ rest. exact_arm n ps rest) (exact_back arms)

  named_back : (arms : NamedArms) → named_arms_of (map view_named (coded_named_arms arms)) ≡ arms
  named_back no_named_arm = refl
  named_back (named_arm c ps arms) =
      ap (λ a. named_arm a.0 a.1 (named_arms_of (map view_named (coded_named_arms arms))))
      (code_named.fold-roll-NamedArm MsgPart (ℤ × MsgParts) (Category × MsgParts) MsgPart (List ℕ × MsgParts) MsgPart
      part_layer exact_layer named_layer plural_layer select_arm_layer select_layer
      (record { category = c; parts = coded_parts ps }))
      ∙ ap (λ qs. named_arm c qs (named_arms_of (map view_named (coded_named_arms arms)))) (parts_back ps)
      ∙ ap (λ rest. named_arm c ps rest) (named_back arms)

  select_back : (arms : SelectArms) → select_arms_of (map view_select_arm (coded_select_arms arms)) ≡ arms
  select_back no_select_arm = refl
  select_back (select_arm word ps arms) =
      ap (λ a. select_arm a.0 a.1 (select_arms_of (map view_select_arm (coded_select_arms arms))))
      (code_select.fold-roll-SelectArm MsgPart (ℤ × MsgParts) (Category × MsgParts) MsgPart (List ℕ × MsgParts) MsgPart
      part_layer exact_layer named_layer plural_layer select_arm_layer select_layer
      (record { is = word; parts = coded_parts ps }))
      ∙ ap (λ qs. select_arm word qs (select_arms_of (map view_select_arm (coded_select_arms arms)))) (parts_back ps)
      ∙ ap (λ rest. select_arm word ps rest) (select_back arms)
