-- The ops of a part of the code, by its variant.
use Rattle.std.proofs.Common.{◌≡◌, ℕ, true, false, List, [], ◌∷◌, ◌++◌, map, sym, subst}
use Rattle.soy_pieces.specs.Branch.{selector}
use Rattle.soy_tree.specs.declared.bundle.ExactArm as code_exact
use Rattle.soy_tree.specs.declared.bundle.MsgPart as code
use Rattle.soy_tree.specs.declared.bundle.MsgPart.TheVariants as part
use Rattle.soy_tree.specs.declared.bundle.NamedArm as code_named
use Rattle.soy_tree.specs.declared.bundle.PluralPart as code_plural
use Rattle.soy_tree.specs.declared.bundle.SelectArm as code_word
use Rattle.soy_tree.specs.declared.bundle.SelectPart as code_select
use Rattle.soy_tree.specs.MessageParts.{MsgPart, NumberPart, TextPart}
use Rattle.soy_tree.specs.ViewMessageParts.{exact_arms_of, named_arms_of, select_arms_of, view_exact, view_named}
use Rattle.soy_tree.specs.ViewMessageParts.{view_part, view_select_arm}
use Rattle.template_ir.specs.HoleCounts.{exact_holes, named_holes, part_holes, word_holes}
use Rattle.template_ir.specs.Ops.{NumberOp, Op, PluralOp, SelectOp}
use Rattle.template_ir.specs.StandFor.{place_of}
use Rattle.template_ir.specs.declared.op.ExactBlock.{ExactBlock}
use Rattle.template_ir.specs.declared.op.NamedBlock.{NamedBlock}
use Rattle.template_ir.specs.declared.op.WordBlock.{WordBlock}
use Rattle.ir_build.specs.Claims.{exact_stand, named_stand, part_stands, selected_ops, source_uses, words_stand}
use Rattle.ir_build.specs.Laid.{Lays, Made, Pushes, with_hole}
use Rattle.ir_build.specs.TextOps.{text_ops}
use Rattle.ir_build.specs.declared.source.Source.{Source}
use Rattle.ir_build.proofs.PartSteps.{number_part_pushed, plural_part_pushed, select_part_pushed, text_part_pushed}
use Rattle.ir_build.proofs.PartViews.{part_is_number, part_is_plural, part_is_select, part_is_text}

module _ (s : Source) where
  abbrev pub PartPushed : code.MsgPart → Made → Made → List Op → List Op → Type 0
  PartPushed x a b own own_after =
      Pushes (part_stands s (view_part x)) (part_holes (source_uses s) (view_part x)) a b own own_after

  part_as : (x : code.MsgPart) (seen : MsgPart) (a b : Made) (own own_after : List Op) → view_part x ≡ seen
      → Pushes (part_stands s seen) (part_holes (source_uses s) seen) a b own own_after → PartPushed x a b own own_after
  part_as x seen a b own own_after e p =
      subst (λ (y : MsgPart). Pushes (part_stands s y) (part_holes (source_uses s) y) a b own own_after) (sym e) p

  pub at_text_part : (x : code.MsgPart) (t : List ℕ) (m : Made) (own own_after : List Op) → x ≡ part.Text t
      → own_after ≡ own ++ text_ops t → PartPushed x m m own own_after
  at_text_part x t m own own_after is e =
      part_as x (TextPart t) m m own own_after (part_is_text x t is) (text_part_pushed s t m own own_after e)

  pub at_number_part : (x : code.MsgPart) (a b : Made) (own own_after : List Op) → x ≡ part.Number
      → own_after ≡ own ++ (NumberOp (place_of s.places.now a.holes) ∷ []) → b ≡ with_hole a
      → PartPushed x a b own own_after
  at_number_part x a b own own_after is e made =
      part_as x NumberPart a b own own_after (part_is_number x is) (number_part_pushed s a b own own_after made e)

  pub at_plural_part : (x : code.MsgPart) (p : code_plural.PluralPart) (exacts : List code_exact.ExactArm)
      (nameds : List code_named.NamedArm) (numbers : List ExactBlock) (categories : List NamedBlock) (a b d : Made)
      (own own_after : List Op) → x ≡ part.Plural p → exacts ≡ (code_plural.out-PluralPart p).exact
      → nameds ≡ (code_plural.out-PluralPart p).named
      → Lays (exact_stand s (exact_arms_of (map view_exact exacts)) numbers)
      (exact_holes (source_uses s) (exact_arms_of (map view_exact exacts))) a b
      → Lays (named_stand s (named_arms_of (map view_named nameds)) categories)
      (named_holes (source_uses s) (named_arms_of (map view_named nameds))) b d
      → own_after ≡ own ++ selected_ops (selector true (code_plural.out-PluralPart p).name (source_uses s)
      (source_uses s)) (λ e. PluralOp e (code_plural.out-PluralPart p).offset (code_plural.out-PluralPart p).ordinal
      numbers categories)
      → PartPushed x a d own own_after
  at_plural_part x p exacts nameds numbers categories a b d own own_after is exact_is named_is l m e =
      part_as x _ a d own own_after (part_is_plural x p is)
      (plural_part_pushed s (code_plural.out-PluralPart p).ordinal (code_plural.out-PluralPart p).name
      (code_plural.out-PluralPart p).offset (exact_arms_of (map view_exact (code_plural.out-PluralPart p).exact))
      (named_arms_of (map view_named (code_plural.out-PluralPart p).named)) numbers categories a b d own own_after
      (subst (λ (y : List code_exact.ExactArm). Lays (exact_stand s (exact_arms_of (map view_exact y)) numbers)
      (exact_holes (source_uses s) (exact_arms_of (map view_exact y))) a b) exact_is l)
      (subst (λ (y : List code_named.NamedArm). Lays (named_stand s (named_arms_of (map view_named y)) categories)
      (named_holes (source_uses s) (named_arms_of (map view_named y))) b d) named_is m) e)

  pub at_select_part : (x : code.MsgPart) (p : code_select.SelectPart) (arms : List code_word.SelectArm)
      (blocks : List WordBlock) (a b : Made) (own own_after : List Op) → x ≡ part.Select p
      → arms ≡ (code_select.out-SelectPart p).arms
      → Lays (words_stand s (select_arms_of (map view_select_arm arms)) blocks)
      (word_holes (source_uses s) (select_arms_of (map view_select_arm arms))) a b
      → own_after ≡ own ++ selected_ops (selector false (code_select.out-SelectPart p).name (source_uses s)
      (source_uses s)) (λ e. SelectOp e blocks)
      → PartPushed x a b own own_after
  at_select_part x p arms blocks a b own own_after is arms_are l e =
      part_as x _ a b own own_after (part_is_select x p is)
      (select_part_pushed s (code_select.out-SelectPart p).name
      (select_arms_of (map view_select_arm (code_select.out-SelectPart p).arms)) blocks a b own own_after
      (subst (λ (y : List code_word.SelectArm). Lays (words_stand s (select_arms_of (map view_select_arm y)) blocks)
      (word_holes (source_uses s) (select_arms_of (map view_select_arm y))) a b) arms_are l) e)
