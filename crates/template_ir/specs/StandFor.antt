-- Which ops stand for texts, prints and translations.
--
-- Ops stand from a position up to an end; an empty text has none. A print has one, with the place of its hole. A part
-- of a translation has one op, but a placeholder has those of what it is in the source: of a print, or of the texts
-- and prints of a tag, each text of its own. The blocks of arms stand before the op that names them.
-- Example: in the translation `{START_LINK}a`, with START_LINK for `<a href="{$u}">`, four ops stand one after the
-- other: the text `<a href="`, the print, the text `">` and the text `a`.
use Rattle.std.specs.Prelude.{◌≡◌, ℕ, ◌+◌, ◌≤◌, true, false, List, [], ◌∷◌, ◌++◌, Option, Some, None, get_or, slice_get}
use Rattle.soy_base.specs.declared.place.Place.{Place}
use Rattle.soy_base.specs.declared.place.Place.TheVariants as place
use Rattle.soy_tree.specs.Expressions.{Expr}
use Rattle.soy_tree.specs.MessageParts.{MsgPart, MsgParts, ExactArms, NamedArms, SelectArms, TextPart, Placeholder}
use Rattle.soy_tree.specs.MessageParts.{NumberPart, PluralPart, SelectPart, no_part, part, no_exact_arm, exact_arm}
use Rattle.soy_tree.specs.MessageParts.{no_named_arm, named_arm, no_select_arm, select_arm}
use Rattle.soy_tree.specs.MessageText.{MessageItem, Character, Printed, Cut, PrintCut, TagCut}
use Rattle.soy_rules.specs.Placeholders.{Use}
use Rattle.soy_pieces.specs.Branch.{selector}
use Rattle.soy_rules.specs.Placeholders.{placeholder_cut}
use Rattle.template_ir.specs.HoleCounts.{exact_holes, part_holes, parts_holes}
use Rattle.template_ir.specs.Ops.{Op, NumberOp, PluralOp, PrintOp, SelectOp, StaticOp}
use Rattle.template_ir.specs.declared.op.ExactBlock.{ExactBlock}
use Rattle.template_ir.specs.declared.op.NamedBlock.{NamedBlock}
use Rattle.template_ir.specs.declared.op.WordBlock.{WordBlock}

-- the place of the hole of a number
abbrev pub place_of : List Place → ℕ → Place
place_of places hole = get_or places hole place.Text

-- nothing stands from here to there
abbrev pub StandsNothing : ℕ → ℕ → Type 0
StandsNothing at end = end ≡ at

module _ (places : List Place) (ops : List Op) where
  -- this op alone
  abbrev pub StandsOp : Op → ℕ → ℕ → Type 0
  StandsOp o at end = (slice_get ops at ≡ Some o) × (end ≡ at + 1)

  abbrev pub StandsText : List ℕ → ℕ → ℕ → Type 0
  StandsText [] at end = StandsNothing at end
  StandsText (c ∷ text) at end = StandsOp (StaticOp (c ∷ text)) at end

  -- a print, whose hole has this number
  abbrev pub StandsPrint : Expr → ℕ → ℕ → ℕ → Type 0
  StandsPrint e hole at end = StandsOp (PrintOp e (place_of places hole)) at end

  -- ---- translations

  -- the texts and prints of a tag, behind this text
  abbrev pub StandsTag : List ℕ → List MessageItem → ℕ → ℕ → ℕ → Type 0
  StandsTag text [] hole at end = StandsText text at end
  StandsTag text (Character c span ∷ rest) hole at end = StandsTag (text ++ (c ∷ [])) rest hole at end
  StandsTag text (Printed e phname span ∷ rest) hole at end =
      (print : ℕ) × (past : ℕ) × StandsText text at print × StandsPrint e hole print past
      × StandsTag [] rest (hole + 1) past end

  abbrev pub StandsCut : Option Cut → ℕ → ℕ → ℕ → Type 0
  StandsCut (Some (PrintCut e phname span)) hole at end = StandsPrint e hole at end
  StandsCut (Some (TagCut tag)) hole at end = StandsTag [] tag hole at end
  StandsCut _ hole at end = StandsNothing at end

  -- by the expression of a selector; where no selector has a name, nothing stands for its plural or select
  abbrev pub StandsSelected : Option Expr → (Expr → Type 0) → ℕ → ℕ → Type 0
  StandsSelected None Stands at end = StandsNothing at end
  StandsSelected (Some e) Stands at end = Stands e

  module _ (uses : List Use) where
    abbrev mutual
      -- a part whose first hole has this number
      pub StandsPart : MsgPart → ℕ → ℕ → ℕ → Type 0
      StandsPart (TextPart text) hole at end = StandsText text at end
      StandsPart (Placeholder name) hole at end = StandsCut (placeholder_cut name uses uses) hole at end
      StandsPart NumberPart hole at end = StandsOp (NumberOp (place_of places hole)) at end
      StandsPart (PluralPart ordinal name offset exact named) hole at end =
          StandsSelected (selector true name uses uses) (λ e. (numbers : List ExactBlock) × (categories : List
          NamedBlock)
          × StandsExact exact numbers hole at × StandsNamed named categories (hole + exact_holes uses exact) at
          × StandsOp (PluralOp e offset ordinal numbers categories) at end) at end
      StandsPart (SelectPart name arms) hole at end =
          StandsSelected (selector false name uses uses) (λ e. (words : List WordBlock)
          × StandsWords arms words hole at × StandsOp (SelectOp e words) at end) at end

      pub StandsParts : MsgParts → ℕ → ℕ → ℕ → Type 0
      StandsParts no_part hole at end = StandsNothing at end
      StandsParts (part p ps) hole at end =
          (past : ℕ) × StandsPart p hole at past × StandsParts ps (hole + part_holes uses p) past end

      -- arms, whose blocks end before a position
      pub StandsExact : ExactArms → List ExactBlock → ℕ → ℕ → Type 0
      StandsExact no_exact_arm [] hole before = Unit {0}
      StandsExact (exact_arm n ps arms) (b ∷ blocks) hole before =
          (b.is ≡ n) × (b.body.end ≤ before) × StandsParts ps hole b.body.first b.body.end
          × StandsExact arms blocks (hole + parts_holes uses ps) before
      StandsExact _ _ hole before = ⊥

      pub StandsNamed : NamedArms → List NamedBlock → ℕ → ℕ → Type 0
      StandsNamed no_named_arm [] hole before = Unit {0}
      StandsNamed (named_arm category ps arms) (b ∷ blocks) hole before =
          (b.category ≡ category) × (b.body.end ≤ before) × StandsParts ps hole b.body.first b.body.end
          × StandsNamed arms blocks (hole + parts_holes uses ps) before
      StandsNamed _ _ hole before = ⊥

      pub StandsWords : SelectArms → List WordBlock → ℕ → ℕ → Type 0
      StandsWords no_select_arm [] hole before = Unit {0}
      StandsWords (select_arm word ps arms) (b ∷ blocks) hole before =
          (b.is ≡ word) × (b.body.end ≤ before) × StandsParts ps hole b.body.first b.body.end
          × StandsWords arms blocks (hole + parts_holes uses ps) before
      StandsWords _ _ hole before = ⊥
