-- What stands for nodes still stands where ops are added at the end.
use Rattle.std.proofs.Common.{◌≡◌, ℕ, zero, suc, ◌+◌, true, false, List, [], ◌∷◌, ◌++◌, Option, Some, None, slice_get}
use Rattle.soy_base.specs.declared.place.Place.{Place}
use Rattle.soy_tree.specs.Types.{Name}
use Rattle.soy_tree.specs.Expressions.{Expr}
use Rattle.soy_tree.specs.MessageParts.{MsgPart, MsgParts, ExactArms, NamedArms, SelectArms, TextPart, Placeholder}
use Rattle.soy_tree.specs.MessageParts.{NumberPart, PluralPart, SelectPart, no_part, part, no_exact_arm, exact_arm}
use Rattle.soy_tree.specs.MessageParts.{no_named_arm, named_arm, no_select_arm, select_arm}
use Rattle.soy_tree.specs.MessageText.{MessageItem, Character, Printed, Cut, PrintCut, TagCut, TextCut}
use Rattle.soy_tree.specs.Nodes.{Node, Nodes, Otherwise, Arms, Cases, Arguments, Given, Message, MessageBody}
use Rattle.soy_tree.specs.Nodes.{PluralCases, SelectCases, TextNode, Print, If, Switch, For, Let, LetBlock, Call}
use Rattle.soy_tree.specs.Nodes.{MessageNode, no_node, node, no_otherwise, otherwise, no_arm, arm, no_case, case}
use Rattle.soy_tree.specs.Nodes.{no_argument, argument, Plain, Block, message, Parts, Plural, Select, no_plural_case}
use Rattle.soy_tree.specs.Nodes.{plural_case, no_select_case, select_case}
use Rattle.soy_rules.specs.Placeholders.{Use}
use Rattle.soy_pieces.specs.Branch.{selector}
use Rattle.soy_pieces.specs.Pieces.{ChosenText, TheFallback, TheOwn, TheSource, chosen_text}
use Rattle.soy_rules.specs.Placeholders.{uses_of}
use Rattle.soy_rules.specs.Placeholders.{placeholder_cut}
use Rattle.template_ir.specs.Compiles.{CompileContext, with_more, StandsArms, StandsCases, StandsGiven}
use Rattle.template_ir.specs.Compiles.{StandsHanded, StandsMessage, StandsNode, StandsNodes, StandsOther}
use Rattle.template_ir.specs.Compiles.{StandsPluralCases, StandsSelectCases, StandsSource}
use Rattle.template_ir.specs.HoleCounts.{arm_holes, body_holes, case_holes, exact_holes, given_holes, node_holes}
use Rattle.template_ir.specs.HoleCounts.{nodes_holes, part_holes, parts_holes, plural_holes, select_holes, source_holes}
use Rattle.template_ir.specs.HoleCounts.{translation_holes}
use Rattle.template_ir.specs.Ops.{Branch, Choice, Handed, HandedBy, HandedBlock, HandedSame, HandedValue, Op}
use Rattle.template_ir.specs.Ops.{PluralOp, PrintOp, SelectOp}
use Rattle.template_ir.specs.StandFor.{StandsCut, StandsExact, StandsNamed, StandsOp, StandsPart, StandsParts}
use Rattle.template_ir.specs.StandFor.{StandsSelected, StandsTag, StandsText, StandsWords}
use Rattle.template_ir.specs.StandFor.{place_of}
use Rattle.template_ir.specs.declared.op.Block as ops_block
use Rattle.template_ir.specs.declared.op.ExactBlock.{ExactBlock}
use Rattle.template_ir.specs.declared.op.NamedBlock.{NamedBlock}
use Rattle.template_ir.specs.declared.op.WordBlock.{WordBlock}

pub get_more : {A : Type 0} (xs ys : List A) (i : ℕ) (x : A) → slice_get xs i ≡ Some x → slice_get (xs ++ ys) i ≡ Some x
get_more [] ys i x h = cc
get_more (z ∷ xs) ys zero x h = h
get_more (z ∷ xs) ys (suc i) x h = get_more xs ys i x h

module _ (places : List Place) (ops more : List Op) where
  pub op_stays : (o : Op) (at end : ℕ) → StandsOp places ops o at end → StandsOp places (ops ++ more) o at end
  op_stays o at end h = (get_more ops more at o h.0, h.1)

  text_stays : (text : List ℕ) (at end : ℕ) → StandsText places ops text at end
      → StandsText places (ops ++ more) text at end
  text_stays [] at end h = h
  text_stays (c ∷ text) at end h = op_stays _ at end h

  tag_stays : (text : List ℕ) (tag : List MessageItem) (hole at end : ℕ) → StandsTag places ops text tag hole at end
      → StandsTag places (ops ++ more) text tag hole at end
  tag_stays text [] hole at end h = text_stays text at end h
  tag_stays text (Character c span ∷ rest) hole at end h = tag_stays (text ++ (c ∷ [])) rest hole at end h
  tag_stays text (Printed e phname span ∷ rest) hole at end h = (
    h.0,
    h.1,
    text_stays text at h.0 h.2,
    op_stays (PrintOp e (place_of places hole)) h.0 h.1 h.3,
    tag_stays [] rest (hole + 1) h.1 end h.4,
  )

  cut_stays : (cut : Option Cut) (hole at end : ℕ) → StandsCut places ops cut hole at end
      → StandsCut places (ops ++ more) cut hole at end
  cut_stays None hole at end h = h
  cut_stays (Some (TextCut text)) hole at end h = h
  cut_stays (Some (PrintCut e phname span)) hole at end h = op_stays (PrintOp e (place_of places hole)) at end h
  cut_stays (Some (TagCut tag)) hole at end h = tag_stays [] tag hole at end h

  selected_stays : (chosen : Option Expr) (X Y : Expr → Type 0) (at end : ℕ) → ((e : Expr) → X e → Y e)
      → StandsSelected places ops chosen X at end → StandsSelected places (ops ++ more) chosen Y at end
  selected_stays None X Y at end f h = h
  selected_stays (Some e) X Y at end f h = f e h

  module _ (uses : List Use) where
    mutual
      part_stays : (p : MsgPart) (hole at end : ℕ) → StandsPart places ops uses p hole at end
          → StandsPart places (ops ++ more) uses p hole at end
      part_stays (TextPart text) hole at end h = text_stays text at end h
      part_stays (Placeholder name) hole at end h = cut_stays (placeholder_cut name uses uses) hole at end h
      part_stays NumberPart hole at end h = op_stays _ at end h
      part_stays (PluralPart ordinal name offset exact named) hole at end h =
          selected_stays (selector true name uses uses) _ _ at end
          (λ e k. (
            k.0,
            k.1,
            exact_stay exact k.0 hole at k.2,
            named_stay named k.1 (hole + exact_holes uses exact) at k.3,
            op_stays (PluralOp e offset ordinal k.0 k.1) at end k.4,
          )) h
      part_stays (SelectPart name arms) hole at end h =
          selected_stays (selector false name uses uses) _ _ at end
          (λ e k. (k.0, words_stay arms k.0 hole at k.1, op_stays (SelectOp e k.0) at end k.2)) h

      pub parts_stay : (ps : MsgParts) (hole at end : ℕ) → StandsParts places ops uses ps hole at end
          → StandsParts places (ops ++ more) uses ps hole at end
      parts_stay no_part hole at end h = h
      parts_stay (part p ps) hole at end h =
          (h.0, part_stays p hole at h.0 h.1, parts_stay ps (hole + part_holes uses p) h.0 end h.2)

      exact_stay : (arms : ExactArms) (blocks : List ExactBlock) (hole before : ℕ)
          → StandsExact places ops uses arms blocks hole before
          → StandsExact places (ops ++ more) uses arms blocks hole before
      exact_stay no_exact_arm [] hole before h = h
      exact_stay no_exact_arm (b ∷ blocks) hole before h = absurd h
      exact_stay (exact_arm n ps arms) [] hole before h = absurd h
      exact_stay (exact_arm n ps arms) (b ∷ blocks) hole before h = (
        h.0,
        h.1,
        parts_stay ps hole b.body.first b.body.end h.2,
        exact_stay arms blocks (hole + parts_holes uses ps) before h.3,
      )

      named_stay : (arms : NamedArms) (blocks : List NamedBlock) (hole before : ℕ)
          → StandsNamed places ops uses arms blocks hole before
          → StandsNamed places (ops ++ more) uses arms blocks hole before
      named_stay no_named_arm [] hole before h = h
      named_stay no_named_arm (b ∷ blocks) hole before h = absurd h
      named_stay (named_arm category ps arms) [] hole before h = absurd h
      named_stay (named_arm category ps arms) (b ∷ blocks) hole before h = (
        h.0,
        h.1,
        parts_stay ps hole b.body.first b.body.end h.2,
        named_stay arms blocks (hole + parts_holes uses ps) before h.3,
      )

      words_stay : (arms : SelectArms) (blocks : List WordBlock) (hole before : ℕ)
          → StandsWords places ops uses arms blocks hole before
          → StandsWords places (ops ++ more) uses arms blocks hole before
      words_stay no_select_arm [] hole before h = h
      words_stay no_select_arm (b ∷ blocks) hole before h = absurd h
      words_stay (select_arm word ps arms) [] hole before h = absurd h
      words_stay (select_arm word ps arms) (b ∷ blocks) hole before h = (
        h.0,
        h.1,
        parts_stay ps hole b.body.first b.body.end h.2,
        words_stay arms blocks (hole + parts_holes uses ps) before h.3,
      )

module _ (c : CompileContext) (more : List Op) where
  mutual
    pub node_stays : (n : Node) (hole at end : ℕ) → StandsNode c n hole at end
        → StandsNode (with_more c more) n hole at end
    node_stays (TextNode text span) hole at end h = text_stays c.places c.ops more text at end h
    node_stays (Print e phname span) hole at end h = op_stays c.places c.ops more _ at end h
    node_stays (If arms other span) hole at end h = (
      h.0,
      h.1,
      arms_stay arms h.0 hole at h.2,
      other_stays other h.1 (hole + arm_holes c.translation arms) at h.3,
      op_stays c.places c.ops more _ at end h.4,
    )
    node_stays (Switch e cases other span) hole at end h = (
      h.0,
      h.1,
      cases_stay cases h.0 hole at h.2,
      other_stays other h.1 (hole + case_holes c.translation cases) at h.3,
      op_stays c.places c.ops more _ at end h.4,
    )
    node_stays (For name index e body span) hole at end h =
        (h.0, h.1, nodes_stay body hole h.0.first h.0.end h.2, op_stays c.places c.ops more _ at end h.3)
    node_stays (Let name e span) hole at end h = op_stays c.places c.ops more _ at end h
    node_stays (LetBlock name kind body span) hole at end h =
        (h.0, h.1, nodes_stay body hole h.0.first h.0.end h.2, op_stays c.places c.ops more _ at end h.3)
    node_stays (Call name all given span) hole at end h =
        (h.0, given_stay given _ h.0 (hole + 1) at h.1, op_stays c.places c.ops more _ at end h.2)
    node_stays (MessageNode m other span) hole at end h =
        message_stays (chosen_text c.translation m other) m hole at end h

    pub nodes_stay : (ns : Nodes) (hole at end : ℕ) → StandsNodes c ns hole at end
        → StandsNodes (with_more c more) ns hole at end
    nodes_stay no_node hole at end h = h
    nodes_stay (node n ns) hole at end h =
        (h.0, node_stays n hole at h.0 h.1, nodes_stay ns (hole + node_holes c.translation n) h.0 end h.2)

    other_stays : (other : Otherwise) (b : Option ops_block.Block) (hole before : ℕ)
        → StandsOther c other b hole before → StandsOther (with_more c more) other b hole before
    other_stays no_otherwise None hole before h = h
    other_stays no_otherwise (Some b) hole before h = absurd h
    other_stays (otherwise body) None hole before h = absurd h
    other_stays (otherwise body) (Some b) hole before h = (h.0, nodes_stay body hole b.first b.end h.1)

    arms_stay : (arms : Arms) (branches : List Branch) (hole before : ℕ) → StandsArms c arms branches hole before
        → StandsArms (with_more c more) arms branches hole before
    arms_stay no_arm [] hole before h = h
    arms_stay no_arm (b ∷ branches) hole before h = absurd h
    arms_stay (arm e body arms) [] hole before h = absurd h
    arms_stay (arm e body arms) (b ∷ branches) hole before h = (
      h.0,
      h.1,
      nodes_stay body hole b.body.first b.body.end h.2,
      arms_stay arms branches (hole + nodes_holes c.translation body) before h.3,
    )

    cases_stay : (cases : Cases) (choices : List Choice) (hole before : ℕ) → StandsCases c cases choices hole before
        → StandsCases (with_more c more) cases choices hole before
    cases_stay no_case [] hole before h = h
    cases_stay no_case (b ∷ choices) hole before h = absurd h
    cases_stay (case values body cases) [] hole before h = absurd h
    cases_stay (case values body cases) (b ∷ choices) hole before h = (
      h.0,
      h.1,
      nodes_stay body hole b.body.first b.body.end h.2,
      cases_stay cases choices (hole + nodes_holes c.translation body) before h.3,
    )

    given_stay : (given : Arguments) (same : List Name) (handed : List Handed) (hole before : ℕ)
        → StandsGiven c given same handed hole before → StandsGiven (with_more c more) given same handed hole before
    given_stay no_argument same handed hole before h = h
    given_stay (argument name given span rest) same [] hole before h = absurd h
    given_stay (argument name given span rest) same (x ∷ handed) hole before h = (
      h.0,
      handed_stays given x.by hole before h.1,
      given_stay rest same handed (hole + given_holes c.translation given) before h.2,
    )

    handed_stays : (given : Given) (by : HandedBy) (hole before : ℕ) → StandsHanded c given by hole before
        → StandsHanded (with_more c more) given by hole before
    handed_stays (Plain e) (HandedValue d) hole before h = h
    handed_stays (Plain e) (HandedBlock of b) hole before h = absurd h
    handed_stays (Plain e) HandedSame hole before h = absurd h
    handed_stays (Block kind body) (HandedValue d) hole before h = absurd h
    handed_stays (Block kind body) (HandedBlock of b) hole before h =
        (h.0, h.1, nodes_stay body hole b.first b.end h.2)
    handed_stays (Block kind body) HandedSame hole before h = absurd h

    message_stays : (chosen : ChosenText) (m : Message) (hole at end : ℕ) → StandsMessage c chosen m hole at end
        → StandsMessage (with_more c more) chosen m hole at end
    message_stays TheSource (message desc meaning body span) hole at end h = source_stays body hole at end h
    message_stays (TheOwn parts) m hole at end h =
        parts_stay c.places c.ops more (uses_of m) parts (hole + source_holes c.translation m) at end h
    message_stays (TheFallback other parts) m hole at end h =
        parts_stay c.places c.ops more (uses_of other) parts
        (hole + (source_holes c.translation m + translation_holes c.translation m)) at end h

    source_stays : (body : MessageBody) (hole at end : ℕ) → StandsSource c body hole at end
        → StandsSource (with_more c more) body hole at end
    source_stays (Parts ns) hole at end h = nodes_stay ns hole at end h
    source_stays (Plural e offset cases other) hole at end h = (
      h.0,
      h.1,
      plural_cases_stay cases h.0 hole at h.2,
      h.3,
      source_stays other (hole + plural_holes c.translation cases) h.1.first h.1.end h.4,
      op_stays c.places c.ops more _ at end h.5,
    )
    source_stays (Select e cases other) hole at end h = (
      h.0,
      h.1,
      select_cases_stay cases h.0 hole at h.2,
      h.3,
      source_stays other (hole + select_holes c.translation cases) h.1.first h.1.end h.4,
      op_stays c.places c.ops more _ at end h.5,
    )

    plural_cases_stay : (cases : PluralCases) (blocks : List ExactBlock) (hole before : ℕ)
        → StandsPluralCases c cases blocks hole before
        → StandsPluralCases (with_more c more) cases blocks hole before
    plural_cases_stay no_plural_case [] hole before h = h
    plural_cases_stay no_plural_case (b ∷ blocks) hole before h = absurd h
    plural_cases_stay (plural_case n body cases) [] hole before h = absurd h
    plural_cases_stay (plural_case n body cases) (b ∷ blocks) hole before h = (
      h.0,
      h.1,
      source_stays body hole b.body.first b.body.end h.2,
      plural_cases_stay cases blocks (hole + body_holes c.translation body) before h.3,
    )

    select_cases_stay : (cases : SelectCases) (blocks : List WordBlock) (hole before : ℕ)
        → StandsSelectCases c cases blocks hole before
        → StandsSelectCases (with_more c more) cases blocks hole before
    select_cases_stay no_select_case [] hole before h = h
    select_cases_stay no_select_case (b ∷ blocks) hole before h = absurd h
    select_cases_stay (select_case word body cases) [] hole before h = absurd h
    select_cases_stay (select_case word body cases) (b ∷ blocks) hole before h = (
      h.0,
      h.1,
      source_stays body hole b.body.first b.body.end h.2,
      select_cases_stay cases blocks (hole + body_holes c.translation body) before h.3,
    )
