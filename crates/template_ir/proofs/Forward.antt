-- What stands for nodes ends at or behind the position where it begins.
use Rattle.std.proofs.Common.{◌≡◌, ◌+◌, ◌≤◌, ℕ, true, false, List, [], ◌∷◌, ◌++◌, Option, Some, None, arith}
use Rattle.soy_base.specs.declared.place.Place.{Place}
use Rattle.soy_tree.specs.Expressions.{Expr}
use Rattle.soy_tree.specs.MessageParts.{MsgPart, MsgParts, TextPart, Placeholder}
use Rattle.soy_tree.specs.MessageParts.{NumberPart, PluralPart, SelectPart, no_part, part}
use Rattle.soy_tree.specs.MessageText.{MessageItem, Character, Printed, Cut, PrintCut, TagCut, TextCut}
use Rattle.soy_tree.specs.Nodes.{Node, Nodes, Message, MessageBody, TextNode, Print, If, Switch, For, Let, LetBlock}
use Rattle.soy_tree.specs.Nodes.{Call}
use Rattle.soy_tree.specs.Nodes.{MessageNode, no_node, node, message, Parts, Plural, Select}
use Rattle.soy_rules.specs.Placeholders.{Use}
use Rattle.soy_pieces.specs.Branch.{selector}
use Rattle.soy_pieces.specs.Pieces.{ChosenText, TheFallback, TheOwn, TheSource, chosen_text}
use Rattle.soy_rules.specs.Placeholders.{uses_of}
use Rattle.soy_rules.specs.Placeholders.{placeholder_cut}
use Rattle.template_ir.specs.Compiles.{CompileContext, StandsMessage, StandsNode, StandsNodes, StandsSource}
use Rattle.template_ir.specs.HoleCounts.{node_holes, part_holes, source_holes, translation_holes}
use Rattle.template_ir.specs.Ops.{Op, PluralOp, SelectOp}
use Rattle.template_ir.specs.StandFor.{StandsCut, StandsOp, StandsPart, StandsParts, StandsSelected, StandsTag}
use Rattle.template_ir.specs.StandFor.{StandsText}

same_forward : (at end : ℕ) → end ≡ at → at ≤ end
same_forward at end h = omega (arith, h)

one_forward : (at end : ℕ) → end ≡ at + 1 → at ≤ end
one_forward at end h = omega (arith, h)

both_forward : (at past end : ℕ) → at ≤ past → past ≤ end → at ≤ end
both_forward at past end h k = omega (arith, h, k)

module _ (places : List Place) (ops : List Op) where
  pub op_forward : (o : Op) (at end : ℕ) → StandsOp places ops o at end → at ≤ end
  op_forward o at end h = one_forward at end h.1

  pub text_forward : (text : List ℕ) (at end : ℕ) → StandsText places ops text at end → at ≤ end
  text_forward [] at end h = same_forward at end h
  text_forward (c ∷ text) at end h = one_forward at end h.1

  pub tag_forward : (text : List ℕ) (tag : List MessageItem) (hole at end : ℕ)
      → StandsTag places ops text tag hole at end → at ≤ end
  tag_forward text [] hole at end h = text_forward text at end h
  tag_forward text (Character c span ∷ rest) hole at end h = tag_forward (text ++ (c ∷ [])) rest hole at end h
  tag_forward text (Printed e phname span ∷ rest) hole at end h =
      both_forward at h.0 end (text_forward text at h.0 h.2)
      (both_forward h.0 h.1 end (op_forward _ h.0 h.1 h.3) (tag_forward [] rest (hole + 1) h.1 end h.4))

  pub cut_forward : (cut : Option Cut) (hole at end : ℕ) → StandsCut places ops cut hole at end → at ≤ end
  cut_forward None hole at end h = same_forward at end h
  cut_forward (Some (TextCut text)) hole at end h = same_forward at end h
  cut_forward (Some (PrintCut e phname span)) hole at end h = op_forward _ at end h
  cut_forward (Some (TagCut tag)) hole at end h = tag_forward [] tag hole at end h

  module _ (uses : List Use) where
    selected_forward : (chosen : Option Expr) (X : Expr → Type 0) (at end : ℕ) → ((e : Expr) → X e → at ≤ end)
        → StandsSelected places ops chosen X at end → at ≤ end
    selected_forward None X at end f h = same_forward at end h
    selected_forward (Some e) X at end f h = f e h

    part_forward : (p : MsgPart) (hole at end : ℕ) → StandsPart places ops uses p hole at end → at ≤ end
    part_forward (TextPart text) hole at end h = text_forward text at end h
    part_forward (Placeholder name) hole at end h = cut_forward (placeholder_cut name uses uses) hole at end h
    part_forward NumberPart hole at end h = op_forward _ at end h
    part_forward (PluralPart ordinal name offset exact named) hole at end h =
        selected_forward (selector true name uses uses) _ at end
        (λ e k. op_forward (PluralOp e offset ordinal k.0 k.1) at end k.4) h
    part_forward (SelectPart name arms) hole at end h =
        selected_forward (selector false name uses uses) _ at end (λ e k. op_forward (SelectOp e k.0) at end k.2) h

    pub parts_forward : (ps : MsgParts) (hole at end : ℕ) → StandsParts places ops uses ps hole at end → at ≤ end
    parts_forward no_part hole at end h = same_forward at end h
    parts_forward (part p ps) hole at end h =
        both_forward at h.0 end (part_forward p hole at h.0 h.1)
        (parts_forward ps (hole + part_holes uses p) h.0 end h.2)

module _ (c : CompileContext) where
  mutual
    pub node_forward : (n : Node) (hole at end : ℕ) → StandsNode c n hole at end → at ≤ end
    node_forward (TextNode text span) hole at end h = text_forward c.places c.ops text at end h
    node_forward (Print e phname span) hole at end h = op_forward c.places c.ops _ at end h
    node_forward (If arms other span) hole at end h = op_forward c.places c.ops _ at end h.4
    node_forward (Switch e cases other span) hole at end h = op_forward c.places c.ops _ at end h.4
    node_forward (For name index e body span) hole at end h = op_forward c.places c.ops _ at end h.3
    node_forward (Let name e span) hole at end h = op_forward c.places c.ops _ at end h
    node_forward (LetBlock name kind body span) hole at end h = op_forward c.places c.ops _ at end h.3
    node_forward (Call name all given span) hole at end h = op_forward c.places c.ops _ at end h.2
    node_forward (MessageNode m other span) hole at end h =
        message_forward (chosen_text c.translation m other) m hole at end h

    pub nodes_forward : (ns : Nodes) (hole at end : ℕ) → StandsNodes c ns hole at end → at ≤ end
    nodes_forward no_node hole at end h = same_forward at end h
    nodes_forward (node n ns) hole at end h =
        both_forward at h.0 end (node_forward n hole at h.0 h.1)
        (nodes_forward ns (hole + node_holes c.translation n) h.0 end h.2)

    message_forward : (chosen : ChosenText) (m : Message) (hole at end : ℕ)
        → StandsMessage c chosen m hole at end → at ≤ end
    message_forward TheSource (message desc meaning body span) hole at end h = source_forward body hole at end h
    message_forward (TheOwn parts) m hole at end h =
        parts_forward c.places c.ops (uses_of m) parts (hole + source_holes c.translation m) at end h
    message_forward (TheFallback other parts) m hole at end h =
        parts_forward c.places c.ops (uses_of other) parts
        (hole + (source_holes c.translation m + translation_holes c.translation m)) at end h

    pub source_forward : (body : MessageBody) (hole at end : ℕ) → StandsSource c body hole at end → at ≤ end
    source_forward (Parts ns) hole at end h = nodes_forward ns hole at end h
    source_forward (Plural e offset cases other) hole at end h = op_forward c.places c.ops _ at end h.5
    source_forward (Select e cases other) hole at end h = op_forward c.places c.ops _ at end h.5
