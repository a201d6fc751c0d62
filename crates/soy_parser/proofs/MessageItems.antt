-- The texts and prints of a message have items, and with some further text they are a message.
use Rattle.std.proofs.Common.{◌≡◌, ℕ, true, List, [], ◌∷◌, ◌++◌, Option, Some, None, refl, sym}
use Rattle.std.proofs.Common.{◌∙◌, ap, subst, append_assoc, append-nil}
use Rattle.std.specs.Prelude.{is_some}
use Rattle.soy_base.specs.declared.fault.Span.{Span}
use Rattle.soy_tree.specs.Formed.{is_message_text}
use Rattle.soy_tree.specs.MessageText.{MessageItem, characters, node_message_items, joined_items, message_items, cuts}
use Rattle.soy_tree.specs.MessageText.{cuts_of}
use Rattle.soy_tree.specs.MessageText.MessageItem.{Character, Printed}
use Rattle.soy_tree.specs.ViewExpressions.{view_expr}
use Rattle.soy_tree.specs.ViewNodes.{view_node, view_nodes}
use Rattle.soy_tree.specs.declared.node.Form.TheVariants as form
use Rattle.soy_tree.specs.declared.node.Node as code
use Rattle.soy_parser.specs.declared.block.TextRun.{TextRun}
use Rattle.soy_parser.specs.declared.command.Command.{Command}
use Rattle.soy_parser.specs.CommandSteps.{with_text, has_whole_tags}
use Rattle.soy_parser.specs.Nodes.{node_of, text_span}
use Rattle.soy_parser.specs.SpellsTree.{SpellsPrints, SpellsParts}
use Rattle.soy_parser.proofs.ClosingText.{closer, closed_by}
use Rattle.soy_parser.proofs.OfCommands.CommandsSound.{PartsAt_run}
use Rattle.soy_parser.proofs.NodeViews.{view_text, view_print}

-- items of a list of nodes

joined_none : (o : Option (List MessageItem)) → joined_items o (Some []) ≡ joined_items (Some []) o
joined_none None = refl
joined_none (Some ps) = ap Some (append-nil ps)

joined_assoc : (a b c : Option (List MessageItem)) → joined_items a (joined_items b c)
    ≡ joined_items (joined_items a b) c
joined_assoc None b c = refl
joined_assoc (Some ps) None c = refl
joined_assoc (Some ps) (Some qs) None = refl
joined_assoc (Some ps) (Some qs) (Some rs) = ap Some (sym (append_assoc ps qs rs))

items_append : (xs : List code.Node) (n : code.Node) → message_items (view_nodes (xs ++ (n ∷ []))) ≡
    joined_items (message_items (view_nodes xs)) (node_message_items (view_node n))
items_append [] n = joined_none (node_message_items (view_node n))
items_append (x ∷ xs) n =
    ap (joined_items (node_message_items (view_node x))) (items_append xs n)
    ∙ joined_assoc (node_message_items (view_node x)) (message_items (view_nodes xs)) (node_message_items (view_node n))

abbrev HasItems : List code.Node → Type 0
HasItems ns = (ps : List MessageItem) × (message_items (view_nodes ns) ≡ Some ps)

more_items : (ns : List code.Node) (n : code.Node) (qs : List MessageItem) → HasItems ns →
    node_message_items (view_node n) ≡ Some qs → HasItems (ns ++ (n ∷ []))
more_items ns n qs h e = (
  h.0 ++ qs,
  items_append ns n ∙ (ap (λ o. joined_items o (node_message_items (view_node n))) h.1
      ∙ ap (joined_items (Some h.0)) e),
)

mutual
  prints_items : (cs : List Command) (ls : List ℕ) (ns : List code.Node) → SpellsPrints cs ls ns → HasItems ns
  prints_items _ _ _ SpellsPrints.none_ = ([], refl)
  prints_items _ _ _ (SpellsPrints.print_ cs ls ns c e phname s h) =
      more_items ns (node_of (form.Print e phname) c.span) (Printed (view_expr e) phname c.span ∷ [])
      (parts_items cs ls ns s)
      (ap node_message_items (view_print e phname c.span))

  parts_items : (cs : List Command) (ls : List ℕ) (ns : List code.Node) → SpellsParts cs ls ns → HasItems ns
  parts_items _ _ _ (SpellsParts.plain_ cs ls ns s) = prints_items cs ls ns s
  parts_items _ _ _ (SpellsParts.text_ cs ds ls ms ns text span s t) =
      more_items ns (node_of (form.Text text) span) (characters text span) (prints_items cs ls ns s)
      (ap node_message_items (view_text text span))

characters_append : (t u : List ℕ) (s : Span) → characters (t ++ u) s ≡ characters t s ++ characters u s
characters_append [] u s = refl
characters_append (c ∷ t) u s = ap (λ l. Character c s ∷ l) (characters_append t u s)

span_same : (text : List ℕ) (o : Option ℕ) (a b : Span) → text_span text (closer o) a b ≡ text_span text (62 ∷ []) a b
span_same [] None a b = refl
span_same [] (Some q) a b = refl
span_same (c ∷ text) None a b = refl
span_same (c ∷ text) (Some q) a b = refl

-- a last text ends a message
text_ends : (ns : List code.Node) (ps : List MessageItem) (text : List ℕ) (s : Span) →
    message_items (view_nodes ns) ≡ Some ps → is_some (cuts (ps ++ characters text s)) ≡ true →
    is_message_text (view_nodes (ns ++ (node_of (form.Text text) s ∷ []))) ≡ true
text_ends ns ps text s e h =
    ap (λ o. is_some (cuts_of o))
    (items_append ns (node_of (form.Text text) s)
    ∙ (ap (λ o. joined_items o (node_message_items (view_node (node_of (form.Text text) s)))) e
    ∙ ap (λ n. joined_items (Some ps) (node_message_items n)) (view_text text s)))
    ∙ h

-- some further text
pub record HasEnd (items : List code.Node) (run : Option TextRun) (span : Span) : Type 0 where
  pub text : List ℕ
  pub whole : has_whole_tags (with_text (record { items = items; run = run }) text span) ≡ true

pub parts_end : (ys : List Command) (items : List code.Node) (run : Option TextRun) (span : Span) →
    PartsAt_run ys items run → HasEnd items run span
parts_end ys items None span p =
    let i = prints_items ys p.0 items p.1 in
    let k = closed_by i.0 span in
    record { text = closer k.quote; whole = text_ends items i.0 (closer k.quote) span i.1 k.is_closed.closed }
parts_end ys items (Some r) span p =
    let i = prints_items p.prefix p.nodes.0 items p.nodes.1 in
    let at : Span = text_span r.text (62 ∷ []) r.span span in
    let k = closed_by (i.0 ++ characters r.text at) at in
    record {
      text = closer k.quote;
      whole = subst
          (λ s. is_message_text (view_nodes (items ++ (node_of (form.Text (r.text ++ closer k.quote)) s ∷ []))) ≡ true)
          (sym (span_same r.text k.quote r.span span))
          (text_ends items i.0 (r.text ++ closer k.quote) at i.1
          (ap (λ l. is_some (cuts l))
          (ap (λ l. i.0 ++ l) (characters_append r.text (closer k.quote) at)
          ∙ sym (append_assoc i.0 (characters r.text at) (characters (closer k.quote) at)))
          ∙ k.is_closed.closed));
    }
