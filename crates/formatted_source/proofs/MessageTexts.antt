-- Nodes that are alike are texts, prints and whole tags alike.
use Rattle.std.proofs.Common.{◌≡◌, ℕ, Bool, List, [], ◌∷◌, ◌++◌, map, Option, Some, None, refl, sym, ap, ◌∙◌}
use Rattle.std.proofs.Common.{true, false}
use Rattle.std.specs.Prelude.{is_some, option_map, ◌&&◌, ◌==◌, if◌then◌else◌}
use Rattle.std.proofs.lemmas.List.{map-append}
use Rattle.soy_base.specs.Characters.{less_than}
use Rattle.soy_base.specs.declared.fault.Span.{Span}
use Rattle.soy_tree.specs.Formed.{is_message_text}
use Rattle.soy_tree.specs.MessageText.{Character, MessageItem, Printed, begins_with_letter, characters}
use Rattle.soy_tree.specs.MessageText.{cuts_after_text, cuts_in_tag, cuts_of, ends_tag, goes_on_as_tag, joined_items}
use Rattle.soy_tree.specs.MessageText.{message_items, node_message_items, quote_after}
use Rattle.soy_tree.specs.Nodes.{Node, Nodes, TextNode, Print, If, Switch, For, Let, LetBlock, Call, MessageNode}
use Rattle.soy_tree.specs.Nodes.{no_node, node}
use Rattle.soy_format.specs.WithoutSpans.{expr_without_spans, no_span, node_without_spans, nodes_without_spans}

abbrev item_without_spans : MessageItem → MessageItem
item_without_spans (Character c span) = Character c no_span
item_without_spans (Printed e phname span) = Printed (expr_without_spans e) phname no_span

abbrev items_without_spans : List MessageItem → List MessageItem
items_without_spans = map item_without_spans

characters_same : (text : List ℕ) (span : Span)
    → characters text no_span ≡ items_without_spans (characters text span)
characters_same [] span = refl
characters_same (c ∷ cs) span = ap (λ items. Character c no_span ∷ items) (characters_same cs span)

node_items_same : (n : Node)
    → node_message_items (node_without_spans n) ≡ option_map items_without_spans (node_message_items n)
node_items_same (TextNode text span) = ap Some (characters_same text span)
node_items_same (Print e phname span) = refl
node_items_same (If arms other span) = refl
node_items_same (Switch e cases other span) = refl
node_items_same (For name index e body span) = refl
node_items_same (Let name e span) = refl
node_items_same (LetBlock name kind body span) = refl
node_items_same (Call name all given span) = refl
node_items_same (MessageNode m other span) = refl

joined_same : (a b : Option (List MessageItem))
    → joined_items (option_map items_without_spans a) (option_map items_without_spans b)
    ≡ option_map items_without_spans (joined_items a b)
joined_same (Some ps) (Some qs) = ap Some (sym (map-append item_without_spans ps qs))
joined_same (Some ps) None = refl
joined_same None (Some qs) = refl
joined_same None None = refl

items_same : (ns : Nodes)
    → message_items (nodes_without_spans ns) ≡ option_map items_without_spans (message_items ns)
items_same no_node = refl
items_same (node n ns) =
    rw (node_items_same n, items_same ns) (joined_same (node_message_items n) (message_items ns))

letter_same : (items : List MessageItem) → begins_with_letter (items_without_spans items) ≡ begins_with_letter items
letter_same [] = refl
letter_same (Character c span ∷ rest) = refl
letter_same (Printed e phname span ∷ rest) = refl

goes_on_same : (items : List MessageItem) → goes_on_as_tag (items_without_spans items) ≡ goes_on_as_tag items
goes_on_same [] = refl
goes_on_same (Character c span ∷ rest) = rw (letter_same rest) refl
goes_on_same (Printed e phname span ∷ rest) = refl

-- whether there are cuts, by whether there are those of a rest

mapped : {A B C D : Type 0} (f : A → B) (g : C → D) (x : Option A) (y : Option C) → is_some x ≡ is_some y
    → is_some (option_map f x) ≡ is_some (option_map g y)
mapped f g None None e = refl
mapped f g (Some a) (Some c) e = refl
mapped f g None (Some c) e = absurd (cc)
mapped f g (Some a) None e = absurd (cc)

chosen : {A B : Type 0} (t : Bool) (x y : Option A) (z w : Option B) → is_some x ≡ is_some z → is_some y ≡ is_some w
    → is_some (if t then x else y) ≡ is_some (if t then z else w)
chosen true x y z w one two = one
chosen false x y z w one two = two

mutual
  after_text_same : (items now text : List MessageItem)
      → is_some (cuts_after_text (items_without_spans items) now) ≡ is_some (cuts_after_text items text)
  after_text_same [] now text = refl
  after_text_same (Printed e phname span ∷ rest) now text =
      mapped _ _ (cuts_after_text (items_without_spans rest) []) (cuts_after_text rest []) (after_text_same rest [] [])
  after_text_same (Character c span ∷ rest) now text =
      rw (goes_on_same rest)
      (chosen (c == less_than && goes_on_as_tag rest) _ _ _ _
      (mapped _ _ (cuts_in_tag (items_without_spans rest) None (Character c no_span ∷ []))
      (cuts_in_tag rest None (Character c span ∷ []))
      (in_tag_same rest None (Character c no_span ∷ []) (Character c span ∷ [])))
      (after_text_same rest (now ++ (Character c no_span ∷ [])) (text ++ (Character c span ∷ []))))

  in_tag_same : (items : List MessageItem) (quote : Option ℕ) (now tag : List MessageItem)
      → is_some (cuts_in_tag (items_without_spans items) quote now) ≡ is_some (cuts_in_tag items quote tag)
  in_tag_same [] quote now tag = refl
  in_tag_same (Printed e phname span ∷ rest) quote now tag =
      in_tag_same rest quote (now ++ (Printed (expr_without_spans e) phname no_span ∷ []))
      (tag ++ (Printed e phname span ∷ []))
  in_tag_same (Character c span ∷ rest) quote now tag =
      chosen (ends_tag quote c) _ _ _ _
      (mapped _ _ (cuts_after_text (items_without_spans rest) []) (cuts_after_text rest []) (after_text_same rest [] []))
      (in_tag_same rest (quote_after quote c) (now ++ (Character c no_span ∷ [])) (tag ++ (Character c span ∷ [])))

cuts_same : (o : Option (List MessageItem)) → is_some (cuts_of (option_map items_without_spans o)) ≡ is_some (cuts_of o)
cuts_same None = refl
cuts_same (Some items) = after_text_same items [] []

own_same : (ns : Nodes) → is_message_text (nodes_without_spans ns) ≡ is_message_text ns
own_same ns = ap (λ o. is_some (cuts_of o)) (items_same ns) ∙ cuts_same (message_items ns)

-- **Nodes that are alike to a message's text are one.**
pub text_alike : (ns ms : Nodes) → nodes_without_spans ns ≡ nodes_without_spans ms → is_message_text ms ≡ true
    → is_message_text ns ≡ true
text_alike ns ms e h = sym (own_same ns) ∙ (ap is_message_text e ∙ (own_same ms ∙ h))
