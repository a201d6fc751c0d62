-- A message's text without spans is cut as the text is.
use Rattle.std.proofs.Common.{◌≡◌, ℕ, Bool, true, false, List, [], ◌∷◌, ◌++◌, map, Option, Some, None, refl, sym, ap}
use Rattle.std.proofs.Common.{◌∙◌}
use Rattle.std.specs.Prelude.{option_map, ◌&&◌, ◌==◌, if◌then◌else◌}
use Rattle.std.proofs.lemmas.List.{map-append}
use Rattle.soy_base.specs.Characters.{less_than}
use Rattle.soy_base.specs.declared.fault.Span.{Span}
use Rattle.soy_tree.specs.MessageText.{Character, Cut, MessageItem, PrintCut, Printed, TagCut, TextCut}
use Rattle.soy_tree.specs.MessageText.{begins_with_letter, characters, cuts_after_text, cuts_in_tag, cuts_of, ends_tag}
use Rattle.soy_tree.specs.MessageText.{goes_on_as_tag, joined_items, message_items, node_message_items, quote_after}
use Rattle.soy_tree.specs.MessageText.{text_cut}
use Rattle.soy_tree.specs.Nodes.{Node, Nodes, TextNode, Print, If, Switch, For, Let, LetBlock, Call, MessageNode}
use Rattle.soy_tree.specs.Nodes.{no_node}
use Rattle.soy_tree.specs.Nodes.{node}
use Rattle.soy_format.specs.WithoutSpans.{expr_without_spans, no_span, node_without_spans, nodes_without_spans}

abbrev pub item_without_spans : MessageItem → MessageItem
item_without_spans (Character c span) = Character c no_span
item_without_spans (Printed e phname span) = Printed (expr_without_spans e) phname no_span

abbrev pub items_without_spans : List MessageItem → List MessageItem
items_without_spans = map item_without_spans

abbrev pub cut_without_spans : Cut → Cut
cut_without_spans (TextCut items) = TextCut (items_without_spans items)
cut_without_spans (PrintCut e phname span) = PrintCut (expr_without_spans e) phname no_span
cut_without_spans (TagCut items) = TagCut (items_without_spans items)

-- a function of the one or the other of two
pub either_same : {A : Type 0} (f : A → A) (b : Bool) (x y x' y' : A) → x' ≡ f x → y' ≡ f y
    → (if b then x' else y') ≡ f (if b then x else y)
either_same f true x y x' y' e h = e
either_same f false x y x' y' e h = h

-- ---- the items of nodes

characters_same : (text : List ℕ) (span : Span)
    → characters text no_span ≡ items_without_spans (characters text span)
characters_same [] span = refl
characters_same (c ∷ cs) span = ap (λ items. Character c no_span ∷ items) (characters_same cs span)

node_items_same : (n : Node)
    → node_message_items (node_without_spans n) ≡ option_map items_without_spans (node_message_items n)
node_items_same (TextNode text span) = ap Some (characters_same text span)
node_items_same (Print e phname span) = refl
node_items_same (If arms other span) = refl
node_items_same (Switch e cases other span) = refl
node_items_same (For name index e body span) = refl
node_items_same (Let name e span) = refl
node_items_same (LetBlock name kind body span) = refl
node_items_same (Call name all given span) = refl
node_items_same (MessageNode m other span) = refl

joined_same : (a b : Option (List MessageItem))
    → joined_items (option_map items_without_spans a) (option_map items_without_spans b)
    ≡ option_map items_without_spans (joined_items a b)
joined_same (Some ps) (Some qs) = ap Some (sym (map-append item_without_spans ps qs))
joined_same (Some ps) None = refl
joined_same None (Some qs) = refl
joined_same None None = refl

items_same : (ns : Nodes)
    → message_items (nodes_without_spans ns) ≡ option_map items_without_spans (message_items ns)
items_same no_node = refl
items_same (node n ns) =
    rw (node_items_same n, items_same ns) (joined_same (node_message_items n) (message_items ns))

-- ---- the cuts of items

letter_same : (items : List MessageItem) → begins_with_letter (items_without_spans items) ≡ begins_with_letter items
letter_same [] = refl
letter_same (Character c span ∷ rest) = refl
letter_same (Printed e phname span ∷ rest) = refl

goes_on_same : (items : List MessageItem) → goes_on_as_tag (items_without_spans items) ≡ goes_on_as_tag items
goes_on_same [] = refl
goes_on_same (Character c span ∷ rest) = rw (letter_same rest) refl
goes_on_same (Printed e phname span ∷ rest) = refl

text_cut_same : (items : List MessageItem)
    → text_cut (items_without_spans items) ≡ map cut_without_spans (text_cut items)
text_cut_same [] = refl
text_cut_same (p ∷ ps) = refl

-- cuts that are put before others
put_same : (h other : List Cut → List Cut) (o now : Option (List Cut)) → now ≡ option_map (map cut_without_spans) o
    → ((cuts : List Cut) → other (map cut_without_spans cuts) ≡ map cut_without_spans (h cuts))
    → option_map other now ≡ option_map (map cut_without_spans) (option_map h o)
put_same h other None now e same = rw e refl
put_same h other (Some cuts) now e same = rw e (ap Some (same cuts))

behind_text : (text : List MessageItem) (cuts : List Cut)
    → text_cut (items_without_spans text) ++ map cut_without_spans cuts ≡ map cut_without_spans (text_cut text ++ cuts)
behind_text text cuts = rw (text_cut_same text) (sym (map-append cut_without_spans (text_cut text) cuts))

-- one more item at the end
one_more : (items : List MessageItem) (item : MessageItem)
    → items_without_spans items ++ (item_without_spans item ∷ []) ≡ items_without_spans (items ++ (item ∷ []))
one_more items item = sym (map-append item_without_spans items (item ∷ []))

mutual
  after_text_same : (items text : List MessageItem)
      → cuts_after_text (items_without_spans items) (items_without_spans text)
      ≡ option_map (map cut_without_spans) (cuts_after_text items text)
  after_text_same [] text = ap Some (text_cut_same text)
  after_text_same (Printed e phname span ∷ rest) text =
      put_same (λ cuts. text_cut text ++ (PrintCut e phname span ∷ cuts)) _ (cuts_after_text rest [])
      (cuts_after_text (items_without_spans rest) []) (after_text_same rest [])
      (λ cuts. behind_text text (PrintCut e phname span ∷ cuts))
  after_text_same (Character c span ∷ rest) text =
      rw (goes_on_same rest)
      (either_same (option_map (map cut_without_spans)) (c == less_than && goes_on_as_tag rest) _
      (cuts_after_text rest (text ++ (Character c span ∷ []))) _ _
      (put_same (λ cuts. text_cut text ++ cuts) _ (cuts_in_tag rest None (Character c span ∷ []))
      (cuts_in_tag (items_without_spans rest) None (Character c no_span ∷ []))
      (in_tag_same rest None (Character c span ∷ [])) (λ cuts. behind_text text cuts))
      (ap (cuts_after_text (items_without_spans rest)) (one_more text (Character c span))
      ∙ after_text_same rest (text ++ (Character c span ∷ []))))

  in_tag_same : (items : List MessageItem) (quote : Option ℕ) (tag : List MessageItem)
      → cuts_in_tag (items_without_spans items) quote (items_without_spans tag)
      ≡ option_map (map cut_without_spans) (cuts_in_tag items quote tag)
  in_tag_same [] quote tag = refl
  in_tag_same (Printed e phname span ∷ rest) quote tag =
      ap (cuts_in_tag (items_without_spans rest) quote) (one_more tag (Printed e phname span))
      ∙ in_tag_same rest quote (tag ++ (Printed e phname span ∷ []))
  in_tag_same (Character c span ∷ rest) quote tag =
      either_same (option_map (map cut_without_spans)) (ends_tag quote c) _
      (cuts_in_tag rest (quote_after quote c) (tag ++ (Character c span ∷ []))) _ _
      (put_same (λ cuts. TagCut (tag ++ (Character c span ∷ [])) ∷ cuts) _ (cuts_after_text rest [])
      (cuts_after_text (items_without_spans rest) []) (after_text_same rest [])
      (λ cuts. ap (λ items. TagCut items ∷ map cut_without_spans cuts) (one_more tag (Character c span))))
      (ap (cuts_in_tag (items_without_spans rest) (quote_after quote c)) (one_more tag (Character c span))
      ∙ in_tag_same rest (quote_after quote c) (tag ++ (Character c span ∷ [])))

cuts_of_same : (o : Option (List MessageItem))
    → cuts_of (option_map items_without_spans o) ≡ option_map (map cut_without_spans) (cuts_of o)
cuts_of_same None = refl
cuts_of_same (Some items) = after_text_same items []

-- **the cuts of nodes**
pub cuts_same : (ns : Nodes)
    → cuts_of (message_items (nodes_without_spans ns)) ≡ option_map (map cut_without_spans) (cuts_of (message_items ns))
cuts_same ns = rw (items_same ns) (cuts_of_same (message_items ns))
