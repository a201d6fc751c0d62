-- A message's text cut into text, prints and tags.
-- A tag begins at `<` followed by a letter, or by `/` and a letter, and ends at the first `>` outside quotes. It holds
-- text and prints. Any `"` or `'` in its text opens a quote, which goes to the next one of its kind, also past prints.
-- Example: `a<b title="{$x}>">c` is the text `a`, a tag of text, a print and text, and the text `c`.
use Rattle.std.specs.Prelude.{ℕ, Bool, false, ◌&&◌, ◌||◌, ◌==◌, List, [], ◌∷◌, ◌++◌, Option, Some, None, option_map}
use Rattle.std.specs.Prelude.{if◌then◌else◌}
use Rattle.std.specs.Char.{is_ascii_alphabetic}
use Rattle.soy_base.specs.Characters.{less_than, greater_than, slash, double_quote, single_quote}
use Rattle.soy_base.specs.declared.fault.Span.{Span}
use Rattle.soy_tree.specs.Types.{Name}
use Rattle.soy_tree.specs.Expressions.{Expr}
use Rattle.soy_tree.specs.Nodes.{Node, Nodes, TextNode, Print, no_node, node}

-- a character, or a print with its `phname`; each with the span of its node
pub data MessageItem : Type 0 where
  Character : ℕ → Span → MessageItem
  Printed : Expr → Option Name → Span → MessageItem

pub data Cut : Type 0 where
  TextCut : List MessageItem → Cut
  PrintCut : Expr → Option Name → Span → Cut
  TagCut : List MessageItem → Cut

-- the characters and prints of nodes that are texts and prints alone
abbrev pub characters : List ℕ → Span → List MessageItem
characters [] span = []
characters (c ∷ cs) span = Character c span ∷ characters cs span

abbrev pub node_message_items : Node → Option (List MessageItem)
node_message_items (TextNode text span) = Some (characters text span)
node_message_items (Print e phname span) = Some (Printed e phname span ∷ [])
node_message_items _ = None

abbrev pub joined_items : Option (List MessageItem) → Option (List MessageItem) → Option (List MessageItem)
joined_items (Some ps) (Some qs) = Some (ps ++ qs)
joined_items _ _ = None

abbrev pub message_items : Nodes → Option (List MessageItem)
message_items no_node = Some []
message_items (node n ns) = joined_items (node_message_items n) (message_items ns)

abbrev pub begins_with_letter : List MessageItem → Bool
begins_with_letter (Character c span ∷ rest) = is_ascii_alphabetic c
begins_with_letter _ = false

-- whether a tag begins where these items follow a `<`
abbrev pub goes_on_as_tag : List MessageItem → Bool
goes_on_as_tag (Character c span ∷ rest) = is_ascii_alphabetic c || c == slash && begins_with_letter rest
goes_on_as_tag _ = false

abbrev pub text_cut : List MessageItem → List Cut
text_cut [] = []
text_cut (p ∷ ps) = TextCut (p ∷ ps) ∷ []

-- the quote that is open after a character
abbrev pub quote_after : Option ℕ → ℕ → Option ℕ
quote_after None c = if c == double_quote || c == single_quote then Some c else None
quote_after (Some quote) c = if c == quote then None else Some quote

abbrev pub ends_tag : Option ℕ → ℕ → Bool
ends_tag None c = c == greater_than
ends_tag (Some quote) c = false

abbrev mutual
  -- the cuts of what follows this text
  pub cuts_after_text : List MessageItem → List MessageItem → Option (List Cut)
  cuts_after_text [] text = Some (text_cut text)
  cuts_after_text (Printed e phname span ∷ rest) text =
      option_map (λ cuts. text_cut text ++ PrintCut e phname span ∷ cuts) (cuts_after_text rest [])
  cuts_after_text (Character c span ∷ rest) text =
      if c == less_than && goes_on_as_tag rest
      then option_map (λ cuts. text_cut text ++ cuts) (cuts_in_tag rest None (Character c span ∷ []))
      else cuts_after_text rest (text ++ Character c span ∷ [])

  -- the cuts of what follows the prefix of a tag, in which this quote is open; none where the tag has no end
  pub cuts_in_tag : List MessageItem → Option ℕ → List MessageItem → Option (List Cut)
  cuts_in_tag [] quote tag = None
  cuts_in_tag (Printed e phname span ∷ rest) quote tag = cuts_in_tag rest quote (tag ++ Printed e phname span ∷ [])
  cuts_in_tag (Character c span ∷ rest) quote tag =
      if ends_tag quote c
      then option_map (λ cuts. TagCut (tag ++ Character c span ∷ []) ∷ cuts) (cuts_after_text rest [])
      else cuts_in_tag rest (quote_after quote c) (tag ++ Character c span ∷ [])

-- the cuts of a list of items
abbrev pub cuts : List MessageItem → Option (List Cut)
cuts items = cuts_after_text items []

abbrev pub cuts_of : Option (List MessageItem) → Option (List Cut)
cuts_of None = None
cuts_of (Some items) = cuts items
