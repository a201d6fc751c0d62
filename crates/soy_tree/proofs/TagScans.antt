-- Reading a message's text a character at a time: it ends outside tags just where the text has cuts.
use Rattle.std.proofs.Common.{◌≡◌, ℕ, ◌&&◌, ◌||◌, ◌==◌, Bool, true, false, List, [], ◌∷◌, ◌++◌}
use Rattle.std.proofs.Common.{arith, refl, ap, sym, ◌∙◌}
use Rattle.std.specs.Prelude.{Option, Some, None, is_some, option_map, map}
use Rattle.std.proofs.lemmas.Bool.Decides.{nat_tests}
use Rattle.std.specs.Char.{is_ascii_alphabetic}
use Rattle.soy_base.specs.Characters.{less_than, greater_than, slash, double_quote, single_quote}
use Rattle.soy_base.specs.declared.fault.Span.{Span}
use Rattle.soy_tree.specs.declared.message_text.TagScan.{TagScan}
use Rattle.soy_tree.specs.declared.message_text.TagScan.TheVariants as scan
use Rattle.soy_tree.specs.Nodes.{Node, Nodes, TextNode, Print, no_node, node}
use Rattle.soy_tree.specs.MessageText.{MessageItem, Character, Printed, characters, message_items}
use Rattle.soy_tree.specs.MessageText.{joined_items, begins_with_letter, goes_on_as_tag, quote_after, ends_tag}
use Rattle.soy_tree.specs.MessageText.{cuts_after_text, cuts_in_tag, cuts_of}
use Rattle.soy_tree.specs.Formed.{is_message_text}
use Rattle.soy_tree.proofs.SameNames.{both}
use Rattle.soy_tree.proofs.ViewTexts.{view_text}
use Rattle.soy_tree.specs.TagScan.{after_plain, after_character, after_characters, after_print, is_outside}
use Rattle.soy_tree.specs.TagScan.{after_nodes}
use Rattle.soy_tree.specs.declared.node.Node as code
use Rattle.soy_tree.specs.ViewNodes.{nodes_of, view_node, view_nodes, text_node}

split : (P : Type 0) (t : Bool) → (t ≡ true → P) → (t ≡ false → P) → P
split P true f g = f refl
split P false f g = g refl

is_some-map : {A B : Type 0} (f : A → B) (o : Option A) → is_some (option_map f o) ≡ is_some o
is_some-map f None = refl
is_some-map f (Some a) = refl

-- whether the items that follow end outside tags
abbrev pub items_end : TagScan → List MessageItem → Bool
items_end last [] = is_outside last
items_end last (Printed e phname span ∷ rest) = items_end (after_print last) rest
items_end last (Character c span ∷ rest) = items_end (after_character last c) rest

-- letters begin nothing else
letter_in_tag : (c : ℕ) → is_ascii_alphabetic c ≡ true → after_character (scan.Inside None) c ≡ scan.Inside None
letter_in_tag c h =
    let e : (c == greater_than) ≡ false = grind (arith, nat_tests, h) in
    let q : (c == double_quote || c == single_quote) ≡ false = grind (arith, nat_tests, h) in
    rw (e, q) refl

slash_in_tag : (c : ℕ) → (c == slash) ≡ true → after_character (scan.Inside None) c ≡ scan.Inside None
slash_in_tag c h =
    let e : (c == greater_than) ≡ false = grind (arith, nat_tests, h) in
    let q : (c == double_quote || c == single_quote) ≡ false = grind (arith, nat_tests, h) in
    rw (e, q) refl

letter_after_less_than : (c : ℕ) → is_ascii_alphabetic c ≡ true
    → after_character scan.LessThan c ≡ scan.Inside None
letter_after_less_than c h = rw h refl

letter_after_slash : (c : ℕ) → is_ascii_alphabetic c ≡ true → after_character scan.Slash c ≡ scan.Inside None
letter_after_slash c h = rw h refl

slash_after_less_than : (c : ℕ) → is_ascii_alphabetic c ≡ false → (c == slash) ≡ true
    → after_character scan.LessThan c ≡ scan.Slash
slash_after_less_than c h k = rw (h, k) refl

other_after_less_than : (c : ℕ) → is_ascii_alphabetic c ≡ false → (c == slash) ≡ false
    → after_character scan.LessThan c ≡ after_plain c
other_after_less_than c h k = rw (h, k) refl

other_after_slash : (c : ℕ) → is_ascii_alphabetic c ≡ false → after_character scan.Slash c ≡ after_plain c
other_after_slash c h = rw h refl

slash_is_plain : (c : ℕ) → (c == slash) ≡ true → after_plain c ≡ scan.Outside
slash_is_plain c h = let e : (c == less_than) ≡ false = grind (arith, nat_tests, h) in rw e refl

less_than_begins : (c : ℕ) → (c == less_than) ≡ true → after_plain c ≡ scan.LessThan
less_than_begins c h = rw h refl

other_is_plain : (c : ℕ) → (c == less_than) ≡ false → after_plain c ≡ scan.Outside
other_is_plain c h = rw h refl

or_right : (a b : Bool) → a ≡ false → (a || b) ≡ true → b ≡ true
or_right true b e h = absurd (cc e)
or_right false b e h = h

or_neither : (a b : Bool) → (a || b) ≡ false → (a ≡ false) × (b ≡ false)
or_neither true b h = absurd (cc h)
or_neither false b h = (refl, h)

and_second : (a b : Bool) → a ≡ true → (a && b) ≡ false → b ≡ false
and_second true b e h = h
and_second false b e h = absurd (cc e)

-- what follows a state is that which follows an equal one
ends_alike : (s t : TagScan) (rest : List MessageItem) → s ≡ t → items_end s rest ≡ items_end t rest
ends_alike s t rest e = ap (λ x. items_end x rest) e

-- a letter after `</` is read as one in a tag
end_tag_goes_on : (rest : List MessageItem) → begins_with_letter rest ≡ true
    → items_end scan.Slash rest ≡ items_end (scan.Inside None) rest
end_tag_goes_on [] h = absurd (cc h)
end_tag_goes_on (Printed e phname span ∷ rest) h = absurd (cc h)
end_tag_goes_on (Character c span ∷ rest) h =
    ends_alike (after_character scan.Slash c) (after_character (scan.Inside None) c) rest
    (letter_after_slash c h ∙ sym (letter_in_tag c h))

-- where a tag begins after `<`, it is read as one
tag_goes_on : (rest : List MessageItem) → goes_on_as_tag rest ≡ true
    → items_end scan.LessThan rest ≡ items_end (scan.Inside None) rest
tag_goes_on [] h = absurd (cc h)
tag_goes_on (Printed e phname span ∷ rest) h = absurd (cc h)
tag_goes_on (Character c span ∷ rest) h =
    split _ (is_ascii_alphabetic c)
    (λ l. ends_alike (after_character scan.LessThan c) (after_character (scan.Inside None) c) rest
    (letter_after_less_than c l ∙ sym (letter_in_tag c l)))
    (λ l. let k = both (c == slash) (begins_with_letter rest)
    (or_right (is_ascii_alphabetic c) (c == slash && begins_with_letter rest) l h) in
    ends_alike (after_character scan.LessThan c) scan.Slash rest (slash_after_less_than c l k.0)
    ∙ (end_tag_goes_on rest k.1
    ∙ ends_alike (scan.Inside None) (after_character (scan.Inside None) c) rest (sym (slash_in_tag c k.0))))

-- what is no letter after `</` is read as text
slash_goes_on : (rest : List MessageItem) → begins_with_letter rest ≡ false
    → items_end scan.Slash rest ≡ items_end scan.Outside rest
slash_goes_on [] h = refl
slash_goes_on (Printed e phname span ∷ rest) h = refl
slash_goes_on (Character c span ∷ rest) h =
    ends_alike (after_character scan.Slash c) (after_plain c) rest (other_after_slash c h)

-- where no tag begins after `<`, text goes on
text_goes_on : (rest : List MessageItem) → goes_on_as_tag rest ≡ false
    → items_end scan.LessThan rest ≡ items_end scan.Outside rest
text_goes_on [] h = refl
text_goes_on (Printed e phname span ∷ rest) h = refl
text_goes_on (Character c span ∷ rest) h =
    let p = or_neither (is_ascii_alphabetic c) (c == slash && begins_with_letter rest) h in
    split _ (c == slash)
    (λ k. ends_alike (after_character scan.LessThan c) scan.Slash rest (slash_after_less_than c p.0 k)
    ∙ (slash_goes_on rest (and_second (c == slash) (begins_with_letter rest) k p.1)
    ∙ ends_alike scan.Outside (after_plain c) rest (sym (slash_is_plain c k))))
    (λ k. ends_alike (after_character scan.LessThan c) (after_plain c) rest (other_after_less_than c p.0 k))

plain_goes_on : (c : ℕ) (rest : List MessageItem) → (c == less_than && goes_on_as_tag rest) ≡ false
    → items_end (after_plain c) rest ≡ items_end scan.Outside rest
plain_goes_on c rest h =
    split _ (c == less_than)
    (λ k. ends_alike (after_plain c) scan.LessThan rest (less_than_begins c k)
    ∙ text_goes_on rest (and_second (c == less_than) (goes_on_as_tag rest) k h))
    (λ k. ends_alike (after_plain c) scan.Outside rest (other_is_plain c k))

mutual
  text_ends : (items text : List MessageItem) → is_some (cuts_after_text items text) ≡ items_end scan.Outside items
  text_ends [] text = refl
  text_ends (Printed e phname span ∷ rest) text = is_some-map _ (cuts_after_text rest []) ∙ text_ends rest []
  text_ends (Character c span ∷ rest) text =
      split _ (c == less_than && goes_on_as_tag rest)
      (λ h. let k = both (c == less_than) (goes_on_as_tag rest) h in
      rw h (is_some-map _ (cuts_in_tag rest None (Character c span ∷ []))
      ∙ (tag_ends rest None (Character c span ∷ []) ∙ (sym (tag_goes_on rest k.1)
      ∙ ends_alike scan.LessThan (after_plain c) rest (sym (less_than_begins c k.0))))))
      (λ h. rw h (text_ends rest (text ++ Character c span ∷ []) ∙ sym (plain_goes_on c rest h)))

  tag_ends : (items : List MessageItem) (quote : Option ℕ) (tag : List MessageItem)
      → is_some (cuts_in_tag items quote tag) ≡ items_end (scan.Inside quote) items
  tag_ends [] quote tag = refl
  tag_ends (Printed e phname span ∷ rest) quote tag = tag_ends rest quote (tag ++ Printed e phname span ∷ [])
  tag_ends (Character c span ∷ rest) quote tag =
      split _ (ends_tag quote c)
      (λ h. rw h (is_some-map _ (cuts_after_text rest []) ∙ text_ends rest []))
      (λ h. rw h (tag_ends rest (quote_after quote c) (tag ++ Character c span ∷ [])))

-- whether the items, if there are any, end outside tags
abbrev pub some_end : TagScan → Option (List MessageItem) → Bool
some_end last None = false
some_end last (Some items) = items_end last items

cuts_end : (o : Option (List MessageItem)) → is_some (cuts_of o) ≡ some_end scan.Outside o
cuts_end None = refl
cuts_end (Some items) = text_ends items []

-- whether texts and prints end outside tags
abbrev pub ends_outside : Option TagScan → Bool
ends_outside None = false
ends_outside (Some last) = is_outside last

characters_end : (text : List ℕ) (span : Span) (o : Option (List MessageItem)) (last : TagScan)
    → some_end last (joined_items (Some (characters text span)) o) ≡ some_end (after_characters last text) o
characters_end text span None last = refl
characters_end [] span (Some items) last = refl
characters_end (c ∷ cs) span (Some items) last = characters_end cs span (Some items) (after_character last c)

print_end : (item : MessageItem) (o : Option (List MessageItem)) (last next : TagScan)
    → ((rest : List MessageItem) → items_end last (item ∷ rest) ≡ items_end next rest)
    → some_end last (joined_items (Some (item ∷ [])) o) ≡ some_end next o
print_end item None last next goes = refl
print_end item (Some items) last next goes = goes items

items_end-nodes : (ns : Nodes) (last : TagScan)
    → some_end last (message_items ns) ≡ ends_outside (after_nodes last ns)
items_end-nodes no_node last = refl
items_end-nodes (node (TextNode text span) ns) last =
    characters_end text span (message_items ns) last ∙ items_end-nodes ns (after_characters last text)
items_end-nodes (node (Print e phname span) ns) last =
    print_end (Printed e phname span) (message_items ns) last (after_print last) (λ rest. refl)
    ∙ items_end-nodes ns (after_print last)
items_end-nodes (node _ ns) last = refl

-- nodes are a message's text where they are texts and prints and end outside tags
pub message_text_ends : (ns : Nodes) → is_message_text ns ≡ ends_outside (after_nodes scan.Outside ns)
message_text_ends ns = cuts_end (message_items ns) ∙ items_end-nodes ns scan.Outside

-- one more text
text_after : (ns : List Node) (text : List ℕ) (span : Span) (last : TagScan)
    → after_nodes last (nodes_of (ns ++ TextNode text span ∷ []))
    ≡ option_map (λ s. after_characters s text) (after_nodes last (nodes_of ns))
text_after [] text span last = refl
text_after (TextNode other at ∷ ns) text span last = text_after ns text span (after_characters last other)
text_after (Print e phname at ∷ ns) text span last = text_after ns text span (after_print last)
text_after (_ ∷ ns) text span last = refl

views_append : (ns : List code.Node) (n : code.Node)
    → map view_node (ns ++ n ∷ []) ≡ map view_node ns ++ view_node n ∷ []
views_append [] n = refl
views_append (m ∷ ns) n = ap (λ l. view_node m ∷ l) (views_append ns n)

pub message_text_with : (ns : List code.Node) (text : List ℕ) (span : Span)
    → is_message_text (view_nodes (ns ++ text_node text span ∷ []))
    ≡ ends_outside (option_map (λ s. after_characters s text) (after_nodes scan.Outside (view_nodes ns)))
message_text_with ns text span =
    message_text_ends (view_nodes (ns ++ text_node text span ∷ []))
    ∙ ap ends_outside (ap (λ ms. after_nodes scan.Outside (nodes_of ms))
    (views_append ns (text_node text span) ∙ ap (λ m. map view_node ns ++ m ∷ []) (view_text text span))
    ∙ text_after (map view_node ns) text span scan.Outside)
