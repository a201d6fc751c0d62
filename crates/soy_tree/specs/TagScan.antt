-- What was read last of a message's text, a character or print at a time, as far as it decides whether its tags end.
-- Example: after `a<b title="` a tag goes on, in which a `"` is open; after `a<1` no tag does.
use Rattle.std.specs.Prelude.{ℕ, Bool, true, false, ◌||◌, ◌==◌, List, [], ◌∷◌, Option, Some, None}
use Rattle.std.specs.Prelude.{if◌then◌else◌}
use Rattle.std.specs.Char.{is_ascii_alphabetic}
use Rattle.soy_base.specs.Characters.{less_than, slash}
use Rattle.soy_tree.specs.declared.message_text.TagScan.{TagScan}
use Rattle.soy_tree.specs.declared.message_text.TagScan.TheVariants as scan
use Rattle.soy_tree.specs.Nodes.{Nodes, TextNode, Print, no_node, node}
use Rattle.soy_tree.specs.MessageText.{quote_after, ends_tag}

-- after a character outside tags that goes on with no `<`
abbrev pub after_plain : ℕ → TagScan
after_plain c = if c == less_than then scan.LessThan else scan.Outside

abbrev pub after_character : TagScan → ℕ → TagScan
after_character scan.Outside c = after_plain c
after_character scan.LessThan c =
    if is_ascii_alphabetic c then scan.Inside None else (if c == slash then scan.Slash else after_plain c)
after_character scan.Slash c = if is_ascii_alphabetic c then scan.Inside None else after_plain c
after_character (scan.Inside quote) c = if ends_tag quote c then scan.Outside else scan.Inside (quote_after quote c)

abbrev pub after_print : TagScan → TagScan
after_print (scan.Inside quote) = scan.Inside quote
after_print _ = scan.Outside

abbrev pub after_characters : TagScan → List ℕ → TagScan
after_characters last [] = last
after_characters last (c ∷ cs) = after_characters (after_character last c) cs

abbrev pub is_outside : TagScan → Bool
is_outside (scan.Inside quote) = false
is_outside _ = true

-- after nodes; none where one is neither a text nor a print
abbrev pub after_nodes : TagScan → Nodes → Option TagScan
after_nodes last no_node = Some last
after_nodes last (node (TextNode text span) ns) = after_nodes (after_characters last text) ns
after_nodes last (node (Print e phname span) ns) = after_nodes (after_print last) ns
after_nodes last (node _ ns) = None
