-- Rows: the cuts of a message's text, and what is formed.
use Rattle.std.proofs.Common.{◌≡◌, ℕ, zero, suc, List, [], ◌∷◌, true, false}
use Rattle.std.specs.Prelude.{codes, pos, negsuc, Option, Some, None, ◌++◌}
use mathlib.Core.Path.{refl}
use Rattle.soy_tree.specs.Types.{NullType, IntType, ListType}
use Rattle.soy_base.specs.Limits.{largest}
use Rattle.soy_tree.specs.Expressions.{IntLiteral}
use Rattle.soy_tree.specs.Nodes.{Node, Nodes, MessageBody, TextNode, Print, Let, MessageNode, message, no_fallback}
use Rattle.soy_tree.specs.Nodes.{Parts, Plural, Select, no_plural_case, plural_case, no_select_case, select_case}
use Rattle.soy_tree.specs.Nodes.{no_node, node}
use Rattle.soy_tree.specs.MessageText.{MessageItem, Printed, Cut, TextCut, PrintCut, TagCut}
use Rattle.soy_tree.specs.MessageText.{characters, message_items, cuts_of}
use Rattle.soy_tree.specs.Formed.{is_formed_node, is_formed_type, is_formed_expr}
use Rattle.soy_rules.proofs.Rows.{at, a, var, int, union, alone}

abbrev written : List ℕ → Nodes → Nodes
written text ns = node (TextNode text (at 0)) ns

abbrev printed : Nodes → Nodes
printed ns = node (Print (var a 0) None (at 0)) ns

abbrev cuts : Nodes → Option (List Cut)
cuts ns = cuts_of (message_items ns)

abbrev chars : List ℕ → List MessageItem
chars text = characters text (at 0)

abbrev print_item : MessageItem
print_item = Printed (var a 0) None (at 0)

-- a<b title="{$a}>">c
tag_with_a_print :
    cuts (written (codes "a<b title='") (printed (written (codes ">'>c") no_node)))
    ≡ Some
    (TextCut (chars (codes "a")) ∷ TagCut (chars (codes "<b title='") ++ print_item ∷ chars (codes ">'>"))
    ∷ TextCut (chars (codes "c")) ∷ [])
tag_with_a_print = refl

no_tag : cuts (written (codes "1 < 2") no_node) ≡ Some (TextCut (chars (codes "1 < 2")) ∷ [])
no_tag = refl

print_alone : cuts (printed no_node) ≡ Some (PrintCut (var a 0) None (at 0) ∷ [])
print_alone = refl

tag_without_its_end : cuts (written (codes "a<b") no_node) ≡ None
tag_without_its_end = refl

quote_without_its_end : cuts (written (codes "<b '>") no_node) ≡ None
quote_without_its_end = refl

-- messages
abbrev says : MessageBody → Node
says body = MessageNode (message [] [] body (at 0)) no_fallback (at 0)

formed_message : is_formed_node (says (Parts (written (codes "a<b>") (printed no_node)))) ≡ true
formed_message = refl

open_tag : is_formed_node (says (Parts (written (codes "a<b") no_node))) ≡ false
open_tag = refl

neighbouring_texts : is_formed_node (says (Parts (written (codes "a") (written (codes "b") no_node)))) ≡ false
neighbouring_texts = refl

command_in_a_message : is_formed_node (says (Parts (node (Let a (int 1 0) (at 0)) no_node))) ≡ false
command_in_a_message = refl

case_of_other :
    is_formed_node
    (says (Select (var a 0) (select_case (codes "other") (Parts no_node) no_select_case) (Parts no_node)))
    ≡ false
case_of_other = refl

offset_beyond : is_formed_node (says (Plural (var a 0) (suc largest) no_plural_case (Parts no_node))) ≡ false
offset_beyond = refl

negative_case :
    is_formed_node (says (Plural (var a 0) 0 (plural_case (negsuc 0) (Parts no_node) no_plural_case) (Parts no_node)))
    ≡ false
negative_case = refl

-- so many plurals in one another
abbrev plurals : ℕ → MessageBody
plurals zero = Parts no_node
plurals (suc m) = Plural (var a 0) 0 no_plural_case (plurals m)

nested : is_formed_node (says (plurals 63)) ≡ true
nested = refl

nested_too_deep : is_formed_node (says (plurals 64)) ≡ false
nested_too_deep = refl

-- types and expressions
union_in_a_union : is_formed_type (alone (union IntType NullType)) ≡ false
union_in_a_union = refl

union_in_a_list : is_formed_type (alone (ListType (union IntType NullType))) ≡ true
union_in_a_list = refl

int_beyond : is_formed_expr (IntLiteral (pos (suc largest)) (at 0)) ≡ false
int_beyond = refl

no_name : is_formed_expr (var (codes "2a") 0) ≡ false
no_name = refl
