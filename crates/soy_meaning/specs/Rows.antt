-- Worked rows: the walk over small templates, which the checker computes.
--
-- A row is the body of a template of kind html, with the offsets in the body, whose closing command is at offset 100.
-- Example: `<b` ends in the name of a tag, and is refused with 13 at the closing command.
use Rattle.std.specs.Prelude.{ℕ, pos, ◌+◌, false, List, [], ◌∷◌, Option, Some, None, Result, map}
use Rattle.std.specs.Prelude.{if◌then◌else◌, bytes_eq, codes}
use Rattle.soy_base.specs.declared.kind.Kind.TheVariants as kind
use Rattle.soy_base.specs.Characters.{less_than}
use Rattle.plural_rules.specs.declared.category.Category.TheVariants as category
use Rattle.html_state.specs.declared.row.State.{State}
use Rattle.soy_tree.specs.Types.{Name, SoyType, AttributesType, BoolType, IntType, ListType, NullType, StringType}
use Rattle.soy_tree.specs.Types.{UnionType, member, no_member}
use Rattle.soy_tree.specs.Expressions.{IntLiteral}
use Rattle.soy_tree.specs.Nodes.{Node, Cases, Message, MessageBody, If, Switch, For, LetBlock}
use Rattle.soy_tree.specs.Nodes.{Call, MessageNode, no_node, node, no_otherwise, no_arm, arm, no_case, case, message}
use Rattle.soy_tree.specs.Nodes.{no_fallback, fallback, no_argument, argument, Block, Parts, Plural, no_plural_case}
use Rattle.soy_tree.specs.Nodes.{plural_case}
use Rattle.soy_tree.specs.MessageParts.{MsgParts, NumberPart, Placeholder, PluralPart, TextPart, named_arm}
use Rattle.soy_tree.specs.MessageParts.{no_exact_arm, no_named_arm, no_part, part}
use Rattle.soy_tree.specs.Trees.{Template, Tree}
use Rattle.soy_meaning.specs.Walks.AcceptedTrees.{walk_trees}
use Rattle.soy_meaning.specs.Walks.Walk.{Walked, WalkFault}
use Rattle.soy_pieces.specs.RowTrees.{all_nodes, print_node, row_param, span_at, span_between, text_node, variable}

-- the walk over one template with these parameters and this body, where messages have these translations
abbrev pub walked_row : (Message → Option MsgParts) → List (Name × SoyType) → List Node →
    Result (Walked State) WalkFault
walked_row translation params body =
    let template : Template = record {
      name = codes "m";
      kind = kind.Html;
      private = false;
      params = map row_param params;
      body = all_nodes body;
      span = span_at 0;
    } in
    let tree : Tree = record { namespace = codes "t"; templates = template ∷ [] } in
    walk_trees translation (tree ∷ [])

abbrev pub row_params : List (Name × SoyType)
row_params =
    (codes "a", StringType) ∷ (codes "b", StringType) ∷ (codes "x", BoolType) ∷ (codes "n", IntType)
    ∷ (codes "l", ListType StringType) ∷ []

-- the same where each message has this translation
abbrev pub translated_row : MsgParts → List Node → Result (Walked State) WalkFault
translated_row translation body = walked_row (λ m. Some translation) row_params body

-- `{if $x}`, a text, `{/if}`
abbrev pub if_node : ℕ → ℕ → List ℕ → Node
if_node at text_at text =
    If (arm (variable (at + 4) (codes "x")) (node (text_node text_at text) no_node) no_arm) no_otherwise (span_at at)

-- `<a href="{$a}{$b}">L</a>`
abbrev pub second_uri_value : Result (Walked State) WalkFault
second_uri_value = walked_row (λ m. None) row_params
    (text_node 0 (codes "<a href=\"") ∷ print_node 9 (codes "a") ∷ print_node 13 (codes "b")
    ∷ text_node 17 (codes "\">L</a>") ∷ [])

-- `<a {if $x}href="{/if}{$a}">L</a>`
abbrev pub mixed_places : Result (Walked State) WalkFault
mixed_places = walked_row (λ m. None) row_params
    (text_node 0 (codes "<a ") ∷ if_node 3 10 (codes "href=\"") ∷ print_node 21 (codes "a")
    ∷ text_node 25 (codes "\">L</a>") ∷ [])

-- `<input {if $x}disabled{/if}>`
abbrev pub optional_attribute : Result (Walked State) WalkFault
optional_attribute = walked_row (λ m. None) row_params
    (text_node 0 (codes "<input ") ∷ if_node 7 14 (codes "disabled") ∷ text_node 27 (codes ">") ∷ [])

-- `<a href="{for $s in $l}{$s}{/for}">L</a>`
abbrev pub second_turn : Result (Walked State) WalkFault
second_turn = walked_row (λ m. None) row_params
    (text_node 0 (codes "<a href=\"")
    ∷ For (codes "s") None (variable 20 (codes "l")) (node (print_node 23 (codes "s")) no_node) (span_at 9)
    ∷ text_node 33 (codes "\">L</a>") ∷ [])

-- `<a href="{let $c kind="html"}<i>x</i>{/let}{$a}">L</a>`
abbrev pub block_in_attribute : Result (Walked State) WalkFault
block_in_attribute = walked_row (λ m. None) row_params
    (text_node 0 (codes "<a href=\"")
    ∷ LetBlock (codes "c") kind.Html (node (text_node 29 (codes "<i>x</i>")) no_node) (span_between 9 37)
    ∷ print_node 43 (codes "a") ∷ text_node 47 (codes "\">L</a>") ∷ [])

-- `{let $c kind="html"}<b{/let}`
abbrev pub open_tag_in_let : Result (Walked State) WalkFault
open_tag_in_let = walked_row (λ m. None) row_params
    (LetBlock (codes "c") kind.Html (node (text_node 20 (codes "<b")) no_node) (span_between 0 22) ∷ [])

-- `{call m}{param p kind="html"}<b{/param}{/call}`
abbrev pub open_tag_in_param : Result (Walked State) WalkFault
open_tag_in_param = walked_row (λ m. None) row_params
    (Call (codes "m") false (argument (codes "p") (Block kind.Html (node (text_node 29 (codes "<b")) no_node))
    (span_between 8 31) no_argument) (span_at 0) ∷ [])

-- `{let $c kind="html"}x{/let}<p title="{$c}">y</p>`
abbrev pub block_in_title : Result (Walked State) WalkFault
block_in_title = walked_row (λ m. None) row_params
    (LetBlock (codes "c") kind.Html (node (text_node 20 (codes "x")) no_node) (span_between 0 21)
    ∷ text_node 27 (codes "<p title=\"") ∷ print_node 37 (codes "c") ∷ text_node 41 (codes "\">y</p>") ∷ [])

-- `{if $c}<input {$c}>{/if}` with a parameter `c` of the type `attributes|null`
abbrev pub narrowed_attributes : Result (Walked State) WalkFault
narrowed_attributes =
    walked_row (λ m. None) ((codes "c", UnionType (member AttributesType (member NullType no_member))) ∷ [])
    (If (arm (variable 4 (codes "c"))
    (all_nodes (text_node 7 (codes "<input ") ∷ print_node 14 (codes "c") ∷ text_node 18 (codes ">") ∷ [])) no_arm)
    no_otherwise (span_at 0) ∷ [])

-- ---- messages

-- `{msg desc="d"}` with this body, `{/msg}`
abbrev pub message_node : ℕ → MessageBody → Node
message_node at body = MessageNode (message (codes "d") [] body (span_at at)) no_fallback (span_at at)

abbrev pub text_body : ℕ → List ℕ → MessageBody
text_body at text = Parts (all_nodes (text_node at text ∷ []))

-- `<p title="`, a message at offset 10, `">x</p>`
abbrev pub titled : ℕ → Node → List Node
titled at middle = text_node 0 (codes "<p title=\"") ∷ middle ∷ text_node at (codes "\">x</p>") ∷ []

-- `<p title="{msg desc="d"}a{/msg}">x</p>`, with the translation `a&b`
abbrev pub ampersand_in_translation : Result (Walked State) WalkFault
ampersand_in_translation = translated_row (part (TextPart (codes "a&b")) no_part)
    (titled 31 (message_node 10 (text_body 24 (codes "a"))))

-- the translation of the message with the description `b`
abbrev pub fallback_translation : Message → Option MsgParts
fallback_translation (message desc meaning body span) =
    if bytes_eq desc (codes "b") then Some (part (TextPart (codes "a&b")) no_part) else None

-- `<p title="{msg desc="a"}x{fallbackmsg desc="b"}y{/msg}">x</p>`, with the translation `a&b` of `y`
abbrev pub ampersand_in_fallback : Result (Walked State) WalkFault
ampersand_in_fallback = walked_row fallback_translation row_params
    (titled 55 (MessageNode (message (codes "a") [] (text_body 24 (codes "x")) (span_at 10))
    (fallback (message (codes "b") [] (text_body 47 (codes "y")) (span_at 25))) (span_at 10)))

-- `{msg desc="d"}<svg>{/msg}`, with the translation `a`
abbrev pub refused_source : Result (Walked State) WalkFault
refused_source = translated_row (part (TextPart (codes "a")) no_part)
    (message_node 0 (text_body 14 (codes "<svg>")) ∷ [])

-- `{msg desc="d"}<a href="{$a}">x</a>{/msg}`, with the translation `{START_LINK}y{END_LINK}`
abbrev pub tag_in_translation : Result (Walked State) WalkFault
tag_in_translation = translated_row
    (part (Placeholder (codes "START_LINK")) (part (TextPart (codes "y"))
    (part (Placeholder (codes "END_LINK")) no_part)))
    (message_node 0 (Parts (all_nodes (text_node 14 (codes "<a href=\"") ∷ print_node 23 (codes "a")
    ∷ text_node 27 (codes "\">x</a>") ∷ []))) ∷ [])

-- `{plural $n}{case 1}a{default}`, a text, `{/plural}`
abbrev pub plural_body : ℕ → List ℕ → MessageBody
plural_body at text =
    Plural (variable (at + 8) (codes "n")) 0 (plural_case (pos 1) (text_body (at + 19) (codes "a")) no_plural_case)
    (text_body (at + 29) text)

-- `{N, plural, other {` with these parts, `}}`
abbrev pub other_arm : MsgParts → MsgParts
other_arm parts =
    part (PluralPart false (codes "N") 0 no_exact_arm (named_arm category.Other parts no_named_arm)) no_part

-- `<p title="{msg desc="d"}{plural $n}{case 1}a{default}b{/plural}{/msg}">x</p>`, with `{N, plural, other {#}}`
abbrev pub number_in_title : Result (Walked State) WalkFault
number_in_title = translated_row (other_arm (part NumberPart no_part))
    (titled 69 (message_node 10 (plural_body 24 (codes "b"))))

-- `<input {msg desc="d"}{plural $n}{case 1}a{default}b{/plural}{/msg}>`, with `{N, plural, other {#}}`
abbrev pub number_in_tag : Result (Walked State) WalkFault
number_in_tag = translated_row (other_arm (part NumberPart no_part))
    (text_node 0 (codes "<input ") ∷ message_node 7 (plural_body 21 (codes "b")) ∷ text_node 66 (codes ">") ∷ [])

-- `<p title="{msg desc="d"}{plural $n}{case 1}a{default}b&c{/plural}{/msg}">x</p>`, untranslated
abbrev pub ampersand_in_plural : Result (Walked State) WalkFault
ampersand_in_plural = walked_row (λ m. None) row_params
    (titled 71 (message_node 10 (plural_body 24 (codes "b&c"))))

-- the same with `b`, and with the translation `{N, plural, other {b&c}}`
abbrev pub ampersand_in_arm : Result (Walked State) WalkFault
ampersand_in_arm = translated_row (other_arm (part (TextPart (codes "b&c")) no_part))
    (titled 69 (message_node 10 (plural_body 24 (codes "b"))))

-- ---- many states

-- a case of a switch with `<` and a letter, for each letter
abbrev pub tag_cases : List ℕ → Cases
tag_cases [] = no_case
tag_cases (c ∷ letters) =
    case (IntLiteral (pos c) (span_at 1) ∷ []) (node (text_node 2 (less_than ∷ (c ∷ []))) no_node) (tag_cases letters)

-- `{switch $n}` with a case for each of these letters, `{/switch}`
abbrev pub many_tags : List ℕ → Result (Walked State) WalkFault
many_tags letters =
    walked_row (λ m. None) row_params (Switch (variable 8 (codes "n")) (tag_cases letters) no_otherwise (span_at 0)
    ∷ [])

abbrev pub sixteen_states : Result (Walked State) WalkFault
sixteen_states = many_tags (codes "abcdefghijklmno")

abbrev pub seventeen_states : Result (Walked State) WalkFault
seventeen_states = many_tags (codes "abcdefghijklmnop")
