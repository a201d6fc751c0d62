-- The placeholders of a message, each once, in order of first appearance, with the print or the texts and prints of the
-- tag that it stands for. A text of a tag has the span of the node in which its first character stands.
-- Example: of `<a href="{$x}">b</a>` they are START_LINK, for two texts with a print between them, and END_LINK.
use Rattle.std.specs.Prelude.{ℕ, Bool, List, [], ◌∷◌, ◌++◌, Option, Some, None, if◌then◌else◌, bytes_eq}
use Rattle.std.specs.List.{list_any}
use Rattle.soy_base.specs.declared.fault.Span.{Span}
use Rattle.soy_tree.specs.Types.{Name}
use Rattle.soy_tree.specs.Nodes.{Message, Node, Nodes, Print, TextNode, message, no_node}
use Rattle.soy_tree.specs.ViewNodes.{nodes_of}
use Rattle.soy_tree.specs.MessageText.{MessageItem, Character, Printed, Cut, TextCut, PrintCut, TagCut}
use Rattle.soy_rules.specs.Placeholders.{Role, Use, AsPlaceholder, AsPlural, AsSelect, body_uses, name_of}
use Rattle.msg_extract.specs.Canonical.Pieces.{Piece, TextPiece, UsePiece}

-- a text that has begun, with its span
abbrev pub BegunText : Type 0
BegunText = Option (List ℕ × Span)

abbrev pub text_nodes : BegunText → List Node
text_nodes None = []
text_nodes (Some text) = TextNode text.0 text.1 ∷ []

-- what an item ends, and the text that has begun after it
abbrev pub flushed : BegunText → MessageItem → List Node
flushed begun (Character c span) = []
flushed begun (Printed e phname span) = text_nodes begun ++ Print e phname span ∷ []

abbrev pub begun_after : BegunText → MessageItem → BegunText
begun_after None (Character c span) = Some (c ∷ [], span)
begun_after (Some text) (Character c span) = Some (text.0 ++ c ∷ [], text.1)
begun_after begun (Printed e phname span) = None

-- the texts and prints of items, behind a text that has begun
abbrev pub nodes_behind : BegunText → List MessageItem → List Node
nodes_behind begun [] = text_nodes begun
nodes_behind begun (item ∷ items) = flushed begun item ++ nodes_behind (begun_after begun item) items

abbrev pub cut_nodes : Cut → Nodes
cut_nodes (TextCut text) = no_node
cut_nodes (PrintCut e phname span) = nodes_of (Print e phname span ∷ [])
cut_nodes (TagCut tag) = nodes_of (nodes_behind None tag)

-- what a name stands for, if it isn't a selector
abbrev pub role_nodes : Role → Option Nodes
role_nodes (AsPlaceholder cut) = Some (cut_nodes cut)
role_nodes (AsPlural e) = None
role_nodes (AsSelect e) = None

abbrev pub has_row : Name → List (Name × Nodes) → Bool
has_row name rows = list_any (λ row. bytes_eq row.0 name) rows

abbrev pub with_row : List (Name × Nodes) → Name → Option Nodes → List (Name × Nodes)
with_row rows name None = rows
with_row rows name (Some nodes) = if has_row name rows then rows else rows ++ (name, nodes) ∷ []

-- the placeholders among uses, after some
abbrev pub rows_after : List Use → List (Name × Nodes) → List Use → List (Name × Nodes)
rows_after all rows [] = rows
rows_after all rows (u ∷ uses) = rows_after all (with_row rows (name_of all u.base u.content) (role_nodes u.role)) uses

abbrev pub placeholders_of : Message → List (Name × Nodes)
placeholders_of (message desc meaning body span) = rows_after (body_uses body) [] (body_uses body)

-- those with the placeholder of a piece
abbrev pub row_step : List Use → List (Name × Nodes) → Piece → List (Name × Nodes)
row_step all rows (TextPiece text) = rows
row_step all rows (UsePiece u) = with_row rows (name_of all u.base u.content) (role_nodes u.role)
