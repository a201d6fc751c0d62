-- The pieces of a plain body: of texts and prints alone, whose texts hold no tag and nothing that has to be quoted.
-- Each run of texts stands as it is, and each print in braces.
-- Example: those of `a{$b}` are the texts `a` and `{`, the use of the name of `$b`, and the text `}`.
use Rattle.std.specs.Prelude.{ℕ, Bool, true, false, not, ◌&&◌, ◌||◌, ◌==◌, List, [], ◌∷◌, ◌++◌, Option}
use Rattle.soy_base.specs.Among.{lacks}
use Rattle.soy_base.specs.Characters.{left_brace, less_than, number_sign, right_brace, single_quote}
use Rattle.soy_base.specs.declared.fault.Span.{Span}
use Rattle.soy_tree.specs.Types.{Name}
use Rattle.soy_tree.specs.Expressions.{Expr}
use Rattle.soy_tree.specs.Nodes.{Node, Nodes, TextNode, Print, no_node, node}
use Rattle.soy_tree.specs.MessageText.{PrintCut}
use Rattle.soy_rules.specs.BaseNames.{base_of_print}
use Rattle.soy_rules.specs.Placeholders.{AsPlaceholder, ExprContent}
use Rattle.msg_extract.specs.Canonical.CanonicalText.{is_special}
use Rattle.msg_extract.specs.Canonical.Pieces.{Piece, TextPiece, placeholder_pieces}

-- whether a character begins no tag and stands as it is; the flag says that it stands directly in a plural's case
abbrev pub is_plain_character : Bool → ℕ → Bool
is_plain_character in_plural c = not (c == less_than || c == single_quote || is_special in_plural c)

-- whether a text holds no tag and nothing that has to be quoted
abbrev pub is_plain_text : Bool → List ℕ → Bool
is_plain_text in_plural text =
    lacks (less_than ∷ []) text && (lacks (single_quote ∷ []) text && (lacks (left_brace ∷ []) text
    && (lacks (right_brace ∷ []) text && (not in_plural || lacks (number_sign ∷ []) text))))

abbrev pub is_plain_node : Bool → Node → Bool
is_plain_node in_plural (TextNode text span) = is_plain_text in_plural text
is_plain_node in_plural (Print e phname span) = true
is_plain_node in_plural _ = false

abbrev pub are_plain : Bool → Nodes → Bool
are_plain in_plural no_node = true
are_plain in_plural (node n ns) = is_plain_node in_plural n && are_plain in_plural ns

-- a text that has begun, if it has characters
abbrev pub begun_pieces : List ℕ → List Piece
begun_pieces [] = []
begun_pieces (c ∷ cs) = TextPiece (c ∷ cs) ∷ []

abbrev pub print_pieces : Expr → Option Name → Span → List Piece
print_pieces e phname span =
    placeholder_pieces (record {
      base = base_of_print e phname;
      content = ExprContent e;
      role = AsPlaceholder (PrintCut e phname span);
    })

-- what a node ends behind a text that has begun, and the text that has begun after it
abbrev pub node_pieces : List ℕ → Node → List Piece
node_pieces begun (Print e phname span) = begun_pieces begun ++ print_pieces e phname span
node_pieces begun _ = []

abbrev pub begun_behind : List ℕ → Node → List ℕ
begun_behind begun (TextNode text span) = begun ++ text
begun_behind begun (Print e phname span) = []
begun_behind begun _ = begun

-- the pieces of plain nodes behind a text that has begun
abbrev pub plain_pieces : List ℕ → Nodes → List Piece
plain_pieces begun no_node = begun_pieces begun
plain_pieces begun (node n ns) = node_pieces begun n ++ plain_pieces (begun_behind begun n) ns
