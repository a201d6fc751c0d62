-- The selectors of a message: of each plural and select its name, whether it is a plural, and its expression, in the
-- order of the message's text.
-- Example: of `{plural $n}{default}a{/plural}` it is the one row N, of a plural, with `$n`.
use Rattle.std.specs.Prelude.{Bool, true, false, List, [], ◌∷◌, ◌++◌}
use Rattle.soy_tree.specs.Types.{Name}
use Rattle.soy_tree.specs.Expressions.{Expr}
use Rattle.soy_tree.specs.Nodes.{Message, message}
use Rattle.soy_rules.specs.Placeholders.{Role, Use, AsPlaceholder, AsPlural, AsSelect, body_uses, name_of}
use Rattle.soy_tree.specs.ViewExpressions.{view_expr}
use Rattle.msg_extract.specs.Canonical.Pieces.{Piece, TextPiece, UsePiece}
use Rattle.msg_extract.specs.declared.selector.Selector.{Selector}

abbrev pub SelectorRow : Type 0
SelectorRow = Name × Bool × Expr

abbrev pub role_rows : Name → Role → List SelectorRow
role_rows name (AsPlaceholder cut) = []
role_rows name (AsPlural e) = (name, true, e) ∷ []
role_rows name (AsSelect e) = (name, false, e) ∷ []

-- the selectors among uses of all uses of a message
abbrev pub selector_rows : List Use → List Use → List SelectorRow
selector_rows all [] = []
selector_rows all (u ∷ uses) = role_rows (name_of all u.base u.content) u.role ++ selector_rows all uses

abbrev pub selectors_of : Message → List SelectorRow
selectors_of (message desc meaning body span) = selector_rows (body_uses body) (body_uses body)

-- those of a piece
abbrev pub piece_rows : List Use → Piece → List SelectorRow
piece_rows all (TextPiece text) = []
piece_rows all (UsePiece u) = role_rows (name_of all u.base u.content) u.role

abbrev pub view_selector : Selector → SelectorRow
view_selector s = (s.name, s.of_plural, view_expr s.expr)
