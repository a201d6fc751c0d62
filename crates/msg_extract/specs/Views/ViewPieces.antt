-- The pieces and uses of names that those of the code stand for.
use Rattle.std.specs.Prelude.{map}
use Rattle.std.specs.Str.{chars}
use Rattle.soy_tree.specs.Types.{Name}
use Rattle.soy_tree.specs.MessageText.{PrintCut, TagCut}
use Rattle.soy_rules.specs.Placeholders.{Content, Role, Use, AsPlaceholder, AsPlural, AsSelect, ExprContent, TagContent}
use Rattle.soy_tree.specs.ViewExpressions.{view_expr}
use Rattle.msg_extract.specs.Canonical.Pieces.{Piece, TextPiece, UsePiece}
use Rattle.msg_extract.specs.Views.ViewItems.{view_item}
use Rattle.msg_extract.specs.declared.piece.CodePiece.{CodePiece}
use Rattle.msg_extract.specs.declared.piece.CodePiece.TheVariants as code
use Rattle.msg_extract.specs.declared.piece.NameUse.{NameUse}
use Rattle.msg_extract.specs.declared.piece.Named.{Named}
use Rattle.msg_extract.specs.declared.piece.Named.TheVariants as named

abbrev pub content_of : Named → Content
content_of (named.Print e phname span) = ExprContent (view_expr e.now)
content_of (named.Tag tag) = TagContent (map view_item tag)
content_of (named.Plural e) = ExprContent (view_expr e.now)
content_of (named.Select e) = ExprContent (view_expr e.now)

abbrev pub role_of : Named → Role
role_of (named.Print e phname span) = AsPlaceholder (PrintCut (view_expr e.now) phname.now span)
role_of (named.Tag tag) = AsPlaceholder (TagCut (map view_item tag))
role_of (named.Plural e) = AsPlural (view_expr e.now)
role_of (named.Select e) = AsSelect (view_expr e.now)

abbrev pub view_use : Name → Named → Use
view_use base of = record { base = base; content = content_of of; role = role_of of }

abbrev pub view_name_use : NameUse → Use
view_name_use u = view_use u.base u.of

abbrev pub view_piece : CodePiece → Piece
view_piece (code.Word word) = TextPiece (chars word.now)
view_piece (code.Text text) = TextPiece text
view_piece (code.Use u) = UsePiece (view_name_use u)
