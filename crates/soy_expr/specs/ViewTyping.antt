-- The type that a `Typing` of the code stands for.
use Rattle.soy_tree.specs.Types.{SoyType}
use Rattle.soy_tree.specs.ViewTypes.{view_type}
use Rattle.soy_expr.specs.declared.typing.Typing.{Typing}
use Rattle.soy_expr.specs.declared.typing.Typing.TheVariants as typing

abbrev pub view_typing : Typing → SoyType
view_typing (typing.Declared t) = view_type t.now
view_typing (typing.Made t) = view_type t
