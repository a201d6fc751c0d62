-- What stands in the source for a selector of a translation: the first row of its name and kind.
use Rattle.std.specs.Prelude.{Bool, true, false, not, ◌&&◌, List, [], ◌∷◌, Option, Some, None, if◌then◌else◌, bytes_eq}
use Rattle.soy_tree.specs.Expressions.{Expr}
use Rattle.soy_tree.specs.Types.{Name}
use Rattle.msg_extract.specs.SelectorRows.{SelectorRow}

-- whether a selector is of a plural, or of a select
abbrev pub is_of : Bool → Bool → Bool
is_of true of_plural = of_plural
is_of false of_plural = not of_plural

-- the expression of a selector
abbrev pub selector_in : Bool → Name → List SelectorRow → Option Expr
selector_in of_plural name [] = None
selector_in of_plural name (row ∷ rows) =
    if is_of of_plural row.1 && bytes_eq row.0 name then Some row.2 else selector_in of_plural name rows
