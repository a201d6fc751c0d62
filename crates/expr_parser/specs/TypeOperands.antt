-- What a row of the grammar of types makes of its parts: a type, and the nodes on its longest branch.
use Rattle.std.specs.Prelude.{ℕ, List, [], ◌∷◌, ◌++◌}
use Rattle.soy_tree.specs.declared.soy_type.Field.{Field}
use Rattle.soy_tree.specs.declared.soy_type.SoyType.{SoyType}
use Rattle.soy_tree.specs.declared.soy_type.SoyType.TheVariants as soy
use Rattle.expr_parser.specs.declared.type_frame.TypeOperand.{TypeOperand}
use Rattle.expr_parser.specs.declared.type_terminal.TypeName.{TypeName}
use Rattle.expr_parser.specs.declared.type_terminal.TypeName.TheVariants as name
use Rattle.expr_parser.specs.Depths.{deeper}

abbrev pub type_operand : SoyType → ℕ → TypeOperand
type_operand of height = record { height = height; of = of }

-- the type of a name; one that names no type is read as null
abbrev pub type_of_name : TypeName → SoyType
type_of_name name.Bool = soy.Bool
type_of_name name.Int = soy.Int
type_of_name name.Str = soy.Str
type_of_name name.Html = soy.Html
type_of_name name.Attributes = soy.Attributes
type_of_name _ = soy.Null

abbrev pub named : TypeName → TypeOperand
named n = type_operand (type_of_name n) (deeper 0 0)

abbrev pub listed : TypeOperand → TypeOperand
listed x = type_operand (soy.List x.of) (deeper 0 x.height)

abbrev pub mapped : TypeOperand → TypeOperand
mapped x = type_operand (soy.Map x.of) (deeper 0 x.height)

abbrev pub field : List ℕ → SoyType → Field
field name of = record { name = name; of = of }

-- a record whose fields have types of this height
abbrev pub recorded : List Field → ℕ → TypeOperand
recorded fields h = type_operand (soy.Fields fields) (deeper h 0)

-- a union of members of this height and a last one
abbrev pub united : List SoyType → ℕ → TypeOperand → TypeOperand
united members h x = type_operand (soy.Union (members ++ x.of ∷ [])) (deeper h x.height)
