-- The machine of types: what a token does to what was read. It has no step at a token with which no type goes on.
-- Example: after `list<int` a `|` opens a union inside the list, and a `>` closes the list.
use Rattle.std.specs.Prelude.{ℕ, max, Bool, List, [], ◌∷◌, ◌++◌, Option, Some, None, if◌then◌else◌}
use Rattle.soy_lexer.specs.declared.token.Token.{Token}
use Rattle.soy_tree.specs.declared.soy_type.Field.{Field}
use Rattle.expr_parser.specs.declared.type_frame.TypeBracket.{TypeBracket}
use Rattle.expr_parser.specs.declared.type_frame.TypeBracket.TheVariants as bracket
use Rattle.expr_parser.specs.declared.type_frame.TypeFrame.{TypeFrame}
use Rattle.expr_parser.specs.declared.type_frame.TypeFrame.TheVariants as frame
use Rattle.expr_parser.specs.declared.type_frame.TypeNested.{TypeNested}
use Rattle.expr_parser.specs.declared.type_frame.TypeOperand.{TypeOperand}
use Rattle.expr_parser.specs.declared.type_state.ExpectedInType.{ExpectedInType}
use Rattle.expr_parser.specs.declared.type_state.ExpectedInType.TheVariants as expected
use Rattle.expr_parser.specs.declared.type_state.TypeState.{TypeState}
use Rattle.expr_parser.specs.declared.type_state.TypeStep.{TypeStep}
use Rattle.expr_parser.specs.declared.type_state.TypeStep.TheVariants as step
use Rattle.expr_parser.specs.declared.type_terminal.TypeName.{TypeName}
use Rattle.expr_parser.specs.declared.type_terminal.TypeName.TheVariants as name
use Rattle.expr_parser.specs.declared.type_terminal.TypeTerminal.{TypeTerminal}
use Rattle.expr_parser.specs.declared.type_terminal.TypeTerminal.TheVariants as terminal
use Rattle.expr_parser.specs.Depths.{deeper}
use Rattle.expr_parser.specs.TypeOperands.{named, listed, mapped, recorded, united, field}
use Rattle.expr_parser.specs.TypeTerminals.{type_terminal_of, names_type}

abbrev pub type_at : List TypeFrame → ExpectedInType → TypeState
type_at frames expected = record { frames = frames; expected = expected }

abbrev pub nested_type : List TypeFrame → TypeOperand → TypeNested
nested_type frames x = record { frames = frames; operand = x }

-- a type has come
abbrev pub has_type : List TypeFrame → TypeOperand → Option TypeState
has_type frames x = Some (type_at frames (expected.Delimiter x))

-- a type is expected inside a further frame
abbrev pub opens_type : List TypeFrame → TypeFrame → Option TypeState
opens_type frames f = Some (type_at (f ∷ frames) expected.Type)

-- a union that is open takes the type as its last member
abbrev pub settled : List TypeFrame → TypeOperand → TypeNested
settled (frame.Union members h ∷ frames) x = nested_type frames (united members h x)
settled frames x = nested_type frames x

-- a union that opens
abbrev pub union_of_one : TypeOperand → TypeFrame
union_of_one x = frame.Union (x.of ∷ []) x.height

-- a union that is open takes the type as a further member, or one opens
abbrev pub with_member : List TypeFrame → TypeOperand → List TypeFrame
with_member (frame.Union members h ∷ frames) x = frame.Union (members ++ x.of ∷ []) (max h x.height) ∷ frames
with_member frames x = union_of_one x ∷ frames

-- the tokens that close a frame

abbrev pub greater_next : List TypeFrame → TypeOperand → Option TypeState
greater_next (frame.Bracket bracket.List ∷ frames) x = has_type frames (listed x)
greater_next (frame.Bracket bracket.Map ∷ frames) x = has_type frames (mapped x)
greater_next _ x = None

abbrev pub comma_next : List TypeFrame → TypeOperand → Option TypeState
comma_next (frame.Bracket (bracket.Field fields h name) ∷ frames) x =
    Some (type_at frames (expected.FieldName (fields ++ field name x.of ∷ []) (max h x.height)))
comma_next _ x = None

abbrev pub close_next : List TypeFrame → TypeOperand → Option TypeState
close_next (frame.Bracket (bracket.Field fields h name) ∷ frames) x =
    has_type frames (recorded (fields ++ field name x.of ∷ []) (max h x.height))
close_next _ x = None

-- after a type
abbrev pub delimiter_next : List TypeFrame → TypeOperand → TypeTerminal → Option TypeState
delimiter_next frames x terminal.Bar = Some (type_at (with_member frames x) expected.Type)
delimiter_next frames x terminal.Greater = let r = settled frames x in greater_next r.frames r.operand
delimiter_next frames x terminal.Comma = let r = settled frames x in comma_next r.frames r.operand
delimiter_next frames x terminal.CloseBracket = let r = settled frames x in close_next r.frames r.operand
delimiter_next frames x _ = None

-- where a type is expected
abbrev pub type_expected_next : List TypeFrame → Token → TypeTerminal → Option TypeState
type_expected_next frames token (terminal.Word n) = Some (type_at frames (expected.AfterName n token.span.start))
type_expected_next frames token terminal.OpenBracket = Some (type_at frames (expected.FieldName [] 0))
type_expected_next frames token _ = None

-- a `<` after a name
abbrev pub less_next : List TypeFrame → TypeName → Option TypeState
less_next frames name.List = opens_type frames (frame.Bracket bracket.List)
less_next frames name.Map = Some (type_at frames expected.Key)
less_next frames _ = None

-- after a name
abbrev pub after_name_next : List TypeFrame → TypeName → TypeTerminal → Option TypeState
after_name_next frames n terminal.Less = less_next frames n
after_name_next frames n m = delimiter_next frames (named n) m

-- inside `map<`
abbrev pub key_next : List TypeFrame → TypeTerminal → Option TypeState
key_next frames (terminal.Word name.Str) = Some (type_at frames expected.KeyComma)
key_next frames _ = None

abbrev pub key_comma_next : List TypeFrame → TypeTerminal → Option TypeState
key_comma_next frames terminal.Comma = opens_type frames (frame.Bracket bracket.Map)
key_comma_next frames _ = None

-- inside a record
abbrev pub field_name_next : List TypeFrame → List Field → ℕ → Token → TypeTerminal → Option TypeState
field_name_next frames fields h token (terminal.Word n) = Some
    (type_at frames (expected.FieldColon fields h token.text))
field_name_next frames fields h token _ = None

abbrev pub field_colon_next : List TypeFrame → List Field → ℕ → List ℕ → TypeTerminal → Option TypeState
field_colon_next frames fields h name terminal.Colon = opens_type frames (frame.Bracket (bracket.Field fields h name))
field_colon_next frames fields h name _ = None

abbrev pub type_next_at : ExpectedInType → List TypeFrame → Token → TypeTerminal → Option TypeState
type_next_at expected.Type frames token m = type_expected_next frames token m
type_next_at (expected.AfterName n offset) frames token m = after_name_next frames n m
type_next_at (expected.Delimiter x) frames token m = delimiter_next frames x m
type_next_at expected.Key frames token m = key_next frames m
type_next_at expected.KeyComma frames token m = key_comma_next frames m
type_next_at (expected.FieldName fields h) frames token m = field_name_next frames fields h token m
type_next_at (expected.FieldColon fields h name) frames token m = field_colon_next frames fields h name m

abbrev pub type_next : TypeState → Token → Option TypeState
type_next s token = type_next_at s.expected s.frames token (type_terminal_of token)

-- the nodes on the longest branch of what was read

-- of what was read before the type that is open
abbrev pub bracket_branch : TypeBracket → ℕ
bracket_branch bracket.List = 0
bracket_branch bracket.Map = 0
bracket_branch (bracket.Field fields h name) = h

abbrev pub type_branch : TypeFrame → ℕ
type_branch (frame.Union members h) = h
type_branch (frame.Bracket b) = bracket_branch b

abbrev pub type_raised : List TypeFrame → ℕ → ℕ
type_raised [] h = h
type_raised (f ∷ fs) h = type_raised fs (deeper (type_branch f) h)

-- inside the innermost frame
abbrev pub type_height_at : ExpectedInType → ℕ
type_height_at expected.Type = 0
type_height_at (expected.AfterName n offset) = deeper 0 0
type_height_at (expected.Delimiter x) = x.height
type_height_at expected.Key = deeper 0 0
type_height_at expected.KeyComma = deeper 0 0
type_height_at (expected.FieldName fields h) = deeper h 0
type_height_at (expected.FieldColon fields h name) = deeper h 0

abbrev pub type_depth : TypeState → ℕ
type_depth s = type_raised s.frames (type_height_at s.expected)

-- what was read, if it is a whole type
abbrev pub alone_type : List TypeFrame → TypeOperand → Option TypeOperand
alone_type [] x = Some x
alone_type (f ∷ fs) x = None

abbrev pub settled_type : TypeNested → Option TypeOperand
settled_type r = alone_type r.frames r.operand

abbrev pub whole_type_at : ExpectedInType → List TypeFrame → Option TypeOperand
whole_type_at (expected.AfterName n offset) frames = settled_type (settled frames (named n))
whole_type_at (expected.Delimiter x) frames = settled_type (settled frames x)
whole_type_at _ frames = None

abbrev pub whole_type : TypeState → Option TypeOperand
whole_type s = whole_type_at s.expected s.frames

-- what a token does: the state after it, or what was read before it as a whole type
abbrev pub type_step_of : Option TypeState → Option TypeOperand → TypeStep
type_step_of (Some to) before = step.Next to
type_step_of None before = step.End before

abbrev pub type_step : TypeState → Token → TypeStep
type_step s token = type_step_of (type_next s token) (whole_type s)

-- where the word stands that was read last, if it names no type where a `<` follows or doesn't
abbrev pub unknown_name : TypeName → ℕ → Bool → Option ℕ
unknown_name n offset less_follows = if names_type n less_follows then None else Some offset

abbrev pub unknown_at : ExpectedInType → Bool → Option ℕ
unknown_at (expected.AfterName n offset) less_follows = unknown_name n offset less_follows
unknown_at _ less_follows = None

abbrev pub unknown_type : TypeState → Bool → Option ℕ
unknown_type s less_follows = unknown_at s.expected less_follows
