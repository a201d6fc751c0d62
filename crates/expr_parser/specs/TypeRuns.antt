-- What the machine of types makes of a list of tokens: the state after them, and for each of them the depth at it and
-- whether it is a word that stands as a type.
-- Example: after `list <` a type is expected inside the list; the depths are 1 and 1, and the first token is such a
-- word.
use Rattle.std.specs.Prelude.{ℕ, Bool, true, false, List, [], ◌∷◌, Option, Some, None}
use Rattle.soy_lexer.specs.declared.token.Token.{Token}
use Rattle.expr_parser.specs.declared.type_state.ExpectedInType.{ExpectedInType}
use Rattle.expr_parser.specs.declared.type_state.ExpectedInType.TheVariants as expected
use Rattle.expr_parser.specs.declared.type_state.TypeState.{TypeState}
use Rattle.expr_parser.specs.TypeSteps.{type_at, type_next, type_depth}

abbrev pub type_start : TypeState
type_start = type_at [] expected.Type

-- the state after the tokens; there is none where one of them has no step
abbrev pub type_run_from : (TypeState → Option TypeState) → Option TypeState → Option TypeState
type_run_from go_on None = None
type_run_from go_on (Some s) = go_on s

abbrev pub type_run : List Token → TypeState → Option TypeState
type_run [] s = Some s
type_run (t ∷ ts) s = type_run_from (type_run ts) (type_next s t)

-- whether the token read last is a word that stands as a type
abbrev pub is_after_name : ExpectedInType → Bool
is_after_name (expected.AfterName n offset) = true
is_after_name _ = false

-- the depths at the tokens
abbrev pub type_depths_from : (TypeState → List ℕ) → Option TypeState → List ℕ
type_depths_from go_on None = []
type_depths_from go_on (Some s) = type_depth s ∷ go_on s

abbrev pub type_depths : List Token → TypeState → List ℕ
type_depths [] s = []
type_depths (t ∷ ts) s = type_depths_from (type_depths ts) (type_next s t)

-- which tokens are words that stand as types
abbrev pub type_words_from : (TypeState → List Bool) → Option TypeState → List Bool
type_words_from go_on None = []
type_words_from go_on (Some s) = is_after_name s.expected ∷ go_on s

abbrev pub type_words : List Token → TypeState → List Bool
type_words [] s = []
type_words (t ∷ ts) s = type_words_from (type_words ts) (type_next s t)
