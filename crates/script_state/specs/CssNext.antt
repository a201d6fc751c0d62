-- The next state of a style at a character, or none where the character is a fault.
--
-- A style is followed as far as comments, strings and escapes go (CSS Syntax Level 3,
-- "Tokenization"). Outside these a value may begin after white space, a colon, a comma or a left
-- parenthesis: Ready is Code there. What follows a printed value must end it.
-- Example: after `color:` the state is Ready, and after `color:r` it is Code.
use Rattle.std.specs.Prelude.{ℕ, Bool, ◌==◌, ◌||◌, if◌then◌else◌, Some, None}
use Rattle.std.specs.declared.option.Option.{Option}
use Rattle.script_state.specs.declared.css_state.CssState.{CssState}
use Rattle.script_state.specs.declared.css_state.CssState.TheVariants.{Code, Ready, Slash, Comment, CommentStar}
use Rattle.script_state.specs.declared.css_state.CssState.TheVariants.{CodeEscape, Single, Double, SingleEscape}
use Rattle.script_state.specs.declared.css_state.CssState.TheVariants.{DoubleEscape, AfterValue}
use Rattle.soy_base.specs.Characters.{exclamation_mark, double_quote, single_quote, left_parenthesis, right_parenthesis}
use Rattle.soy_base.specs.Characters.{asterisk, comma, slash, colon, semicolon, backslash, right_brace}
use Rattle.std.specs.Char.{is_ascii_whitespace}
use Rattle.script_state.specs.CommentNext.{comment_next, comment_star_next}
use Rattle.script_state.specs.StringNext.{string_next}

-- whether a value may begin after this character
abbrev pub is_before_value : ℕ → Bool
is_before_value c = is_ascii_whitespace c || c == colon || c == comma || c == left_parenthesis

-- the rows of Code and of Ready
abbrev pub css_code_next : ℕ → CssState
css_code_next c =
    if is_before_value c then Ready
    else (if c == slash then Slash
    else (if c == backslash then CodeEscape
    else (if c == single_quote then Single
    else (if c == double_quote then Double
    else Code))))

abbrev pub css_next : CssState → ℕ → Option CssState
css_next Code c = Some (css_code_next c)
css_next Ready c = Some (css_code_next c)
css_next Slash c =
    if c == asterisk then Some Comment
    else Some (css_code_next c)
css_next Comment c = Some (comment_next Comment CommentStar c)
css_next CommentStar c = Some (comment_star_next Comment CommentStar Code c)
css_next CodeEscape c = Some Code
css_next Single c = string_next single_quote Single SingleEscape Code c
css_next Double c = string_next double_quote Double DoubleEscape Code c
css_next SingleEscape c = Some Single
css_next DoubleEscape c = Some Double
css_next AfterValue c =
    if is_ascii_whitespace c || c == comma then Some Ready
    else (if c == semicolon || c == right_parenthesis || c == exclamation_mark || c == right_brace then Some Code
    else None)
