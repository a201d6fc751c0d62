-- The next state of a script at a character, or none where the character is a fault.
--
-- A script is followed as far as comments and string literals go (ECMAScript, "Comments", "String
-- Literals", "Line Terminators"). A slash that begins no comment could begin a regular expression or
-- divide, and a backtick begins a template literal: neither is followed, so both are faults.
-- Example: from Code a `"` leads to Double, where a `'` stays and the next `"` leads back to Code.
use Rattle.std.specs.Prelude.{ℕ, ◌==◌, ◌||◌, if◌then◌else◌, Some, None}
use Rattle.std.specs.declared.option.Option.{Option}
use Rattle.script_state.specs.declared.js_state.JsState.{JsState}
use Rattle.script_state.specs.declared.js_state.JsState.TheVariants.{Code, Slash, Line, Block, BlockStar, Single}
use Rattle.script_state.specs.declared.js_state.JsState.TheVariants.{Double, SingleEscape, DoubleEscape}
use Rattle.soy_base.specs.Characters.{line_feed, carriage_return, double_quote, single_quote, asterisk, slash, backtick}
use Rattle.soy_base.specs.Characters.{line_separator, paragraph_separator}
use Rattle.script_state.specs.CommentNext.{comment_next, comment_star_next}
use Rattle.script_state.specs.StringNext.{string_next}

abbrev pub js_next : JsState → ℕ → Option JsState
js_next Code c =
    if c == slash then Some Slash
    else (if c == single_quote then Some Single
    else (if c == double_quote then Some Double
    else (if c == backtick then None
    else Some Code)))
js_next Slash c =
    if c == slash then Some Line
    else (if c == asterisk then Some Block
    else None)
js_next Line c =
    if c == line_feed || c == carriage_return || c == line_separator || c == paragraph_separator then Some Code
    else Some Line
js_next Block c = Some (comment_next Block BlockStar c)
js_next BlockStar c = Some (comment_star_next Block BlockStar Code c)
js_next Single c = string_next single_quote Single SingleEscape Code c
js_next Double c = string_next double_quote Double DoubleEscape Code c
js_next SingleEscape c = Some Single
js_next DoubleEscape c = Some Double
