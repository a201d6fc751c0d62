-- How `parse` reads: token by token, until one has no step, lies too deep or shows that the word before it names no
-- type, or the tokens run out.
-- Example: each of the five tokens of `{namespace a}{` has a step, and what was read at their end is no whole file, so
-- it is refused there.
use Rattle.std.specs.Prelude.{ℕ, false, List, [], ◌∷◌, Option, Some, None, Result, Ok, Err, if◌then◌else◌}
use Rattle.soy_base.specs.declared.code.Code.{Code}
use Rattle.soy_base.specs.declared.code.Code.TheVariants as code
use Rattle.soy_base.specs.declared.fault.Fault.{Fault}
use Rattle.soy_lexer.specs.declared.token.Token.{Token}
use Rattle.soy_tree.specs.declared.tree.Tree.{Tree}
use Rattle.expr_parser.specs.Depths.{is_within}
use Rattle.expr_parser.specs.TypeTerminals.{type_terminal_of, is_less}
use Rattle.soy_parser.specs.declared.spot.FileState.{FileState}
use Rattle.soy_parser.specs.FileSteps.{file_step, token_depth, unknown_in, whole_file}

abbrev pub fault_at : ℕ → Code → ℕ → Fault
fault_at file code offset = record { code = code; file = file; at = offset }

-- what was read before the offset, if it is a whole file
abbrev pub file_answer : ℕ → ℕ → Option Tree → Result Tree Fault
file_answer file offset (Some tree) = Ok tree
file_answer file offset None = Err (fault_at file code.Syntax offset)

-- where the word that was read last names no type, that; otherwise the rest
abbrev pub unless_unknown_type : ℕ → Option ℕ → Result Tree Fault → Result Tree Fault
unless_unknown_type file (Some offset) otherwise = Err (fault_at file code.Mistyped offset)
unless_unknown_type file None otherwise = otherwise

-- after a token
abbrev pub read_file_on : ℕ → FileState → Token → (FileState → Result Tree Fault) → Option FileState → Result Tree Fault
read_file_on file s token go_on None = Err (fault_at file code.Syntax token.span.start)
read_file_on file s token go_on (Some to) =
    if is_within 0 (token_depth s to) then go_on to else Err (fault_at file code.Nesting token.span.start)

-- the rest of the tokens, after some that end at an offset and have led to a state
abbrev pub reading_file : ℕ → ℕ → List Token → FileState → Result Tree Fault
reading_file file end [] s = unless_unknown_type file (unknown_in s.spot false) (file_answer file end (whole_file s))
reading_file file end (t ∷ ts) s =
    unless_unknown_type file (unknown_in s.spot (is_less (type_terminal_of t)))
    (read_file_on file s t (reading_file file t.span.end ts) (file_step s t))
