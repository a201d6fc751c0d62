-- The script of a `play`: its lines, and what each asks for.
--
-- Lines end with LF, the last one perhaps without, and there is at least one. A line is one of these, with one space
-- between its parts:
--
--     open TEMPLATE JSON      TEMPLATE is one or more characters other than space, JSON is the rest of the line
--     pull NAME COUNT         COUNT is 1 to 4096
--     close NAME
--     publish 1, publish 2
--
-- NAME and COUNT are decimal digits without a leading zero, at most 2 ^ 64 - 1. Characters are seen here, not bytes.
-- Example: `open t.m ` asks for a rendering of `t.m` with the empty text as its data; `open t.m` isn't a line of a
-- script, and nor is `pull 0 0`.
use Rattle.std.specs.Prelude.{ℕ, ◌^◌, ◌==◌, ◌&&◌, ◌||◌, not, nat_le, nat_lt, Bool, false, List, [], ◌∷◌, codes, Option}
use Rattle.std.specs.Prelude.{None, Some, option_map, option_and_then, if◌then◌else◌}
use Rattle.std.specs.Char.{is_ascii_digit}
use Rattle.std.specs.List.{list_all, slice_split}
use Rattle.std.specs.Option.{option_map_or}
use Rattle.std.specs.Str.Parse.{digits_value}
use Rattle.soy_base.specs.Cuts.{after_prefix, cut, is_nil}
use Rattle.soy_base.specs.Characters.{space}

-- which of the two bundles of a `play`
pub data ScriptBundle : Type 0 where
  FirstBundle : ScriptBundle
  SecondBundle : ScriptBundle

pub data ScriptLine : Type 0 where
  -- the full name of a template, and JSON
  Open : List ℕ → List ℕ → ScriptLine
  -- the name of a rendering, and the most bytes that are pulled
  Pull : ℕ → ℕ → ScriptLine
  -- the name of a rendering
  Close : ℕ → ScriptLine
  Publish : ScriptBundle → ScriptLine

-- ---- numbers

-- whether there are digits, none behind a zero that leads
abbrev pub begins_numeral : List ℕ → Bool
begins_numeral [] = false
begins_numeral (c ∷ cs) = is_nil cs || not (c == 48)

-- whether a text is decimal digits without a leading zero
abbrev pub is_numeral : List ℕ → Bool
is_numeral text = list_all is_ascii_digit text && begins_numeral text

-- the number that a text writes, if it is below 2 ^ 64
abbrev pub script_number : List ℕ → Option ℕ
script_number text =
    if is_numeral text then (if nat_lt (digits_value 10 text) (2 ^ 64) then Some (digits_value 10 text) else None)
    else None

-- a number of bytes that may be pulled
abbrev pub pull_count : ℕ → Option ℕ
pull_count n = if nat_le 1 n && nat_le n 4096 then Some n else None

-- ---- what a line asks for, behind its first word

abbrev pub open_template : List ℕ × List ℕ → Option ScriptLine
open_template parts = if is_nil parts.0 then None else Some (Open parts.0 parts.1)

abbrev pub open_line : List ℕ → Option ScriptLine
open_line rest = option_and_then open_template (cut (space ∷ []) rest)

abbrev pub pull_named : List ℕ → ℕ → Option ScriptLine
pull_named count name = option_map (Pull name) (option_and_then pull_count (script_number count))

abbrev pub pull_parts : List ℕ × List ℕ → Option ScriptLine
pull_parts parts = option_and_then (pull_named parts.1) (script_number parts.0)

abbrev pub pull_line : List ℕ → Option ScriptLine
pull_line rest = option_and_then pull_parts (cut (space ∷ []) rest)

abbrev pub close_line : List ℕ → Option ScriptLine
close_line rest = option_map Close (script_number rest)

abbrev pub numbered_bundle : ℕ → Option ScriptBundle
numbered_bundle n = if n == 1 then Some FirstBundle else (if n == 2 then Some SecondBundle else None)

abbrev pub publish_line : List ℕ → Option ScriptLine
publish_line rest = option_map Publish (option_and_then numbered_bundle (script_number rest))

-- **what a line of a script asks for, if it is one**
abbrev pub script_line : List ℕ → Option ScriptLine
script_line line =
    option_map_or open_line (after_prefix (codes "open ") line)
    (option_map_or pull_line (after_prefix (codes "pull ") line)
    (option_map_or close_line (after_prefix (codes "close ") line)
    (option_map_or publish_line (after_prefix (codes "publish ") line) None)))

-- ---- lines

-- the parts behind the first LF; an empty one at the end is no line
abbrev pub more_lines : List (List ℕ) → List (List ℕ)
more_lines [] = []
more_lines ([] ∷ []) = []
more_lines ([] ∷ (line ∷ lines)) = [] ∷ more_lines (line ∷ lines)
more_lines ((c ∷ cs) ∷ lines) = (c ∷ cs) ∷ more_lines lines

abbrev pub lines_of_parts : List (List ℕ) → List (List ℕ)
lines_of_parts [] = []
lines_of_parts (line ∷ lines) = line ∷ more_lines lines

-- **the lines of a script**
abbrev pub script_lines : List ℕ → List (List ℕ)
script_lines text = lines_of_parts (slice_split (λ c. c == 10) text)
