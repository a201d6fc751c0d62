-- What the machine reads of a text, and so `parse_message`: character by character, until one has no step or the text
-- ends.
-- Example: `{N!` ends at its third character, so its first two begin a pattern.
use Rattle.std.specs.Prelude.{ℕ, List, [], ◌∷◌, Option, Some, None}
use Rattle.soy_base.specs.ByteLength.{byte_len}
use Rattle.soy_tree.specs.MessageParts.{MsgPart}
use Rattle.icu_text.specs.declared.parse.Outcome.{Outcome}
use Rattle.icu_text.specs.declared.parse.Outcome.TheVariants.{Done, Refused}
use Rattle.icu_text.specs.PatternStates.{PatternState}
use Rattle.icu_text.specs.PatternStates as expected
use Rattle.icu_text.specs.PatternSteps.{pattern_next, whole_pattern}

abbrev pub pattern_start : PatternState
pattern_start = record { frames = []; expected = expected.Text [] [] expected.Unquoted }

-- the state after the characters; there is none where one of them has no step
abbrev pub pattern_run_from : (PatternState → Option PatternState) → Option PatternState → Option PatternState
pattern_run_from go_on None = None
pattern_run_from go_on (Some s) = go_on s

abbrev pub pattern_run : List ℕ → PatternState → Option PatternState
pattern_run [] s = Some s
pattern_run (c ∷ cs) s = pattern_run_from (pattern_run cs) (pattern_next s c)

-- the parts of a text, or how many of its bytes no pattern goes on with
abbrev pub answer : ℕ → Option (List MsgPart) → Outcome
answer left None = Refused left
answer left (Some ps) = Done ps

abbrev pub read_on : ℕ → (PatternState → Outcome) → Option PatternState → Outcome
read_on left go_on None = Refused left
read_on left go_on (Some s) = go_on s

abbrev pub reading : List ℕ → PatternState → Outcome
reading [] s = answer 0 (whole_pattern s)
reading (c ∷ cs) s = read_on (byte_len (c ∷ cs)) (reading cs) (pattern_next s c)
