-- A text run: the characters that stand between two commands or literals, or between one of these and an end of the
-- file, without the comments in it, each with its offset; and the text that its lines make. The white space on both
-- sides of each line break goes, and other white space stays. Lines that are then empty go, and nothing is put for
-- them. Two lines that are left are joined with nothing where the one ends or the other begins with `<` or `>`, and
-- else with a space.
--
-- The run "Hello \n  world" has the text "Hello world", and "a\n<b>\n" the text "a<b>".
use Rattle.std.specs.Prelude.{ℕ, ◌+◌, List, [], ◌∷◌, ◌++◌, Bool, true, false, ◌||◌, ◌==◌, map, reverse, if◌then◌else◌}
use Rattle.std.specs.List.{filter, slice_split}
use Rattle.std.specs.Char.{len_utf8}
use Rattle.soy_base.specs.WhiteSpace.{is_template_space, is_line_break}
use Rattle.soy_base.specs.Characters.{space, less_than, greater_than}

-- a character of a run, with its offset in the file in bytes
pub record RunCharacter : Type 0 where
  pub offset : ℕ
  pub character : ℕ

abbrev pub Line : Type 0
Line = List RunCharacter

-- the line from its first character on that is no white space
abbrev pub without_start : Line → Line
without_start [] = []
without_start (c ∷ cs) = if is_template_space c.character then without_start cs else c ∷ cs

-- and up to its last one
abbrev pub without_end : Line → Line
without_end line = reverse (without_start (reverse line))

-- lines, of which the first follows a line break
abbrev pub trimmed_after : List Line → List Line
trimmed_after [] = []
trimmed_after (line ∷ []) = without_start line ∷ []
trimmed_after (line ∷ next ∷ lines) = without_end (without_start line) ∷ trimmed_after (next ∷ lines)

-- all lines of a run
abbrev pub trimmed : List Line → List Line
trimmed [] = []
trimmed (line ∷ []) = line ∷ []
trimmed (line ∷ next ∷ lines) = without_end line ∷ trimmed_after (next ∷ lines)

abbrev pub has_characters : Line → Bool
has_characters [] = false
has_characters (c ∷ cs) = true

-- the lines of a run that are left, with what is left of each
abbrev pub lines_of : List RunCharacter → List Line
lines_of run = filter has_characters (trimmed (slice_split (λ c. is_line_break c.character) run))

abbrev pub is_angle : ℕ → Bool
is_angle c = c == less_than || c == greater_than

abbrev pub begins_angle : Line → Bool
begins_angle [] = false
begins_angle (c ∷ cs) = is_angle c.character

abbrev pub ends_angle : Line → Bool
ends_angle line = begins_angle (reverse line)

-- what is put between two lines
abbrev pub line_joint : Line → Line → List ℕ
line_joint line next = if ends_angle line || begins_angle next then [] else space ∷ []

abbrev pub characters : Line → List ℕ
characters line = map (λ c. c.character) line

abbrev pub joined : List Line → List ℕ
joined [] = []
joined (line ∷ []) = characters line
joined (line ∷ next ∷ lines) = characters line ++ (line_joint line next ++ joined (next ∷ lines))

-- where the first character of lines stands
abbrev pub first_offset : List Line → ℕ
first_offset [] = 0
first_offset ([] ∷ lines) = first_offset lines
first_offset ((c ∷ cs) ∷ lines) = c.offset

-- the end of the last character, counted from `end` where there is none
abbrev pub end_offset : ℕ → Line → ℕ
end_offset end [] = end
end_offset end (c ∷ cs) = end_offset (c.offset + len_utf8 c.character) cs

abbrev pub last_end_offset : ℕ → List Line → ℕ
last_end_offset end [] = end
last_end_offset end (line ∷ lines) = last_end_offset (end_offset end line) lines
