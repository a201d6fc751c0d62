-- What a run that is being read holds of the characters read so far: the text of their lines as if the last one ended
-- here, the white space that this would take away, and what the next characters need.
--
-- Of "a \n b " it holds the text "a b" and the white space " ".
use Rattle.std.specs.Prelude.{◌≡◌, ℕ, List, [], ◌∷◌, ◌++◌, Bool, true, false, ◌&&◌, ◌||◌, not, if◌then◌else◌}
use Rattle.std.specs.List.{filter, slice_split}
use Rattle.std.specs.Str.{chars}
use Rattle.std.specs.String.{string_bytes}
use Rattle.soy_base.specs.WhiteSpace.{is_line_break}
use Rattle.soy_base.specs.Cuts.{is_nil}
use Rattle.soy_lexer.specs.Lines.{RunCharacter, Line, without_end, trimmed, trimmed_after, has_characters, lines_of}
use Rattle.soy_lexer.specs.Lines.{ends_angle, characters, joined, first_offset, last_end_offset}
use Rattle.soy_lexer.specs.declared.run.Run.{Run}

-- a line, if it has characters
abbrev pub unless_empty : Line → List Line
unless_empty [] = []
unless_empty (c ∷ cs) = (c ∷ cs) ∷ []

-- lines, with more characters before the first
abbrev pub prefixed_lines : Line → List Line → List Line
prefixed_lines line [] = []
prefixed_lines line (first ∷ lines) = (line ++ first) ∷ lines

-- the lines that are left of a line which begins so, and of the characters that follow
abbrev pub lines_after : Bool → Line → List RunCharacter → List Line
lines_after fresh line rest =
    let lines = prefixed_lines line (slice_split (λ c. is_line_break c.character) rest) in
    filter has_characters (if fresh then trimmed_after lines else trimmed lines)

-- the last of lines
abbrev pub last_line : List Line → Line
last_line [] = []
last_line (line ∷ []) = line
last_line (line ∷ next ∷ lines) = last_line (next ∷ lines)

-- each line has characters
abbrev pub AllFilled : List Line → Type 0
AllFilled [] = Unit {0}
AllFilled ([] ∷ lines) = ⊥
AllFilled ((c ∷ cs) ∷ lines) = AllFilled lines

-- a present line after a line break begins with no white space; one without other characters is the first
abbrev pub IsPresent : Bool → List Line → Line → Line → Type 0
IsPresent true done line white = (line ≡ []) × (white ≡ [])
IsPresent false done [] white = done ≡ []
IsPresent false done (c ∷ cs) white = Unit {0}

-- lines start at this offset, if there are any
abbrev pub StartsAt : List Line → ℕ → Type 0
StartsAt [] start = Unit {0}
StartsAt (line ∷ lines) start = first_offset (line ∷ lines) ≡ start

-- what the fields of a run are for its characters
pub record Represents (text white : List ℕ) (fresh angle : Bool) (start text_end end : ℕ) (run : List RunCharacter) :
    Type 0 where
  pub done : List Line  -- the lines that have ended, as they are left
  pub line : Line  -- the present one without the white space at its end
  pub tail : Line  -- that white space
  pub lines_are : (rest : List RunCharacter) → lines_of (run ++ rest) ≡ done ++ lines_after fresh (line ++ tail) rest
  pub filled : AllFilled done
  pub without : without_end (line ++ tail) ≡ line
  pub begins : IsPresent fresh done line tail
  pub text_is : text ≡ joined (done ++ unless_empty line)
  pub white_is : white ≡ characters tail
  pub angle_is : angle ≡ ends_angle (last_line (done ++ unless_empty line))
  pub starts : StartsAt (done ++ unless_empty (line ++ tail)) start
  pub text_ends : last_end_offset 0 (done ++ unless_empty line) ≡ text_end
  pub ends : last_end_offset 0 (done ++ unless_empty (line ++ tail)) ≡ end

-- the offset where a run starts to which one more character comes that stands at this offset
abbrev pub start_with : List ℕ → List ℕ → ℕ → ℕ → ℕ
start_with [] [] start offset = offset
start_with [] (w ∷ ws) start offset = start
start_with (c ∷ cs) white start offset = start

-- whether a space comes between a text and the next character, of which either may be `<` or `>`
abbrev pub needs_space : List ℕ → Bool → Bool → Bool → Bool
needs_space text fresh angle next = fresh && not (is_nil text) && not (angle || next)

-- a run was made of these characters
abbrev pub IsRunOf : Run → List RunCharacter → Type 0
IsRunOf run list =
    Represents (chars (string_bytes run.text)) (chars (string_bytes run.white)) run.fresh run.angle run.start
    run.text_end run.end list

-- one more character came to a run
abbrev pub AddsCharacter : Run → Run → RunCharacter → Type 0
AddsCharacter old new c = (run : List RunCharacter) → IsRunOf old run → IsRunOf new (run ++ c ∷ [])
