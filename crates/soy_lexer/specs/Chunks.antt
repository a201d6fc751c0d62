-- What is read at once at the start of a text: outside of commands the characters of a run up to the first that may
-- begin something else, and in a command its white space. In a run a chunk comes as one: characters that are neither
-- white space nor `<` nor `>`, so that nothing is asked of each of them.
--
-- Of `ab c/d` outside of a command it is `ab c`, with the chunks `ab` and `c`.
use Rattle.std.specs.Prelude.{◌≡◌, ℕ, ◌+◌, ◌<◌, List, [], ◌∷◌, ◌++◌, Bool, false, ◌||◌, ◌==◌, not, IsTrue, length}
use Rattle.std.specs.Prelude.{Option, None, Some}
use Rattle.std.specs.List.{list_all}
use Rattle.std.specs.Char.{len_utf8}
use Rattle.std.specs.Str.{chars}
use Rattle.soy_base.specs.Cuts.{prefix_while, after_while}
use Rattle.soy_base.specs.WhiteSpace.{is_template_space}
use Rattle.soy_base.specs.Characters.{left_brace, right_brace, null, slash}
use Rattle.soy_lexer.specs.IsRunOf.{IsRunOf}
use Rattle.soy_lexer.specs.Lexed.{HasRead}
use Rattle.soy_lexer.specs.Lines.{RunCharacter, is_angle}
use Rattle.soy_lexer.specs.declared.mode.Mode.{Mode}
use Rattle.soy_lexer.specs.declared.mode.Mode.TheVariants.{Outside, Opened, Inside}
use Rattle.soy_lexer.specs.declared.lexer.Lexer.{Lexer}
use Rattle.soy_lexer.specs.declared.run.Run.{Run}
use Rattle.soy_lexer.specs.declared.run.AfterPiece.{AfterPiece}
use Rattle.soy_lexer.specs.declared.token.Token.{Token}

abbrev pub is_chunk_character : ℕ → Bool
is_chunk_character c =
    not (is_template_space c || is_angle c || c == null || c == slash || c == left_brace || c == right_brace)

-- outside of commands a character that can only be one of a run
abbrev pub is_plain : ℕ → Bool
is_plain c = not (c == null || c == slash || c == left_brace || c == right_brace)

abbrev pub begins_plain : List ℕ → Bool
begins_plain [] = false
begins_plain (c ∷ cs) = is_plain c

-- what is read at once at the start of a text in this mode, and what follows it
abbrev pub at_once : Mode → List ℕ → List ℕ
at_once (Outside white) text = prefix_while is_plain text
at_once Opened text = []
at_once Inside text = prefix_while is_template_space text

abbrev pub after_at_once : Mode → List ℕ → List ℕ
after_at_once (Outside white) text = after_while is_plain text
after_at_once Opened text = text
after_at_once Inside text = after_while is_template_space text

-- whether white space is the last of these characters, or stands before them where there are none
abbrev pub ends_white : Bool → List ℕ → Bool
ends_white white [] = white
ends_white white (c ∷ cs) = ends_white (is_template_space c) cs

-- the mode after them
abbrev pub mode_after_all : Mode → List ℕ → Mode
mode_after_all (Outside white) cs = Outside (ends_white white cs)
mode_after_all Opened cs = Opened
mode_after_all Inside cs = Inside

-- characters that stand one after the other from an offset on
abbrev pub run_characters : ℕ → List ℕ → List RunCharacter
run_characters offset [] = []
run_characters offset (c ∷ cs) = record { offset = offset; character = c } ∷ run_characters (offset + len_utf8 c) cs

-- those of a run among characters that are read at once in this mode
abbrev pub characters_at_once : Mode → ℕ → List ℕ → List RunCharacter
characters_at_once (Outside white) offset cs = run_characters offset cs
characters_at_once Opened offset cs = []
characters_at_once Inside offset cs = []

-- these characters came to a run
abbrev pub AddsCharacters : Run → Run → List RunCharacter → Type 0
AddsCharacters old new more = (run : List RunCharacter) → IsRunOf old run → IsRunOf new (run ++ more)

-- and to the run of a lexer
abbrev pub TakesCharacters : Lexer → Lexer → List RunCharacter → Type 0
TakesCharacters old new more =
    (tokens : List Token) (run : List RunCharacter) → HasRead old tokens run → HasRead new tokens (run ++ more)

-- characters at the start of a text came to a run, and what follows them
pub record AddsPrefix (old new : Run) (offset : ℕ) (text rest : List ℕ) : Type 0 where
  pub prefix : List ℕ
  pub whole : text ≡ prefix ++ rest
  pub plain : IsTrue (list_all is_plain prefix)
  pub adds : AddsCharacters old new (run_characters offset prefix)

-- the same with whether white space is the last of them, of which there is one at least
pub record AddsPiece (old new : Run) (offset : ℕ) (text rest : List ℕ) (white : Bool) : Type 0 where
  pub piece : AddsPrefix old new offset text rest
  pub white_is : (before : Bool) → white ≡ ends_white before piece.prefix
  pub shorter : length rest < length text

-- the next piece came to a run, unless none is left of its text
abbrev pub AddsNext : Run → Run → ℕ → List ℕ → Option AfterPiece → Type 0
AddsNext old new offset text None = (new ≡ old) × (begins_plain text ≡ false)
AddsNext old new offset text (Some after) = AddsPiece old new offset text (chars after.rest.now) after.white

-- all that is read at once outside of commands came to a run
pub record AddsAll (old new : Run) (offset : ℕ) (before : Bool) (text rest : List ℕ) (white : Bool) : Type 0 where
  pub rest_is : rest ≡ after_while is_plain text
  pub white_is : white ≡ ends_white before (prefix_while is_plain text)
  pub adds : AddsCharacters old new (run_characters offset (prefix_while is_plain text))

-- all that is read at once in this mode came to a lexer, which is then in that mode
pub record TakesAll (old new : Lexer) (offset : ℕ) (mode : Mode) (text rest : List ℕ) (mode' : Mode) : Type 0 where
  pub rest_is : rest ≡ after_at_once mode text
  pub mode_is : mode' ≡ mode_after_all mode (at_once mode text)
  pub takes : TakesCharacters old new (characters_at_once mode offset (at_once mode text))
