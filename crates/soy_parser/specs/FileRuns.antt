-- What the machine of files makes of a list of tokens: the state after them, and for each of them the depth at it and
-- whether it is a word that stands as a type.
-- Example: after `{namespace a}` the templates of a file may come; the depths are 0.
use Rattle.std.specs.Prelude.{ℕ, Bool, List, [], ◌∷◌, Option, Some, None}
use Rattle.soy_lexer.specs.declared.token.Token.{Token}
use Rattle.soy_parser.specs.declared.spot.FileState.{FileState}
use Rattle.soy_parser.specs.FileSteps.{file_step, token_depth, word_in}

-- the state after the tokens; there is none where one of them has no step
abbrev pub file_run_from : (FileState → Option FileState) → Option FileState → Option FileState
file_run_from go_on None = None
file_run_from go_on (Some s) = go_on s

abbrev pub file_run : List Token → FileState → Option FileState
file_run [] s = Some s
file_run (t ∷ ts) s = file_run_from (file_run ts) (file_step s t)

-- the depths at the tokens
abbrev pub file_depths_from : FileState → (FileState → List ℕ) → Option FileState → List ℕ
file_depths_from s go_on None = []
file_depths_from s go_on (Some to) = token_depth s to ∷ go_on to

abbrev pub file_depths : List Token → FileState → List ℕ
file_depths [] s = []
file_depths (t ∷ ts) s = file_depths_from s (file_depths ts) (file_step s t)

-- which tokens are words that stand as types
abbrev pub file_words_from : (FileState → List Bool) → Option FileState → List Bool
file_words_from go_on None = []
file_words_from go_on (Some to) = word_in to.spot ∷ go_on to

abbrev pub file_words : List Token → FileState → List Bool
file_words [] s = []
file_words (t ∷ ts) s = file_words_from (file_words ts) (file_step s t)
