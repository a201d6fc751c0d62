-- The files that are fetched for what the words ask for, in the order of the words, and what a library holds of them.
--
-- DATA, BUNDLE and SCRIPT may have 4 MiB, and a FILE 1 MiB. The bundle `-` is no file.
-- Example: `render t.m d.json - t.soy` wants d.json and then t.soy; where neither is held, d.json is the first.
use Rattle.std.specs.Prelude.{ℕ, List, [], ◌∷◌, ◌++◌, map, length, Bool, nat_lt, Option, None, Some, is_some, unwrap_or}
use Rattle.std.specs.Prelude.{if◌then◌else◌, codes, String}
use Rattle.std.specs.Option.{option_map_or}
use Rattle.std.specs.Str.{bytes_eq}
use Rattle.soy_io.specs.FileOf.{Files, file_of}
use Rattle.soy_top.specs.Asked.{Asked, Render, Check, Extract, Gen, Play, Preview, Format, asked_by_words}
use Rattle.soy_top.specs.Words.{Word, command_words}
use Rattle.soy_base.specs.Limits.{largest_file}

pub record FileWanted : Type 0 where
  pub name : Word
  -- the most bytes that it may have
  pub limit : ℕ

-- a FILE
abbrev pub source_file : Word → FileWanted
source_file name = record { name = name; limit = largest_file }

-- a DATA, a BUNDLE or a SCRIPT
abbrev pub data_file : Word → FileWanted
data_file name = record { name = name; limit = 4194304 }

abbrev pub is_source_language : Word → Bool
is_source_language bundle = bytes_eq bundle (codes "-")

abbrev pub bundle_files : Word → List FileWanted
bundle_files bundle = if is_source_language bundle then [] else data_file bundle ∷ []

-- the files of a `render` or `preview`
abbrev pub render_files : Word → Word → List Word → List FileWanted
render_files json bundle files = data_file json ∷ (bundle_files bundle ++ map source_file files)

-- the files of a `play`
abbrev pub play_files : Word → Word → Word → List Word → List FileWanted
play_files script first second files =
    data_file script ∷ (bundle_files first ++ (bundle_files second ++ map source_file files))

abbrev pub asked_files : Asked → List FileWanted
asked_files (Render template json bundle files) = render_files json bundle files
asked_files (Check bundle files) = bundle_files bundle ++ map source_file files
asked_files (Extract files) = map source_file files
asked_files (Gen number) = []
asked_files (Play script first second files) = play_files script first second files
asked_files (Preview template json bundle files) = render_files json bundle files
asked_files (Format file) = source_file file ∷ []

-- the files that the words want
abbrev pub wanted_files : List Word → List FileWanted
wanted_files words = option_map_or asked_files (asked_by_words words) []

abbrev pub file_names : List FileWanted → List Word
file_names wanted = map (λ file. file.name) wanted

-- the names of the files that the words of a call want
abbrev pub wanted_names : {A : Type 0} → List (String A) → List Word
wanted_names words = file_names (wanted_files (command_words words))

-- the files that are known: those that a library is known to hold, and none where none are wanted
abbrev pub known_files : Option Files → List FileWanted → Option Files
known_files (Some files) wanted = Some files
known_files None [] = Some []
known_files None (file ∷ wanted) = None

-- the first that isn't held
abbrev pub first_not_held : Files → List FileWanted → Option Word
first_not_held files [] = None
first_not_held files (file ∷ wanted) =
    if is_some (file_of files file.name) then first_not_held files wanted else Some file.name

-- the bytes of a file that is held
abbrev pub content : Files → FileWanted → List ℕ
content files file = unwrap_or (file_of files file.name) []

-- the first that is over its limit
abbrev pub first_over_limit : Files → List FileWanted → Option Word
first_over_limit files [] = None
first_over_limit files (file ∷ wanted) =
    if nat_lt file.limit (length (content files file)) then Some file.name else first_over_limit files wanted

-- the contents of them all
abbrev pub contents : Files → List FileWanted → List (List ℕ)
contents files wanted = map (content files) wanted
