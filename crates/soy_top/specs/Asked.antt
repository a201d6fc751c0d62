-- What the words of the command line ask for.
--
-- Words are read by position, and there are no options. The first word names the command; where it
-- has FILE words, there are 1 to 64 of them. NUMBER is 1 to 10 decimal digits with a value below
-- 2 ^ 32; leading zeros are allowed. All other words ask for nothing.
-- Example: `render t.m d.json - t.soy` asks to render t.m of t.soy with the data of d.json.
use Rattle.std.specs.Prelude.{ℕ, ◌^◌, List, [], ◌∷◌, length, Bool, ◌&&◌, nat_lt, nat_le, Option, None, Some}
use Rattle.std.specs.Prelude.{option_map, if◌then◌else◌, codes}
use Rattle.std.specs.Char.{is_ascii_digit}
use Rattle.std.specs.List.{list_all}
use Rattle.std.specs.Str.{bytes_eq}
use Rattle.std.specs.Str.Parse.{digits_value}
use Rattle.soy_top.specs.Words.{Word}

pub data Asked : Type 0 where
  -- the template's full name, the data, the bundle, the files
  Render : Word → Word → Word → List Word → Asked
  -- the bundle, the files
  Check : Word → List Word → Asked
  -- the files
  Extract : List Word → Asked
  -- the number
  Gen : ℕ → Asked
  -- the script, the bundles, the files
  Play : Word → Word → Word → List Word → Asked
  -- the template's full name, the data, the bundle, the files
  Preview : Word → Word → Word → List Word → Asked
  -- the file
  Format : Word → Asked

-- whether there are as many files as a command takes
abbrev pub has_file_count : List Word → Bool
has_file_count files = nat_lt 0 (length files) && nat_le (length files) 64

-- what is asked where the words after it are 1 to 64 files
abbrev pub with_files : Asked → List Word → Option Asked
with_files asked files = if has_file_count files then Some asked else None

abbrev pub render_asked : List Word → Option Asked
render_asked [] = None
render_asked (template ∷ []) = None
render_asked (template ∷ data_file ∷ []) = None
render_asked (template ∷ data_file ∷ bundle ∷ files) = with_files (Render template data_file bundle files) files

abbrev pub check_asked : List Word → Option Asked
check_asked [] = None
check_asked (bundle ∷ files) = with_files (Check bundle files) files

abbrev pub extract_asked : List Word → Option Asked
extract_asked files = with_files (Extract files) files

-- whether a word is 1 to 10 decimal digits
abbrev pub are_digits : Word → Bool
are_digits word = list_all is_ascii_digit word && (nat_lt 0 (length word) && nat_le (length word) 10)

-- the value of 1 to 10 decimal digits, if it is below 2 ^ 32
abbrev pub number_of : Word → Option ℕ
number_of word =
    if are_digits word then (if nat_lt (digits_value 10 word) (2 ^ 32) then Some (digits_value 10 word) else None)
    else None

abbrev pub gen_asked : List Word → Option Asked
gen_asked [] = None
gen_asked (number ∷ []) = option_map Gen (number_of number)
gen_asked (number ∷ other ∷ words) = None

abbrev pub play_asked : List Word → Option Asked
play_asked [] = None
play_asked (script ∷ []) = None
play_asked (script ∷ first ∷ []) = None
play_asked (script ∷ first ∷ second ∷ files) = with_files (Play script first second files) files

abbrev pub preview_asked : List Word → Option Asked
preview_asked [] = None
preview_asked (template ∷ []) = None
preview_asked (template ∷ data_file ∷ []) = None
preview_asked (template ∷ data_file ∷ bundle ∷ files) = with_files (Preview template data_file bundle files) files

abbrev pub format_asked : List Word → Option Asked
format_asked [] = None
format_asked (file ∷ []) = Some (Format file)
format_asked (file ∷ other ∷ words) = None

-- what a command with its words asks for
abbrev pub command_asked : Word → List Word → Option Asked
command_asked command words =
    if bytes_eq command (codes "render") then render_asked words else
    (if bytes_eq command (codes "check") then check_asked words else
    (if bytes_eq command (codes "extract") then extract_asked words else
    (if bytes_eq command (codes "gen") then gen_asked words else
    (if bytes_eq command (codes "play") then play_asked words else
    (if bytes_eq command (codes "preview") then preview_asked words else
    (if bytes_eq command (codes "format") then format_asked words else None))))))

abbrev pub asked_by_words : List Word → Option Asked
asked_by_words [] = None
asked_by_words (command ∷ words) = command_asked command words

-- the template files that are accepted together, which are all but that of a `format`
abbrev pub source_files : Asked → List Word
source_files (Render template json bundle files) = files
source_files (Check bundle files) = files
source_files (Extract files) = files
source_files (Gen number) = []
source_files (Play script first second files) = files
source_files (Preview template json bundle files) = files
source_files (Format file) = []
