-- The inputs of a command: the contents of its template files, which are the last, and those of the files before them.
--
-- Example: of `render t.m d.json de.json t.soy` the contents of d.json and de.json stand before that of t.soy.
use Rattle.std.specs.Prelude.{ℕ, ◌-◌, List, length, drop, take, Option, Some, None, if◌then◌else◌}
use Rattle.soy_top.specs.FilesWanted.{is_source_language}
use Rattle.soy_top.specs.Numbered.{numbered}
use Rattle.soy_top.specs.Words.{Word}

-- the last so many of a list
abbrev pub last : {A : Type 0} → ℕ → List A → List A
last n xs = drop (length xs - n) xs

-- those before them
abbrev pub but_last : {A : Type 0} → ℕ → List A → List A
but_last n xs = take (length xs - n) xs

-- the content of a bundle, which is that of this number; the bundle `-` is no file
abbrev pub bundle_content : Word → ℕ → List (List ℕ) → Option (List ℕ)
bundle_content bundle number before = if is_source_language bundle then None else Some (numbered number before)

-- the number of the content of the second bundle of a `play`
abbrev pub second_number : Word → ℕ
second_number first = if is_source_language first then 1 else 2
