-- The files of a library, each its name and its bytes, and the bytes of the file of a name: of two
-- files of one name the first counts.
--
-- A name is the list of its UTF-8 bytes. Example: of the files ("a", 1), ("b", 2), ("a", 3) that of "a" is 1.
use Rattle.std.specs.Prelude.{ℕ, List, [], ◌∷◌, Option, None, Some, if◌then◌else◌}
use Rattle.std.specs.Str.{bytes_eq}

abbrev pub Files : Type 0
Files = List (List ℕ × List ℕ)

abbrev pub file_of : Files → List ℕ → Option (List ℕ)
file_of [] name = None
file_of (file ∷ files) name = if bytes_eq file.0 name then Some file.1 else file_of files name
