-- What a library holds of the files that the words of a command name.
--
-- The data and a bundle are held with their content, within their limit of 4 MiB; the bundle `-` is no file. Template
-- files are 1 to 64, and each is held; their limit, of 1 MiB, is asked where they are accepted.
-- Example: of the bundle `de.json` a library holds the bytes of its file de.json.
use Rattle.std.specs.Prelude.{◌≡◌, ◌≤◌, ℕ, List, length, map, Option, Some, None, IsTrue, codes}
use Rattle.soy_io.specs.FileOf.{Files, file_of}
use Rattle.soy_top.specs.Asked.{has_file_count}
use Rattle.soy_top.specs.Words.{Word}

abbrev pub HoldsData : Files → Word → List ℕ → Type 0
HoldsData files name bytes = (file_of files name ≡ Some bytes) × (length bytes ≤ 4194304)

abbrev pub HoldsBundle : Files → Word → Option (List ℕ) → Type 0
HoldsBundle files bundle None = bundle ≡ codes "-"
HoldsBundle files bundle (Some bytes) = (bundle ≡ codes "-" → ⊥) × HoldsData files bundle bytes

abbrev pub HoldsFiles : Files → List Word → List (List ℕ) → Type 0
HoldsFiles files names contents =
    IsTrue (has_file_count names) × (map (file_of files) names ≡ map Some contents)
