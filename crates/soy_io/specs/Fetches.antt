-- What a fetch's answer says of the file and of the list that it is appended to, from `old` to
-- `new`: `Whole` appended the bytes of the file, which are at most `limit`; `TooLarge` says that
-- they are more, and `Missing` that there is no such file; after each answer but `Whole` the list
-- is unchanged. Where the library's files aren't known, `Missing` never comes, and the others say
-- nothing of a file.
--
-- Example: with the file ("a", "xyz"), a fetch of "a" within 3 is `Whole`, and within 2 `TooLarge`.
use Rattle.std.specs.Prelude.{◌≡◌, ℕ, ◌<◌, ◌≤◌, List, ◌++◌, length, Option, None, Some, Result, Ok, Err}
use Rattle.soy_io.specs.FileOf.{Files, file_of}
use Rattle.soy_io.specs.declared.library.Fetch.{Fetch}
use Rattle.soy_io.specs.declared.library.Fetch.TheVariants.{Whole, TooLarge, Missing}
use Rattle.soy_io.specs.declared.library.FetchFault.{FetchFault}

-- these are the bytes of the file, and not over the limit
abbrev pub IsFileWithin : Option Files → List ℕ → List ℕ → ℕ → Type 0
IsFileWithin None name bytes limit = Unit {0}
IsFileWithin (Some files) name bytes limit = (file_of files name ≡ Some bytes) × (length bytes ≤ limit)

-- the file is longer than the limit
abbrev pub IsFileOver : Option Files → List ℕ → ℕ → Type 0
IsFileOver None name limit = Unit {0}
IsFileOver (Some files) name limit = (bytes : List ℕ) × (file_of files name ≡ Some bytes) × (limit < length bytes)

-- there is no such file, which contracts know only where the files are known
abbrev pub HasNoFile : Option Files → List ℕ → Type 0
HasNoFile None name = ⊥
HasNoFile (Some files) name = file_of files name ≡ None

abbrev pub Fetches : Option Files → List ℕ → ℕ → List ℕ → List ℕ → Result Fetch FetchFault → Type 0
Fetches held name limit old new (Ok Whole) =
    (bytes : List ℕ) × (new ≡ old ++ bytes) × IsFileWithin held name bytes limit
Fetches held name limit old new (Ok TooLarge) = (new ≡ old) × IsFileOver held name limit
Fetches held name limit old new (Ok Missing) = (new ≡ old) × HasNoFile held name
Fetches held name limit old new (Err fault) = new ≡ old
