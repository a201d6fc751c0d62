-- What was fetched of the files that are wanted, and what that says of the files that are held.
--
-- Example: after a file within its limit, its bytes stand last in the contents; after one over its limit, the contents
-- are unchanged, and the first such file is known.
use Rattle.std.specs.Prelude.{◌≡◌, ℕ, List, [], ◌∷◌, ◌++◌, Option, None, Some, ◌⊎◌, Contains, IfSome, Result, Ok}
use Rattle.std.specs.Prelude.{Err, Vec, option_map}
use Rattle.std.specs.Option.{option_or}
use Rattle.std.specs.String.{string_bytes}
use Rattle.std.specs.declared.alloc.Global.{Global}
use Rattle.soy_io.specs.Fetches.{IsFileWithin, IsFileOver, HasNoFile}
use Rattle.soy_io.specs.FileOf.{Files}
use Rattle.soy_io.specs.Rose.{Rose}
use Rattle.soy_top.specs.declared.ending.Ending.{Ending}
use Rattle.soy_top.specs.declared.ending.Ending.TheVariants as ending
use Rattle.soy_top.specs.declared.fetch.Fetched.{Fetched}
use Rattle.soy_front.specs.declared.source.Source.{Source}
use Rattle.soy_top.specs.FilesWanted.{FileWanted, file_names, first_not_held, first_over_limit, contents}
use Rattle.soy_top.specs.Line.{ended, read_line, too_large_line}
use Rattle.soy_front.specs.ViewSources.{view_contents}
use Rattle.soy_top.specs.Words.{Word}

-- the contents so far, and the first file over its limit
pub record SoFar : Type 0 where
  pub contents : List (List ℕ)
  pub too_large : Option Word

abbrev pub view_fetched : Fetched → SoFar
view_fetched fetched = record {
  contents = view_contents fetched.contents.items;
  too_large = option_map (λ name. name.now) fetched.too_large;
}

-- after one more file, of which the bytes were fetched or which is over its limit
abbrev pub next_fetched : SoFar → Word → Option (Vec ℕ Global) → SoFar
next_fetched so_far name (Some bytes) =
    record { contents = so_far.contents ++ bytes.items ∷ []; too_large = so_far.too_large }
next_fetched so_far name None =
    record { contents = so_far.contents; too_large = option_or so_far.too_large (Some name) }

-- the contents, or the refusal of the first file over its limit
abbrev pub ContentsSoFar : List (List ℕ) → Option Word → Result (Vec Source Global) Ending → Type 0
ContentsSoFar contents too_large (Ok fetched) = (too_large ≡ None) × (view_contents fetched.items ≡ contents)
ContentsSoFar contents too_large (Err ending.Usage) = ⊥
ContentsSoFar contents too_large (Err (ending.Read line)) = ⊥
ContentsSoFar contents too_large (Err (ending.Refused line)) =
    (name : Word) × (too_large ≡ Some name) × (string_bytes line ≡ ended (too_large_line name))
ContentsSoFar contents too_large (Err ending.Memory) = Unit {0}

abbrev pub FetchedContents : SoFar → Result (Vec Source Global) Ending → Type 0
FetchedContents so_far result = ContentsSoFar so_far.contents so_far.too_large result

-- what a fetch of one file says
abbrev pub FetchesFile : Option Files → FileWanted → ℕ × ℕ → Result (Option (Vec ℕ Global)) Ending → Type 0
FetchesFile held file faults (Ok (Some bytes)) = IsFileWithin held file.name bytes.items file.limit
FetchesFile held file faults (Ok None) = IsFileOver held file.name file.limit
FetchesFile held file faults (Err ending.Usage) = ⊥
FetchesFile held file faults (Err (ending.Read line)) =
    (Rose faults.0 faults.1 ⊎ HasNoFile held file.name) × (string_bytes line ≡ ended (read_line file.name))
FetchesFile held file faults (Err (ending.Refused line)) = ⊥
FetchesFile held file faults (Err ending.Memory) = Unit {0}

-- the contents are those of the files, of which each is held and within its limit
pub record AreContents (files : Files) (wanted : List FileWanted) (fetched : List (List ℕ)) : Type 0 where
  pub all_held : first_not_held files wanted ≡ None
  pub all_within : first_over_limit files wanted ≡ None
  pub same : fetched ≡ contents files wanted

-- the first of the files that isn't held has this name, where they are known
abbrev pub IsNotHeld : Option Files → List FileWanted → Word → Type 0
IsNotHeld None wanted name = ⊥
IsNotHeld (Some files) wanted name = first_not_held files wanted ≡ Some name

-- what a fetch of all files says
abbrev pub FetchesAll : Option Files → List FileWanted → ℕ × ℕ → Result (Vec Source Global) Ending → Type 0
FetchesAll known wanted faults (Ok fetched) =
    IfSome known (λ files. AreContents files wanted (view_contents fetched.items))
FetchesAll known wanted faults (Err ending.Usage) = ⊥
FetchesAll known wanted faults (Err (ending.Read line)) =
    (name : Word) × Contains (file_names wanted) name × (Rose faults.0 faults.1 ⊎ IsNotHeld known wanted name)
    × (string_bytes line ≡ ended (read_line name))
FetchesAll known wanted faults (Err (ending.Refused line)) =
    (name : Word)
    × IfSome known (λ files. (first_not_held files wanted ≡ None) × (first_over_limit files wanted ≡ Some name))
    × (string_bytes line ≡ ended (too_large_line name))
FetchesAll known wanted faults (Err ending.Memory) = Unit {0}
