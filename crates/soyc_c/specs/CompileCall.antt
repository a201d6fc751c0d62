-- The files and the translations of a call that compiles: the names and contents of the files, which are parts of its
-- bytes, and the name and the content of the translations, if there are any.
--
-- Example: in the bytes "a.soy{namespace a}" the file with its name from 0 to 5 and its content from 5 to 18 is a.soy.
use Rattle.std.specs.Prelude.{ℕ, List, [], ◌∷◌, map, Option, None, Some, option_map, slice_get}
use Rattle.soyc_c.specs.Call.{all_of, both, file_at, text_at}
use Rattle.soyc_c.specs.Parts.{part_bytes}
use Rattle.soyc_c.specs.declared.parts.FileParts.{FileParts}
use Rattle.soy_top.specs.Words.{Word}

pub record CompileCall : Type 0 where
  pub names : List Word
  pub contents : List (List ℕ)
  -- the name and the content
  pub bundle : Option (Word × List ℕ)

abbrev pub names_at : List ℕ → List FileParts → Option (List Word)
names_at bytes files = all_of (map (λ file. text_at bytes file.name) files)

abbrev pub contents_at : List ℕ → List FileParts → Option (List (List ℕ))
contents_at bytes files = all_of (map (λ file. part_bytes bytes file.content) files)

-- the first of the translations, if there are any
abbrev pub bundle_at : List ℕ → Option FileParts → Option (Option (Word × List ℕ))
bundle_at bytes None = Some None
bundle_at bytes (Some parts) = option_map Some (file_at bytes parts)

abbrev pub compile_call : (List Word × List (List ℕ)) × Option (Word × List ℕ) → CompileCall
compile_call it = record { names = it.0.0; contents = it.0.1; bundle = it.1 }

abbrev pub compile_call_at : List ℕ → List FileParts → List FileParts → Option CompileCall
compile_call_at bytes files bundles =
    option_map compile_call
    (both (both (names_at bytes files) (contents_at bytes files)) (bundle_at bytes (slice_get bundles 0)))
