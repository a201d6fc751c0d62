-- The words and the files of a call, which are parts of its bytes: a word and a name are UTF-8, and a content is any
-- bytes. Where a part isn't one of the bytes, or a word or a name isn't UTF-8, the call has neither words nor files.
--
-- Example: in the bytes "formata.soy{namespace a}" the words from 0 to 6 and from 6 to 11 are `format` and `a.soy`, and
-- the file with its name from 6 to 11 and its content from 11 to 24 is a.soy.
use Rattle.std.specs.Prelude.{ℕ, List, [], ◌∷◌, map, Option, None, Some, option_map, option_and_then}
use Rattle.std.specs.Prelude.{if◌then◌else◌}
use Rattle.std.specs.Str.{is_utf8}
use Rattle.soy_io.specs.FileOf.{Files}
use Rattle.soy_top.specs.Words.{Word}
use Rattle.soyc_c.specs.Parts.{part_bytes}
use Rattle.soyc_c.specs.declared.parts.FileParts.{FileParts}
use Rattle.soyc_c.specs.declared.parts.Part.{Part}

pub record Call : Type 0 where
  pub words : List Word
  pub files : Files

-- bytes that are UTF-8
abbrev pub if_utf8 : List ℕ → Option (List ℕ)
if_utf8 bytes = if is_utf8 bytes then Some bytes else None

-- a word or a name
abbrev pub text_at : List ℕ → Part → Option (List ℕ)
text_at bytes part = option_and_then if_utf8 (part_bytes bytes part)

-- both of two that may be missing
abbrev pub both : {A B : Type 0} → Option A → Option B → Option (A × B)
both first second = option_and_then (λ a. option_map (λ b. (a, b)) second) first

abbrev pub file_at : List ℕ → FileParts → Option (List ℕ × List ℕ)
file_at bytes file = both (text_at bytes file.name) (part_bytes bytes file.content)

-- all of several, unless one is missing
abbrev pub all_of : {A : Type 0} → List (Option A) → Option (List A)
all_of [] = Some []
all_of (first ∷ others) = option_and_then (λ a. option_map (λ rest. a ∷ rest) (all_of others)) first

abbrev pub words_at : List ℕ → List Part → Option (List Word)
words_at bytes parts = all_of (map (text_at bytes) parts)

abbrev pub files_at : List ℕ → List FileParts → Option Files
files_at bytes files = all_of (map (file_at bytes) files)

abbrev pub call_of : List Word × Files → Call
call_of it = record { words = it.0; files = it.1 }

abbrev pub call_at : List ℕ → List Part → List FileParts → Option Call
call_at bytes words files = option_map call_of (both (words_at bytes words) (files_at bytes files))
