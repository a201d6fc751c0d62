-- When a bundle fits files.
-- A bundle fits files where the translation of each of their messages, if there is one, is the parts of a pattern, and
-- names what the message has. Example: the bundle of the source language, which has no translations, fits all files.
use Rattle.std.specs.Prelude.{◌≡◌, ℕ, Bool, false, ◌||◌, List, [], ◌∷◌, bytes_eq}
use Rattle.soy_tree.specs.declared.bundle.Bundle.{Bundle}
use Rattle.soy_tree.specs.declared.bundle.Translation.{Translation}
use Rattle.soy_tree.specs.Trees.{Tree}
use Rattle.msg_extract.specs.Fits.{FitsTrees}
use Rattle.msg_extract.specs.Translations.{translation_of}

abbrev pub is_translated : List Translation → List ℕ → Bool
is_translated [] id = false
is_translated (t ∷ ts) id = bytes_eq t.id id || is_translated ts id

-- no id has two translations
abbrev pub AreOfOneEach : List Translation → Type 0
AreOfOneEach [] = Unit {0}
AreOfOneEach (t ∷ ts) = (is_translated ts t.id ≡ false) × AreOfOneEach ts

-- **the bundle fits files**
abbrev pub BundleFits : Bundle → List Tree → Type 0
BundleFits bundle trees = FitsTrees (translation_of bundle.messages) trees
