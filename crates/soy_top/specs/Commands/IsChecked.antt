-- A text says that the files and the bundle of the words are accepted.
--
-- The words are `check BUNDLE FILE..`, the library holds the bundle, but for `-`, and the files, these are accepted,
-- and the text is `ok` and a line feed.
-- Example: of `check - t.soy` where t.soy is `{namespace a}`.
use Rattle.std.specs.Prelude.{◌≡◌, ℕ, List, ◌∷◌, Option, codes}
use Rattle.soy_front.specs.Accepted.{Accepted}
use Rattle.soy_io.specs.FileOf.{Files}
use Rattle.soy_top.specs.Answer.{accepted_text}
use Rattle.soy_top.specs.Commands.HoldsInputs.{HoldsBundle, HoldsFiles}
use Rattle.soy_top.specs.Words.{Word}

pub record IsChecked (files : Files) (words : List Word) (text : List ℕ) : Type 0 where
  pub bundle : Word
  pub names : List Word
  pub content : Option (List ℕ)
  pub contents : List (List ℕ)
  pub words_are : words ≡ codes "check" ∷ bundle ∷ names
  pub bundle_held : HoldsBundle files bundle content
  pub files_held : HoldsFiles files names contents
  pub accepted : Accepted contents content
  pub text_is : text ≡ accepted_text
