-- The words are `render TEMPLATE DATA BUNDLE FILE..`, or those of a `preview`; the library holds the data, the bundle,
-- but for `-`, and the files; and the files and the bundle are accepted.
-- Example: `render t.m d.json - t.soy` where d.json and t.soy are held and t.soy is `{namespace t}`.
use Rattle.std.specs.Prelude.{◌≡◌, ℕ, List, ◌∷◌, Option, codes}
use Rattle.soy_front.specs.Accepted.{Accepted}
use Rattle.soy_front.specs.FrontAnswer.{DeserveFront, Front}
use Rattle.soy_io.specs.FileOf.{Files}
use Rattle.soy_top.specs.Commands.HoldsInputs.{HoldsBundle, HoldsData, HoldsFiles}
use Rattle.soy_top.specs.Words.{Word}

-- the words of a command that wants a page
pub record AcceptedPage (command : Word) (files : Files) (words : List Word) : Type 0 where
  pub template : Word
  pub json_name : Word
  pub bundle : Word
  pub names : List Word
  pub json : List ℕ
  pub content : Option (List ℕ)
  pub contents : List (List ℕ)
  -- what the files and the bundle are accepted as
  pub of : Front
  pub words_are : words ≡ command ∷ template ∷ json_name ∷ bundle ∷ names
  pub json_held : HoldsData files json_name json
  pub bundle_held : HoldsBundle files bundle content
  pub files_held : HoldsFiles files names contents
  pub accepted : Accepted contents content
  pub deserved : DeserveFront contents content of

abbrev pub AcceptedRender : Files → List Word → Type 0
AcceptedRender files words = AcceptedPage (codes "render") files words

abbrev pub AcceptedPreview : Files → List Word → Type 0
AcceptedPreview files words = AcceptedPage (codes "preview") files words
