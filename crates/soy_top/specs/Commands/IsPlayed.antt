-- A text is what is written for the script of the words.
--
-- The words are `play SCRIPT BUNDLE BUNDLE FILE..`, the library holds the script, the bundles, but for `-`, and the
-- files, the files are accepted under each of the bundles, the script is UTF-8, and each line of it is a step; the text
-- is the lines of the steps.
-- Example: of a script `close 0` it is `unknown 0` and a line feed.
use Rattle.std.specs.Prelude.{◌≡◌, ℕ, List, ◌∷◌, Option, Ok, codes}
use Rattle.std.specs.Str.{IsUtf8}
use Rattle.soy_front.specs.Accepted.{Accepted}
use Rattle.soy_front.specs.FrontAnswer.{DeserveFront, Front}
use Rattle.soy_io.specs.FileOf.{Files}
use Rattle.soy_top.specs.Answer.{steps_of}
use Rattle.soy_top.specs.Commands.HoldsInputs.{HoldsBundle, HoldsData, HoldsFiles}
use Rattle.soy_top.specs.Scripts.Played.{PlayStep, played_text}
use Rattle.soy_top.specs.Words.{Word}

-- the inputs of a `play` that are accepted
pub record AcceptedPlay (files : Files) (words : List Word) : Type 0 where
  pub script : Word
  pub first : Word
  pub second : Word
  pub names : List Word
  pub bytes : List ℕ
  pub content : Option (List ℕ)
  pub other_content : Option (List ℕ)
  pub contents : List (List ℕ)
  -- what the files and the bundles are accepted as
  pub of : Front
  pub other : Front
  pub words_are : words ≡ codes "play" ∷ script ∷ first ∷ second ∷ names
  pub script_held : HoldsData files script bytes
  pub first_held : HoldsBundle files first content
  pub second_held : HoldsBundle files second other_content
  pub files_held : HoldsFiles files names contents
  pub accepted : Accepted contents content
  pub other_accepted : Accepted contents other_content
  pub deserved : DeserveFront contents content of
  pub other_deserved : DeserveFront contents other_content other

pub record IsPlayed (files : Files) (words : List Word) (text : List ℕ) : Type 0 where
  pub play : AcceptedPlay files words
  pub steps : List PlayStep
  pub utf8 : IsUtf8 play.bytes
  pub checked : steps_of play.of play.other play.bytes ≡ Ok steps
  pub text_is : text ≡ played_text steps
