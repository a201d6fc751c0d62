-- A text is the catalogue of the words and of the files that are held.
--
-- The words are `extract FILE..`, the library holds the files, each deserves its tree, the trees meet all demands, no
-- two messages of one id differ, and the text is the catalogue of the trees as JSON and a line feed.
-- Example: `{"messages":[]}` and a line feed are the catalogue of `extract t.soy` where t.soy has no message.
use Rattle.std.specs.Prelude.{◌≡◌, ℕ, List, ◌∷◌, codes}
use Rattle.msg_extract.specs.declared.catalogue.Listed.{Listed}
use Rattle.soy_front.specs.Accepted.{AreFiles}
use Rattle.soy_io.specs.FileOf.{Files}
use Rattle.soy_tree.specs.declared.tree.Tree.{Tree}
use Rattle.soy_top.specs.Answer.{catalogue_text}
use Rattle.soy_top.specs.Commands.HoldsInputs.{HoldsFiles}
use Rattle.soy_top.specs.Words.{Word}

pub record IsCatalogue (files : Files) (words : List Word) (text : List ℕ) : Type 0 where
  pub names : List Word
  pub contents : List (List ℕ)
  pub trees : List Tree
  pub rows : List Listed
  pub words_are : words ≡ codes "extract" ∷ names
  pub files_held : HoldsFiles files names contents
  pub are_files : AreFiles contents trees rows
  pub text_is : text ≡ catalogue_text rows
