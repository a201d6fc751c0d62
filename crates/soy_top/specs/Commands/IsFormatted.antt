-- A text is the canonical source of the words and of the file that is held.
--
-- The words are `format FILE`, the library holds the file, which deserves its tree by itself, and the text is what is
-- written for the tree, as UTF-8. Of other demands there are none.
-- Example: `{namespace t}` and a line feed are the canonical source of `format t.soy` where t.soy is `{namespace t}`.
use Rattle.std.specs.Prelude.{◌≡◌, ℕ, List, [], ◌∷◌, Some, Ok, codes}
use Rattle.soy_front.specs.Deserves.{Deserves}
use Rattle.soy_io.specs.FileOf.{Files, file_of}
use Rattle.soy_tree.specs.declared.tree.Tree.{Tree}
use Rattle.soy_top.specs.Answer.{canonical_source}
use Rattle.soy_top.specs.Words.{Word}

pub record IsFormatted (files : Files) (words : List Word) (text : List ℕ) : Type 0 where
  pub name : Word
  pub bytes : List ℕ
  pub tree : Tree
  pub words_are : words ≡ codes "format" ∷ name ∷ []
  pub file_held : file_of files name ≡ Some bytes
  pub deserves : Deserves bytes (Ok tree)
  pub text_is : text ≡ canonical_source tree
