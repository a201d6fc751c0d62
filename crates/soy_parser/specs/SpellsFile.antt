-- Which tokens are a file, and which tree it is: the commands that they spell are one. And which tokens some file
-- begins with.
-- `SpellsFile ts ds ws tree`: the depths at the tokens ts are ds, and ws are true at the words that stand as types.
-- Neither limits the depth nor asks whether a word names a type.
-- Example: `{namespace a}` is a file without templates, and some file begins with `{namespace a`.
use Rattle.std.specs.Prelude.{◌≡◌, ℕ, Bool, List, ◌++◌, length}
use Rattle.soy_lexer.specs.declared.token.Token.{Token}
use Rattle.soy_tree.specs.declared.tree.Tree.{Tree}
use Rattle.soy_parser.specs.declared.command.Command.{Command}
use Rattle.soy_parser.specs.SpellsCommand.{SpellsCommands}
use Rattle.soy_parser.specs.SpellsTree.{SpellsTree}

pub record SpellsFile (tokens : List Token) (depths : List ℕ) (words : List Bool) (tree : Tree) : Type 0 where
  pub commands : List Command
  pub levels : List ℕ
  pub spell : SpellsCommands tokens depths words commands levels
  pub are : SpellsTree commands levels tree

pub record BeginsFile (tokens : List Token) (depths : List ℕ) (words : List Bool) : Type 0 where
  pub more : List Token
  pub other_depths : List ℕ
  pub other_words : List Bool
  pub tree : Tree
  pub spells : SpellsFile (tokens ++ more) (depths ++ other_depths) (words ++ other_words) tree
  pub one_depth_each : length depths ≡ length tokens
  pub one_word_each : length words ≡ length tokens
