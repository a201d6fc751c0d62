-- Reading a text gives a tree that is alike: `lex` answers tokens, and `parse` of these a tree that differs from the
-- given one in spans alone. Neither refuses; of memory that runs out nothing is said.
-- Example: of the tree of `{namespace t}{template m}{1}{/template}` the canonical source is read as a tree that is
-- alike, with other spans.
use Rattle.std.specs.Prelude.{ℕ, List, Result, Ok, Err}
use Rattle.std.specs.declared.alloc.Global.{Global}
use Rattle.std.specs.declared.vec.Vec.{Vec}
use Rattle.soy_base.specs.declared.fault.Fault.{Fault}
use Rattle.soy_base.specs.declared.memory.Refusal.{Refusal}
use Rattle.soy_base.specs.declared.memory.Refusal.TheVariants.{Because, OutOfMemory}
use Rattle.soy_lexer.specs.declared.token.Token.{Token}
use Rattle.soy_tree.specs.ViewTrees.{view_tree}
use Rattle.soy_tree.specs.declared.tree.Tree.{Tree}
use Rattle.soy_parser.specs.ParsesFile.{IsFile, ParsesFile}
use Rattle.soy_format.specs.WithoutSpans.{AreAlike}

-- these tokens are a file whose tree is alike
pub record IsFileAlike (tokens : List Token) (t : Tree) : Type 0 where
  pub tree : Tree
  pub file : IsFile tokens tree
  pub alike : AreAlike (view_tree t) (view_tree tree)

-- an answer of `parse` is a tree that is alike
abbrev pub ParsesAlike : Tree → Result Tree (Refusal Fault) → Type 0
ParsesAlike t (Ok x) = AreAlike (view_tree t) (view_tree x)
ParsesAlike t (Err (Because fault)) = ⊥
ParsesAlike t (Err OutOfMemory) = Unit {0}

-- an answer of `lex` is tokens of which `parse`, for a file of this number, answers such a tree
abbrev pub ReadsAlike : ℕ → Tree → Result (Vec Token Global) (Refusal Fault) → Type 0
ReadsAlike file t (Ok tokens) =
    (answer : Result Tree (Refusal Fault)) → ParsesFile file tokens.items answer → ParsesAlike t answer
ReadsAlike file t (Err (Because fault)) = ⊥
ReadsAlike file t (Err OutOfMemory) = Unit {0}
