-- The tree of a file is formed, as the checker asks.
use Rattle.std.proofs.Common.{◌≡◌, ℕ, true, List}
use Rattle.std.specs.Prelude.{Result, Ok, Err, IfOk}
use Rattle.soy_base.specs.declared.fault.Fault.{Fault}
use Rattle.soy_base.specs.declared.memory.Refusal.{Refusal}
use Rattle.soy_lexer.specs.Tokens.{Tokens}
use Rattle.soy_lexer.specs.declared.token.Token.{Token}
use Rattle.soy_parser.proofs.FormedTrees.{text_formed}
use Rattle.soy_parser.specs.ParsesFile.{ParsesFile}
use Rattle.soy_tree.specs.Formed.{is_formed_tree}
use Rattle.soy_tree.specs.ViewTrees.{view_tree}
use Rattle.soy_tree.specs.declared.tree.Tree.{Tree}

abbrev pub IsFormed : Tree → Type 0
IsFormed tree = is_formed_tree (view_tree tree) ≡ true

pub parsed_formed : (file : ℕ) (text : List ℕ) (tokens : List Token) (read : Result Tree (Refusal Fault))
    → Tokens text tokens → ParsesFile file tokens read → IfOk read IsFormed
parsed_formed file text tokens (Ok tree) are is = text_formed text tokens tree are is
parsed_formed file text tokens (Err refusal) are is = tt
