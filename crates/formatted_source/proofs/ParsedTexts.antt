-- What `parse` answers for tokens that are a file with a tree that is alike.
use Rattle.std.proofs.Common.{◌≡◌, ℕ, List, Result, Ok, Err, subst}
use Rattle.soy_base.specs.declared.fault.Fault.{Fault}
use Rattle.soy_base.specs.declared.memory.Refusal.{Refusal}
use Rattle.soy_base.specs.declared.memory.Refusal.TheVariants.{Because, OutOfMemory}
use Rattle.soy_lexer.specs.declared.token.Token.{Token}
use Rattle.soy_tree.specs.ViewTrees.{view_tree}
use Rattle.soy_tree.specs.declared.tree.Tree.{Tree}
use Rattle.soy_parser.specs.ParsesFile.{ParsesFile}
use Rattle.soy_parser.proofs.OfFiles.FileAnswers.{one_file_answer}
use Rattle.soy_format.specs.WithoutSpans.{AreAlike}
use Rattle.formatted_source.specs.ReadsAlike.{IsFileAlike, ParsesAlike}

-- **What is answered for such tokens is a tree that is alike.**
pub parses_alike : (file : ℕ) (tokens : List Token) (t : Tree) (answer : Result Tree (Refusal Fault))
    → IsFileAlike tokens t → ParsesFile file tokens answer → ParsesAlike t answer
parses_alike file tokens t (Ok x) has h =
    let own : has.tree ≡ x =
    cc (one_file_answer file tokens (Ok has.tree) (Ok x) has.file h (λ e. cc e) (λ e. cc e)) in
    subst (λ y. AreAlike (view_tree t) (view_tree y)) own has.alike
parses_alike file tokens t (Err (Because fault)) has h =
    cc (one_file_answer file tokens (Ok has.tree) (Err (Because fault)) has.file h (λ e. cc e) (λ e. cc e))
parses_alike file tokens t (Err OutOfMemory) has h = tt
