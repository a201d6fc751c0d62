-- What `lex` and `parse` answer for the canonical source of a tree of a text.
use Rattle.std.proofs.Common.{◌≡◌, ℕ, ◌≤◌, List, Result, Ok, Err, length, ap, ◌∙◌}
use Rattle.std.specs.Str.{chars}
use Rattle.std.specs.declared.alloc.Global.{Global}
use Rattle.std.specs.declared.vec.Vec.{Vec}
use Rattle.soy_base.specs.declared.fault.Fault.{Fault}
use Rattle.soy_base.specs.declared.memory.Refusal.{Refusal}
use Rattle.soy_base.specs.declared.memory.Refusal.TheVariants.{Because, OutOfMemory}
use Rattle.soy_lexer.specs.Lexes.{Lexes}
use Rattle.soy_base.specs.Limits.{largest_file}
use Rattle.soy_lexer.specs.Tokens.{Tokens}
use Rattle.soy_lexer.specs.declared.token.Token.{Token}
use Rattle.soy_tree.specs.ViewTrees.{view_tree}
use Rattle.soy_tree.specs.declared.tree.Tree.{Tree}
use Rattle.soy_parser.specs.ParsesFile.{IsFile}
use Rattle.soy_parser.proofs.FormedTrees.{text_formed}
use Rattle.soy_format.specs.Formatted.{formatted_tree}
use Rattle.formatted_source.specs.Lexemes.{lexemes}
use Rattle.formatted_source.specs.ReadsAlike.{IsFileAlike, ReadsAlike}
use Rattle.formatted_source.specs.ReadsAs.{HasTokens, LexesAs}
use Rattle.formatted_source.specs.TreeLexemes.{tree_lexemes}
use Rattle.formatted_source.proofs.FilesSpelled.{text_spelled}
use Rattle.formatted_source.proofs.LexedTexts.{lexes_as, same_tokens}
use Rattle.formatted_source.proofs.ParsedTexts.{parses_alike}
use Rattle.formatted_source.proofs.Sourced.SourcedNodes.{text_tree}
use Rattle.formatted_source.proofs.Written.TreesWritten.{tree_written}

-- the tokens that it is written for
pub own_tokens : (text : List ℕ) (tokens : List Token) (t : Tree) → Tokens text tokens → IsFile tokens t
    → HasTokens (formatted_tree (view_tree t)) (tree_lexemes (view_tree t))
own_tokens text tokens t are file =
    tree_written (view_tree t) (text_formed text tokens t are file) (text_tree text tokens t are file)

-- **Its tokens are a file that is alike.**
pub source_spelled : (text : List ℕ) (tokens : List Token) (t : Tree) → Tokens text tokens
    → IsFile tokens t → (us : List Token) → Tokens (formatted_tree (view_tree t)) us → IsFileAlike us t
source_spelled text tokens t are file us whole =
    let own = own_tokens text tokens t are file in
    text_spelled text tokens t are file us
    (ap lexemes (same_tokens (formatted_tree (view_tree t)) us own.tokens whole own.whole) ∙ own.are)

-- what is answered for tokens of its lexemes
tokens_read : (text : List ℕ) (tokens : List Token) (t : Tree) → Tokens text tokens → IsFile tokens t
    → (number : ℕ) (lexed : Result (Vec Token Global) (Refusal Fault)) → LexesAs (tree_lexemes (view_tree t)) lexed
    → ReadsAlike number t lexed
tokens_read text tokens t are file number (Ok us) same =
    λ answer parsed. parses_alike number us.items t answer (text_spelled text tokens t are file us.items same) parsed
tokens_read text tokens t are file number (Err (Because fault)) same = same
tokens_read text tokens t are file number (Err OutOfMemory) same = tt

-- **And what `lex` answers for it is tokens of which `parse` answers a tree that is alike.**
pub source_read : (text : List ℕ) (tokens : List Token) (t : Tree) → Tokens text tokens → IsFile tokens t
    → (number : ℕ) (page : List ℕ) (lexed : Result (Vec Token Global) (Refusal Fault))
    → chars page ≡ formatted_tree (view_tree t) → length page ≤ largest_file → Lexes number page lexed
    → ReadsAlike number t lexed
source_read text tokens t are file number page lexed is within h =
    tokens_read text tokens t are file number lexed
    (lexes_as number page (formatted_tree (view_tree t)) (tree_lexemes (view_tree t)) lexed
    (own_tokens text tokens t are file) is within h)
