-- What a text has, and what tokens are: the one or the other.
--
-- That each text and all tokens are so is proved by what the lexer and the parser do; only what is found counts here.
-- Example: the text `{namespace a` has tokens, and these are no file: they deserve the 4 at the offset 12.
use Rattle.std.specs.Prelude.{◌≡◌, ℕ, List, ◌⊎◌, Result, Ok, Err}
use Rattle.std.proofs.Common.{inl, inr, refl}
use Rattle.soy_base.specs.declared.fault.Fault.{Fault}
use Rattle.soy_lexer.specs.Tokens.{Tokens, FirstFault}
use Rattle.soy_lexer.specs.declared.token.Token.{Token}
use Rattle.soy_lexer.proofs.SomeSegments as segments
use Rattle.soy_parser.specs.FileReading.{reading_file}
use Rattle.soy_parser.specs.FileSteps.{file_start}
use Rattle.soy_parser.specs.ParsesFile.{IsFile, RefusesTokens}
use Rattle.soy_parser.proofs.OfFiles.FileReads.{read-ParsesFile, refused-ParsesFile}
use Rattle.soy_tree.specs.declared.tree.Tree.{Tree}

-- a text has its tokens, or a first offset where no token begins
abbrev pub TokensOrFault : List ℕ → Type 0
TokensOrFault text = ((tokens : List Token) × Tokens text tokens) ⊎ ((offset : ℕ) × FirstFault text offset)

pub tokens_or_fault : (text : List ℕ) → TokensOrFault text
tokens_or_fault text = segments.tokens_or_fault text

-- tokens are a file with its tree, or they deserve a fault
abbrev pub FileOrFault : List Token → Type 0
FileOrFault tokens =
    ((tree : Tree) × IsFile tokens tree)
    ⊎ ((fault : Fault) × (fault.file ≡ 0) × RefusesTokens tokens fault.code fault.at)

by_reading : (tokens : List Token) (read : Result Tree Fault) → reading_file 0 0 tokens file_start ≡ read
    → FileOrFault tokens
by_reading tokens (Ok tree) e = inl (tree, read-ParsesFile 0 tokens tree e)
by_reading tokens (Err fault) e = let p = refused-ParsesFile 0 tokens fault e in inr (fault, p.0, p.1)

pub file_or_fault : (tokens : List Token) → FileOrFault tokens
file_or_fault tokens = by_reading tokens (reading_file 0 0 tokens file_start) refl
