-- What a template file deserves by the rules of its text, its tokens and the grammar: its tree, or its first fault.
--
-- That this is what `source_answer` gives, and nothing else, is a law.
-- Example: the file `{namespace a}` deserves the tree without templates that its tokens spell.
use Rattle.std.specs.Prelude.{ℕ, ◌≤◌, ◌<◌, List, length, Result, Ok, Err}
use Rattle.std.specs.Str.{chars, IsUtf8, IsValidUpTo}
use Rattle.soy_base.specs.declared.code.Code.TheVariants as code
use Rattle.soy_base.specs.declared.fault.Fault.{Fault}
use Rattle.soy_base.specs.declared.memory.Refusal.TheVariants.{Because}
use Rattle.soy_base.specs.Limits.{largest_file}
use Rattle.soy_lexer.specs.Tokens.{Tokens, FirstFault}
use Rattle.soy_lexer.specs.declared.token.Token.{Token}
use Rattle.soy_parser.specs.FileReading.{fault_at}
use Rattle.soy_parser.specs.ParsesFile.{ParsesFile}
use Rattle.soy_tree.specs.declared.tree.Tree.{Tree}

-- the bytes are a text that is no longer than a file may be
pub record IsSourceText (bytes : List ℕ) : Type 0 where
  pub utf8 : IsUtf8 bytes
  pub within : length bytes ≤ largest_file

pub data Deserves (bytes : List ℕ) : Result Tree Fault → Type 0 where
  -- its longest prefix that is UTF-8 ends at the offset, and it doesn't end there itself
  NotUtf8 : (offset : ℕ) → IsValidUpTo bytes offset → Deserves bytes (Err (fault_at 0 code.NotUtf8 offset))
  TooLarge : IsUtf8 bytes → largest_file < length bytes → Deserves bytes (Err (fault_at 0 code.TooLarge 0))
  NoToken : (offset : ℕ) → IsSourceText bytes → FirstFault (chars bytes) offset
      → Deserves bytes (Err (fault_at 0 code.Lex offset))
  NoFile : (tokens : List Token) (fault : Fault) → IsSourceText bytes → Tokens (chars bytes) tokens
      → ParsesFile 0 tokens (Err (Because fault)) → Deserves bytes (Err fault)
  File : (tokens : List Token) (tree : Tree) → IsSourceText bytes → Tokens (chars bytes) tokens
      → ParsesFile 0 tokens (Ok tree) → Deserves bytes (Ok tree)
