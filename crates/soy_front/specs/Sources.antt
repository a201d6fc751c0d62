-- What a template file deserves, given as its bytes: its tree, or its first fault.
--
-- A file that isn't UTF-8 is refused with 1, where its longest prefix that is UTF-8 ends. A text is refused with 3 at
-- the first offset where no token begins, and its tokens with 4, 5 or 8 where they are no file. That there is no other
-- tree and no other fault is the law of `Deserves`.
-- Example: the file `{namespace a` is refused with 4 at its end, which is the offset 12.
use Rattle.std.specs.Prelude.{ℕ, List, length, Result, Ok, Err, nat_lt, if◌then◌else◌}
use Rattle.std.specs.Str.{chars, is_utf8}
use Rattle.std.specs.Str.Lossy.{utf8_valid_len}
use Rattle.std.proofs.Common.{inl, inr}
use Rattle.soy_base.specs.declared.code.Code.TheVariants as code
use Rattle.soy_base.specs.declared.fault.Fault.{Fault}
use Rattle.soy_base.specs.Limits.{largest_file}
use Rattle.soy_lexer.specs.declared.token.Token.{Token}
use Rattle.soy_parser.specs.FileReading.{fault_at}
use Rattle.soy_tree.specs.declared.tree.Tree.{Tree}
use Rattle.soy_front.specs.FileOrFault.{TokensOrFault, FileOrFault, file_or_fault, tokens_or_fault}

-- the tree, or the fault
abbrev pub answer_by_file : {tokens : List Token} → FileOrFault tokens → Result Tree Fault
answer_by_file (inl found) = Ok found.0
answer_by_file (inr refused) = Err refused.0

-- the tree of its tokens, or its first fault
abbrev pub answer_by_tokens : {text : List ℕ} → TokensOrFault text → Result Tree Fault
answer_by_tokens (inl found) = answer_by_file (file_or_fault found.0)
answer_by_tokens (inr stopped) = Err (fault_at 0 code.Lex stopped.0)

-- the same of a text that is given as its bytes
abbrev pub text_answer : List ℕ → Result Tree Fault
text_answer text =
    if nat_lt largest_file (length text) then Err (fault_at 0 code.TooLarge 0)
    else answer_by_tokens (tokens_or_fault (chars text))

abbrev pub source_answer : List ℕ → Result Tree Fault
source_answer bytes =
    if is_utf8 bytes then text_answer bytes else Err (fault_at 0 code.NotUtf8 (utf8_valid_len bytes))
